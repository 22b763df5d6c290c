-- A dossier has no fault as one, and bytes have one line of a verdict and one line of a fault at most.
use Rattle.std.proofs.Common.{◌≡◌, ◌++◌, ◌∙◌, inl, inr, ℕ, Bool, true, false, List, ap, refl, sym, subst}
use Rattle.std.specs.Prelude.{codes}
use Rattle.seat_matrix.specs.Matrix.{SeatTable}
use Rattle.office_asks.specs.declared.ask.Request.{Request}
use Rattle.office_moves.specs.Facts.{SeasonFacts}
use Rattle.dossier_file.specs.declared.dossier.Dossier.{Dossier}
use Rattle.audit_rules.specs.declared.verdict.Verdict.{Verdict}
use Rattle.audit_rules.specs.declared.verdict.Verdict.TheVariants.{Sound, Broken}
use Rattle.special_audit.specs.Laws.{AreAlike, HaveOneFinding}
use Rattle.special_audit.specs.declared.found.Found.{Found}
use Rattle.special_audit.specs.declared.found.Found.TheVariants.{OfSeason, OfSpecial}
use Rattle.special_audit.specs.declared.found.FoundFault.{FoundFault}
use Rattle.audit_command.specs.Audit.{HaveOneAudit, IsAuditOutput, IsBrokenOutput, IsFoundLine, IsSoundOutput, found_verdict_line, says_sound, verdict_of}
use Rattle.audit_command.specs.Texts.{found_line, special_verdict_line, verdict_line}

-- the verdicts that decide are one
pub alike_verdict : (found other : Found) → AreAlike found other → verdict_of found ≡ verdict_of other
alike_verdict (OfSeason dossier verdict) (OfSeason other more) are = are.1
alike_verdict (OfSeason dossier verdict) (OfSpecial other rounds special more) are = absurd are
alike_verdict (OfSpecial dossier rounds special verdict) (OfSeason other more) are = absurd are
alike_verdict (OfSpecial dossier rounds special verdict) (OfSpecial other number again more) are = are.3

-- and so are their lines
pub alike_line : (found other : Found) → AreAlike found other → found_verdict_line found ≡ found_verdict_line other
alike_line (OfSeason dossier verdict) (OfSeason other more) are =
    ap (λ (f : SeasonFacts). verdict_line f.matrix verdict) are.0.facts ∙ ap (λ (v : Verdict). verdict_line other.season.matrix v) are.1
alike_line (OfSeason dossier verdict) (OfSpecial other rounds special more) are = absurd are
alike_line (OfSpecial dossier rounds special verdict) (OfSeason other more) are = absurd are
alike_line (OfSpecial dossier rounds special verdict) (OfSpecial other number again more) are =
    ap (λ (f : SeasonFacts). special_verdict_line f.matrix rounds verdict) are.2.facts
    ∙ (ap (λ (n : ℕ). special_verdict_line again.season.matrix n verdict) are.1 ∙ ap (λ (v : Verdict). special_verdict_line again.season.matrix number v) are.3)

-- an output is the line of what is found
found_of : (bytes output : List ℕ) → IsAuditOutput bytes output → (found : Found) × IsFoundLine bytes found output
found_of bytes output (inl sound) = (sound.0, sound.2)
found_of bytes output (inr broken) = (broken.0, broken.2)

-- Bytes have one audit.
pub one_audit_of : (bytes : List ℕ) → HaveOneFinding bytes → HaveOneAudit bytes
one_audit_of bytes one = record {
  apart = λ is has. one.apart is.0 has.0 is.1 has.1;
  of_input = λ output is. let found = found_of bytes output is in (found.0, found.1.0);
  of_fault = λ line has. (has.0, has.1);
  one_output = λ output other a b.
      let first = found_of bytes output a in
      let second = found_of bytes other b in
      first.1.1 ∙ (alike_line first.0 second.0 (one.one_found first.0 second.0 first.1.0 second.1.0) ∙ sym second.1.1);
  one_line = λ line other a b. a.2 ∙ ap found_line (one.one_fault a.0 b.0 a.1 b.1) ∙ sym b.2;
  one_kind = λ output other a b.
      let same = alike_verdict a.0 b.0 (one.one_found a.0 b.0 a.2.0 b.2.0) in
      let e : true ≡ false = sym a.1 ∙ ap says_sound same ∙ b.1 in cc;
}
