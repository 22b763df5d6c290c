-- What an audit writes of a dossier in which no clause is broken and each round is the best one.
use Rattle.std.proofs.Common.{◌≡◌, ◌++◌, inl, inr, ℕ, Bool, true, false, List, Some, refl, sym, ap, subst, ◌∙◌}
use Rattle.season_facts.specs.Season.{facts_of}
use Rattle.audit_rules.specs.Verdict.{IsVerdict}
use Rattle.audit_rules.specs.declared.verdict.Verdict.{Verdict}
use Rattle.audit_rules.specs.declared.verdict.Verdict.TheVariants.{Sound, Broken}
use Rattle.best_audit.specs.Best.{IsBestVerdict}
use Rattle.best_audit.specs.declared.verdict.BestVerdict.TheVariants.{Best, NotBest}
use Rattle.season_audit.specs.Audit.{papers_in}
use Rattle.dossier_file.specs.Dossier.{IsDossier}
use Rattle.dossier_file.specs.declared.dossier.Dossier.{Dossier}
use Rattle.one_output.specs.VerdictLaws.{OneVerdictOfBytes}
use Rattle.command_answers.specs.Status.{IsAnswered}
use Rattle.command_answers.specs.Writes.{Writes}
use Rattle.command_answers.specs.declared.status.Status.{Status}
use Rattle.command_answers.specs.declared.status.Status.TheVariants.{Ok as Done}
use Rattle.command_answers.proofs.Answered.{by_answer}
use Rattle.same_input_laws.proofs.Written.{left_has, whole}
use Rattle.special_audit.specs.Found.{IsFound}
use Rattle.special_audit.specs.declared.found.Found.{Found}
use Rattle.special_audit.specs.declared.found.Found.TheVariants.{OfSeason, OfSpecial}
use Rattle.special_audit.proofs.OneFinding.{faultless, not_followed}
use Rattle.audit_command.specs.Audit.{IsAuditText, IsBrokenOutput, IsDossierFaultLine, IsSoundOutput, found_verdict_line, says_sound, verdict_of}
use Rattle.audit_command.specs.Best.{IsBestOutput, IsBestText, IsSeasonSecond, IsSecond, IsShortOutput, IsShort, second_line}
use Rattle.audit_command.specs.Texts.{sound_line, verdict_line}
use Rattle.audit_command.specs.declared.second.Second.{Second}
use Rattle.audit_command.specs.declared.second.Second.TheVariants.{AllBest, NotBestRound, NotBestSpecial}
use Rattle.same_input_laws.specs.SeasonDossiers.{AreAuditedWell}
use Rattle.same_input_laws.proofs.Dossiers.{Laws, one_best}

-- What is found is a dossier that these bytes are, with so many sound rounds.
record IsOwn (bytes : List ℕ) (rounds : ℕ) (found : Found) : Type 0 where
  other : Dossier
  verdict : Verdict
  found_is : found ≡ OfSeason other verdict
  other_is : IsDossier bytes other
  verdict_is : verdict ≡ Sound rounds

module _ (one : OneVerdictOfBytes) (laws : Laws) (bytes : List ℕ) (dossier : Dossier) (is : IsDossier bytes dossier) (rounds : ℕ)
    (sound : IsVerdict (facts_of dossier.season) dossier.script (papers_in dossier) (Sound rounds)) (best : IsBestVerdict (facts_of dossier.season) dossier.script (papers_in dossier) Best) where
  own : (found : Found) → IsFound bytes found → IsOwn bytes rounds found
  own (OfSeason other verdict) (has, inl its) =
      record { other = other; verdict = verdict; found_is = refl; other_is = its; verdict_is = sym (one bytes dossier other (Sound rounds) verdict is its sound has.is).0 }
  own (OfSeason other (Sound number)) (has, inr front) = absurd front
  own (OfSeason other (Broken round clause prog cand)) (has, inr front) = absurd (not_followed laws.dossiers bytes front.2.0 front.0 front.1 dossier is front.2.1)
  own (OfSpecial other number special verdict) (front, has) = absurd (not_followed laws.dossiers bytes front.front.0 front.lists front.published dossier is front.front.1)

  own_line : (found : Found) → IsOwn bytes rounds found → found_verdict_line found ≡ sound_line rounds
  own_line found o = ap found_verdict_line o.found_is ∙ ap (λ (v : Verdict). verdict_line o.other.season.matrix v) o.verdict_is

  own_sound : (found : Found) → IsOwn bytes rounds found → says_sound (verdict_of found) ≡ true
  own_sound found o = ap (λ (f : Found). says_sound (verdict_of f)) o.found_is ∙ ap says_sound o.verdict_is

  no_fault : (line : List ℕ) → IsDossierFaultLine bytes line → ⊥
  no_fault line has = faultless laws.dossiers bytes dossier has.0 is has.1

  not_broken : (output : List ℕ) → IsBrokenOutput bytes output → ⊥
  not_broken output it = absurd (let e : true ≡ false = sym (own_sound it.0 (own it.0 it.2.0)) ∙ it.1 in cc)

  -- their second verdict is that every round is the best one
  not_other : (found : Found) (second : Second) → IsOwn bytes rounds found → IsShort second → IsSecond found second → ⊥
  not_other found second o short its = by second short (subst (λ (f : Found). IsSecond f second) o.found_is its)
    where
      by : (second : Second) → IsShort second → IsSeasonSecond o.other second → ⊥
      by AllBest short its = short
      by (NotBestRound round cand) short its = absurd (let e = one_best laws bytes dossier o.other Best (NotBest round cand) is o.other_is best its in cc)
      by (NotBestSpecial cand) short its = its

  not_short : (output : List ℕ) → IsShortOutput bytes output → ⊥
  not_short output (inl broken) = not_broken output broken
  not_short output (inr short) = not_other short.2.0 short.0 (own short.2.0 short.2.1) short.1 short.2.2.is

  audited : (status : Status) (output : List ℕ) → IsAnswered status → Writes (IsAuditText (Some bytes)) status output → (status ≡ Done) × (output ≡ sound_line rounds)
  audited status output answered writes =
      by_answer (λ s. IsAuditText (Some bytes) s output → (s ≡ Done) × (output ≡ sound_line rounds))
      (λ text. let it = left_has IsSoundOutput bytes output text in (refl, it.2.1 ∙ own_line it.0 (own it.0 it.2.0))) (λ text. absurd text)
      (λ text. absurd (no_fault output (left_has IsDossierFaultLine bytes output text))) (λ text. absurd text)
      (λ text. absurd (not_broken output (left_has IsBrokenOutput bytes output text))) status answered (whole (IsAuditText (Some bytes)) status output answered writes)

  best_audited : (status : Status) (output : List ℕ) → IsAnswered status → Writes (IsBestText (Some bytes)) status output → (status ≡ Done) × (output ≡ sound_line rounds ++ second_line AllBest)
  best_audited status output answered writes =
      by_answer (λ s. IsBestText (Some bytes) s output → (s ≡ Done) × (output ≡ sound_line rounds ++ second_line AllBest))
      (λ text.
      let it = left_has IsBestOutput bytes output text in
      (refl, it.2.lines ∙ ap (λ (l : List ℕ). l ++ second_line AllBest) (own_line it.0 (own it.0 it.1)))) (λ text. absurd text)
      (λ text. absurd (no_fault output (left_has IsDossierFaultLine bytes output text))) (λ text. absurd text)
      (λ text. absurd (not_short output (left_has IsShortOutput bytes output text))) status answered (whole (IsBestText (Some bytes)) status output answered writes)

  pub audited_well : AreAuditedWell bytes rounds
  audited_well = record { audit = audited; best = best_audited }
