-- Bytes have one output of `audit best`.
use Rattle.std.proofs.Common.{◌≡◌, ◌++◌, ◌∙◌, inl, inr, ℕ, Bool, true, false, List, map, ap, refl, sym, subst}
use Rattle.std.specs.Prelude.{option_map}
use Rattle.office_asks.specs.declared.ask.Request.{Request}
use Rattle.office_moves.specs.Facts.{SeasonFacts}
use Rattle.season_facts.specs.Season.{facts_of}
use Rattle.dossier_file.specs.Dossier.{papers_of}
use Rattle.dossier_file.specs.declared.dossier.Dossier.{Dossier}
use Rattle.dossier_file.specs.declared.papers.Papers.{Papers as Read}
use Rattle.audit_rules.specs.Papers.{Papers}
use Rattle.best_audit.specs.Best.{IsBestVerdict}
use Rattle.best_audit.specs.Laws.{OneBestVerdict}
use Rattle.best_audit.specs.declared.verdict.BestVerdict.{BestVerdict}
use Rattle.best_audit.specs.declared.verdict.BestVerdict.TheVariants.{Best, NotBest}
use Rattle.one_output.specs.VerdictLaws.{AreSame}
use Rattle.season_audit.specs.Audit.{papers_in}
use Rattle.special_audit.specs.Laws.{AreAlike, HaveOneFinding}
use Rattle.special_audit.specs.declared.found.Found.{Found}
use Rattle.special_audit.specs.declared.found.Found.TheVariants.{OfSeason, OfSpecial}
use Rattle.audit_command.specs.Audit.{HaveOneAudit, IsBrokenOutput, found_verdict_line, says_sound, verdict_of}
use Rattle.audit_command.specs.Best.{AreBestLines, HaveOneBest, IsBestOf, IsBestOutput, IsSeasonSecond, IsSecond, IsShortOutput, IsSpecialSecond, IsShort, second_line}
use Rattle.audit_command.specs.declared.second.Second.{Second}
use Rattle.audit_command.specs.declared.second.Second.TheVariants.{AllBest, NotBestRound, NotBestSpecial}
use Rattle.audit_command.proofs.OneAudit.{alike_line, alike_verdict}

-- the papers that an audit reads off
abbrev audited : Read → Papers
audited papers = record { rounds = map (λ read. read.rows) papers.rounds; lists = map (λ read. read.programme) papers.lists; finals = option_map (λ read. read.rows) papers.last }

-- dossiers that say the same have one second verdict
one_best : OneBestVerdict → (dossier other : Dossier) (verdict more : BestVerdict) → AreSame dossier other → IsBestOf dossier verdict → IsBestOf other more → verdict ≡ more
one_best one dossier other verdict more same is its =
    let by_papers = subst (λ (p : Read). IsBestVerdict (facts_of other.season) other.script (audited p) more) (sym same.papers) its in
    let by_script = subst (λ (s : List Request). IsBestVerdict (facts_of other.season) s (papers_in dossier) more) (sym same.script) by_papers in
    one (facts_of dossier.season) dossier.script (papers_in dossier) verdict more is (subst (λ (f : SeasonFacts). IsBestVerdict f dossier.script (papers_in dossier) more) (sym same.facts) by_script)

-- the second verdict on a season as the one that is told
abbrev told : BestVerdict → Second
told Best = AllBest
told (NotBest round cand) = NotBestRound round cand

season_told : (dossier : Dossier) (second : Second) → IsSeasonSecond dossier second → (verdict : BestVerdict) × IsBestOf dossier verdict × (second ≡ told verdict)
season_told dossier AllBest is = (Best, is, refl)
season_told dossier (NotBestRound round cand) is = (NotBest round cand, is, refl)
season_told dossier (NotBestSpecial cand) is = absurd is

-- that of a season and its special round by both
abbrev both_told : BestVerdict → BestVerdict → Second
both_told Best Best = AllBest
both_told Best (NotBest round cand) = NotBestSpecial cand
both_told (NotBest round cand) verdict = NotBestRound round cand

-- second verdicts on a season and its special round are one
special_one : OneBestVerdict → (dossier other special again : Dossier) (second more : Second) → AreSame dossier other → AreSame special again → IsSpecialSecond dossier special second
    → IsSpecialSecond other again more → second ≡ more
special_one one dossier other special again AllBest AllBest same equal a b = refl
special_one one dossier other special again AllBest (NotBestRound round cand) same equal a b = (let e = one_best one dossier other Best (NotBest round cand) same a.0 b in cc)
special_one one dossier other special again AllBest (NotBestSpecial cand) same equal a b = (let e = one_best one special again Best (NotBest b.1.0 cand) equal a.1 b.1.1 in cc)
special_one one dossier other special again (NotBestRound round cand) AllBest same equal a b = (let e = one_best one dossier other (NotBest round cand) Best same a b.0 in cc)
special_one one dossier other special again (NotBestRound round cand) (NotBestRound number next) same equal a b =
    (let e = one_best one dossier other (NotBest round cand) (NotBest number next) same a b in ap told e)
special_one one dossier other special again (NotBestRound round cand) (NotBestSpecial next) same equal a b = (let e = one_best one dossier other (NotBest round cand) Best same a b.0 in cc)
special_one one dossier other special again (NotBestSpecial cand) AllBest same equal a b = (let e = one_best one special again (NotBest a.1.0 cand) Best equal a.1.1 b.1 in cc)
special_one one dossier other special again (NotBestSpecial cand) (NotBestRound number next) same equal a b = (let e = one_best one dossier other Best (NotBest number next) same a.0 b in cc)
special_one one dossier other special again (NotBestSpecial cand) (NotBestSpecial next) same equal a b =
    (let e = one_best one special again (NotBest a.1.0 cand) (NotBest b.1.0 next) equal a.1.1 b.1.1 in ap (both_told Best) e)

-- and so are those on what is found
second_one : OneBestVerdict → (found other : Found) (second more : Second) → AreAlike found other → IsSecond found second → IsSecond other more → second ≡ more
second_one one (OfSeason dossier verdict) (OfSeason other v) second more are a b =
    let first = season_told dossier second a in
    let its = season_told other more b in
    first.2 ∙ (ap told (one_best one dossier other first.0 its.0 are.0 first.1 its.1) ∙ sym its.2)
second_one one (OfSeason dossier verdict) (OfSpecial other rounds special v) second more are a b = absurd are
second_one one (OfSpecial dossier rounds special verdict) (OfSeason other v) second more are a b = absurd are
second_one one (OfSpecial dossier rounds special verdict) (OfSpecial other number again v) second more are a b = special_one one dossier other special again second more are.0 are.2 a b

module _ (one : OneBestVerdict) (bytes : List ℕ) (finding : HaveOneFinding bytes) (audit : HaveOneAudit bytes) where
  same_second : (second more : Second) (output other : List ℕ) → AreBestLines bytes second output → AreBestLines bytes more other → second ≡ more
  same_second second more output other a b = second_one one a.0 b.0 second more (finding.one_found a.0 b.0 a.1 b.1) a.2.is b.2.is

  same_lines : (second more : Second) (output other : List ℕ) → AreBestLines bytes second output → AreBestLines bytes more other → output ≡ other
  same_lines second more output other a b =
      let line = alike_line a.0 b.0 (finding.one_found a.0 b.0 a.1 b.1) in
      a.2.lines ∙ (ap (λ (l : List ℕ). l ++ second_line second) line
      ∙ (ap (λ (s : Second). found_verdict_line b.0 ++ second_line s) (same_second second more output other a b) ∙ sym b.2.lines))

  -- a clause is broken, or none is
  not_both : (second : Second) (output other : List ℕ) → AreBestLines bytes second output → IsBrokenOutput bytes other → ⊥
  not_both second output other a b =
      let same = alike_verdict a.0 b.0 (finding.one_found a.0 b.0 a.1 b.2.0) in
      let e : true ≡ false = sym a.2.sound ∙ ap says_sound same ∙ b.1 in cc

  one_short : (output other : List ℕ) → IsShortOutput bytes output → IsShortOutput bytes other → output ≡ other
  one_short output other (inl a) (inl b) = audit.one_output output other (inr a) (inr b)
  one_short output other (inl a) (inr b) = absurd (not_both b.0 other output b.2 a)
  one_short output other (inr a) (inl b) = absurd (not_both a.0 output other a.2 b)
  one_short output other (inr a) (inr b) = same_lines a.0 b.0 output other a.2 b.2

  one_kind : (output other : List ℕ) → IsBestOutput bytes output → IsShortOutput bytes other → ⊥
  one_kind output other a (inl b) = not_both AllBest output other a b
  one_kind output other a (inr b) = subst IsShort (sym (same_second AllBest b.0 output other a b.2)) b.1

  pub one_best_of : HaveOneBest bytes
  one_best_of = record { one_best = same_lines AllBest AllBest; one_short = one_short; one_kind = one_kind }
