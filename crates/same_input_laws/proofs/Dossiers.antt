-- The same bytes are one dossier, which has one second verdict.
use Rattle.std.proofs.Common.{◌≡◌, ℕ, List, map, arith, sym, ap, subst}
use Rattle.std.specs.Prelude.{option_map}
use Rattle.office_asks.specs.declared.ask.Request.{Request}
use Rattle.season_file.specs.Season.{IsSeason}
use Rattle.office_moves.specs.Facts.{SeasonFacts}
use Rattle.season_facts.specs.Season.{facts_of}
use Rattle.dossier_file.specs.Dossier.{IsDossier, papers_of}
use Rattle.dossier_file.specs.Laws.{HaveOneDossier, TextsAreOne}
use Rattle.dossier_file.specs.Papers.{AreDuePapers}
use Rattle.dossier_file.specs.declared.dossier.Dossier.{Dossier}
use Rattle.dossier_file.specs.declared.papers.Papers.{Papers as Read}
use Rattle.audit_rules.specs.Papers.{Papers}
use Rattle.season_audit.specs.Audit.{papers_in}
use Rattle.best_audit.specs.Best.{IsBestVerdict}
use Rattle.best_audit.specs.Laws.{OneBestVerdict}
use Rattle.best_audit.specs.declared.verdict.BestVerdict.{BestVerdict}
use Rattle.one_output.specs.Laws.{OneKeptSeason}
use Rattle.dossier_file.proofs.SplitLemmas.{one_split}

-- The laws of the layers below.
pub record Laws : Type 0 where
  pub seasons : OneKeptSeason
  pub dossiers : (bytes : List ℕ) → HaveOneDossier bytes
  pub texts : TextsAreOne
  pub best : OneBestVerdict

-- What two dossiers of the same bytes are.
pub record AreSameDossier (dossier other : Dossier) : Type 0 where
  pub season : facts_of dossier.season ≡ facts_of other.season
  pub script : dossier.script ≡ other.script
  pub papers : papers_in dossier ≡ papers_in other

-- the papers that an audit reads off
abbrev audited_papers : Read → Papers
audited_papers papers = record { rounds = map (λ read. read.rows) papers.rounds; lists = map (λ read. read.programme) papers.lists; finals = option_map (λ read. read.rows) papers.last }

same_dossier : Laws → (bytes : List ℕ) (dossier other : Dossier) → IsDossier bytes dossier → IsDossier bytes other → AreSameDossier dossier other
same_dossier laws bytes dossier other first second =
    let cut = one_split bytes first.bundle first.requests first.published second.bundle second.requests second.published first.cut second.cut in
    let same = laws.seasons second.bundle dossier.season other.season (subst (λ (b : List ℕ). IsSeason b dossier.season) cut.bundles first.of_season) second.of_season in
    let script : dossier.script ≡ other.script = (let a = first.of_script.1 in let b = second.of_script.1 in let e = cut.scripts in cc) in
    let by_season = subst (λ (f : SeasonFacts). AreDuePapers f.matrix f.people f.rounds other.script second.published (papers_of other)) (sym same) second.of_papers in
    let by_script = subst (λ (s : List Request). AreDuePapers dossier.season.matrix dossier.season.register.people dossier.season.rounds s second.published (papers_of other)) (sym script) by_season in
    let by_text = subst (λ (t : List ℕ). AreDuePapers dossier.season.matrix dossier.season.register.people dossier.season.rounds dossier.script t (papers_of other)) (sym cut.papers) by_script in
    let few = dossier.season.few_rounds in
    let papers : papers_of dossier ≡ papers_of other =
    laws.texts dossier.season.matrix dossier.season.register.people dossier.season.rounds dossier.script first.published (papers_of dossier) (papers_of other) (omega (arith, few))
    ((laws.dossiers bytes).readable dossier.season dossier.script (papers_of dossier) first) first.of_papers by_text in
    record { season = same; script = script; papers = ap audited_papers papers }

-- The same bytes have one second verdict.
pub one_best : Laws → (bytes : List ℕ) (dossier other : Dossier) (verdict more : BestVerdict) → IsDossier bytes dossier → IsDossier bytes other
    → IsBestVerdict (facts_of dossier.season) dossier.script (papers_in dossier) verdict → IsBestVerdict (facts_of other.season) other.script (papers_in other) more → verdict ≡ more
one_best laws bytes dossier other verdict more first second is its =
    let same = same_dossier laws bytes dossier other first second in
    let facts = facts_of dossier.season in
    let by_season = subst (λ (f : SeasonFacts). IsBestVerdict f other.script (papers_in other) more) (sym same.season) its in
    let by_script = subst (λ (s : List Request). IsBestVerdict facts s (papers_in other) more) (sym same.script) by_season in
    let by_papers = subst (λ (p : Papers). IsBestVerdict facts dossier.script p more) (sym same.papers) by_script in
    laws.best facts dossier.script (papers_in dossier) verdict more is by_papers
