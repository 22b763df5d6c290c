-- The bytes of a dossier are one, and have one verdict.
use Rattle.std.proofs.Common.{◌≡◌, ℕ, List, map, arith, sym, ap, subst}
use Rattle.std.specs.Prelude.{option_map}
use Rattle.office_asks.specs.declared.ask.Request.{Request}
use Rattle.season_file.specs.Season.{IsSeason}
use Rattle.office_moves.specs.Facts.{SeasonFacts}
use Rattle.season_facts.specs.Season.{facts_of}
use Rattle.dossier_file.specs.Dossier.{papers_of}
use Rattle.dossier_file.specs.Laws.{HaveOneDossier, TextsAreOne}
use Rattle.dossier_file.specs.Papers.{AreDuePapers}
use Rattle.dossier_file.specs.declared.papers.Papers.{Papers as Read}
use Rattle.audit_rules.specs.Laws.{OneVerdict}
use Rattle.audit_rules.specs.Papers.{Papers}
use Rattle.audit_rules.specs.Verdict.{IsVerdict}
use Rattle.one_output.specs.Laws.{OneKeptSeason}
use Rattle.one_output.specs.VerdictLaws.{OneDossierOfBytes, OneVerdictOfBytes, audited_of}
use Rattle.dossier_file.proofs.SplitLemmas.{one_split}

-- the papers that an audit reads off
abbrev audited_papers : Read → Papers
audited_papers papers = record { rounds = map (λ read. read.rows) papers.rounds; lists = map (λ read. read.programme) papers.lists; finals = option_map (λ read. read.rows) papers.last }

-- Bytes are one dossier.
pub one_dossier_of_bytes : OneKeptSeason → ((bytes : List ℕ) → HaveOneDossier bytes) → TextsAreOne → OneDossierOfBytes
one_dossier_of_bytes seasons dossiers texts bytes dossier other first second =
    let cut = one_split bytes first.bundle first.requests first.published second.bundle second.requests second.published first.cut second.cut in
    let same = seasons second.bundle dossier.season other.season (subst (λ (b : List ℕ). IsSeason b dossier.season) cut.bundles first.of_season) second.of_season in
    let script : dossier.script ≡ other.script = (let a = first.of_script.1 in let b = second.of_script.1 in let e = cut.scripts in cc) in
    let by_season = subst (λ (f : SeasonFacts). AreDuePapers f.matrix f.people f.rounds other.script second.published (papers_of other)) (sym same) second.of_papers in
    let by_script = subst (λ (s : List Request). AreDuePapers dossier.season.matrix dossier.season.register.people dossier.season.rounds s second.published (papers_of other)) (sym script) by_season in
    let by_text = subst (λ (t : List ℕ). AreDuePapers dossier.season.matrix dossier.season.register.people dossier.season.rounds dossier.script t (papers_of other)) (sym cut.papers) by_script in
    let few = dossier.season.few_rounds in
    record {
      facts = same;
      script = script;
      papers = texts dossier.season.matrix dossier.season.register.people dossier.season.rounds dossier.script first.published (papers_of dossier) (papers_of other) (omega (arith, few))
          ((dossiers bytes).readable dossier.season dossier.script (papers_of dossier) first) first.of_papers by_text;
    }

-- They have one verdict.
pub one_verdict_of_bytes : OneDossierOfBytes → OneVerdict → OneVerdictOfBytes
one_verdict_of_bytes dossiers one bytes dossier other verdict more first second is its =
    let same = dossiers bytes dossier other first second in
    let its_facts = subst (λ (f : SeasonFacts). IsVerdict f other.script (audited_of other) more) (sym same.facts) its in
    let its_script = subst (λ (s : List Request). IsVerdict (facts_of dossier.season) s (audited_of other) more) (sym same.script) its_facts in
    let its_papers = subst (λ (p : Papers). IsVerdict (facts_of dossier.season) dossier.script p more) (sym (ap audited_papers same.papers)) its_script in
    (one (facts_of dossier.season) dossier.script (audited_of dossier) verdict more is its_papers, ap (λ (f : SeasonFacts). f.matrix) same.facts)
