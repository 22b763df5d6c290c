-- The same bytes are one dossier, and have one verdict.
use Rattle.std.specs.Prelude.{◌≡◌, ℕ, List, map, option_map}
use Rattle.season_facts.specs.Season.{facts_of}
use Rattle.dossier_file.specs.Dossier.{IsDossier, papers_of}
use Rattle.dossier_file.specs.declared.dossier.Dossier.{Dossier}
use Rattle.audit_rules.specs.Papers.{Papers}
use Rattle.audit_rules.specs.Verdict.{IsVerdict}
use Rattle.audit_rules.specs.declared.verdict.Verdict.{Verdict}

-- the papers of a dossier, as an audit reads them off
abbrev pub audited_of : Dossier → Papers
audited_of dossier = record {
  rounds = map (λ read. read.rows) dossier.rounds;
  lists = map (λ read. read.programme) dossier.lists;
  finals = option_map (λ read. read.rows) dossier.last;
}

-- Two dossiers say the same: of the season, of its requests, and of what was published.
pub record AreSame (dossier other : Dossier) : Type 0 where
  pub facts : facts_of dossier.season ≡ facts_of other.season
  pub script : dossier.script ≡ other.script
  pub papers : papers_of dossier ≡ papers_of other

-- Bytes are one dossier.
abbrev pub OneDossierOfBytes : Type 0
OneDossierOfBytes = (bytes : List ℕ) (dossier other : Dossier) → IsDossier bytes dossier → IsDossier bytes other → AreSame dossier other

-- The bytes of a dossier have one verdict, and one matrix, by whose codes its line is written.
abbrev pub OneVerdictOfBytes : Type 0
OneVerdictOfBytes = (bytes : List ℕ) (dossier other : Dossier) (verdict more : Verdict) → IsDossier bytes dossier → IsDossier bytes other
    → IsVerdict (facts_of dossier.season) dossier.script (audited_of dossier) verdict → IsVerdict (facts_of other.season) other.script (audited_of other) more
    → (verdict ≡ more) × (dossier.season.matrix ≡ other.season.matrix)
