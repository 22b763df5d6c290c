-- What an audit finds of bytes: the verdict on a season's papers, and on those of the special round behind them.
use Rattle.std.specs.Prelude.{◌≡◌, ◌⊎◌, ℕ, List, Option}
use Rattle.office_base.specs.declared.person.CandId.{CandId}
use Rattle.office_base.specs.declared.person.ProgId.{ProgId}
use Rattle.list_audit.specs.declared.clause.Clause.{Clause}
use Rattle.season_facts.specs.Season.{facts_of}
use Rattle.audit_rules.specs.Fair.{AreFairRounds}
use Rattle.audit_rules.specs.Verdict.{IsVerdict}
use Rattle.audit_rules.specs.declared.verdict.Verdict.{Verdict}
use Rattle.audit_rules.specs.declared.verdict.Verdict.TheVariants.{Sound, Broken}
use Rattle.season_audit.specs.Audit.{papers_in}
use Rattle.dossier_file.specs.Dossier.{HasDossierFault, IsBytesFault, IsDossier}
use Rattle.dossier_file.specs.Special.{HasNoSpecial, IsSpecialCut}
use Rattle.dossier_file.specs.declared.dossier.Dossier.{Dossier}
use Rattle.dossier_file.specs.declared.fault.DossierFault.{DossierFault}
use Rattle.dossier_file.specs.declared.fault.DossierFault.TheVariants.{Published, OutOfMemory as NoDossierMemory}
use Rattle.special_audit.specs.Special.{HasSpecialFault, IsSpecialOf}
use Rattle.special_audit.specs.declared.found.Found.{Found}
use Rattle.special_audit.specs.declared.found.Found.TheVariants.{OfSeason, OfSpecial}
use Rattle.special_audit.specs.declared.found.FoundFault.{FoundFault}
use Rattle.special_audit.specs.declared.found.FoundFault.TheVariants.{Dossier as BadDossier, Special as BadSpecial}
use Rattle.special_audit.specs.declared.special.SpecialError.{SpecialError}
use Rattle.special_audit.specs.declared.special.SpecialError.TheVariants.{OutOfMemory}

-- A dossier has this verdict; if it says that no clause is broken, every text has a fair round, nobody has a justified claim, and nobody falls.
pub record HasVerdict (dossier : Dossier) (verdict : Verdict) : Type 0 where
  pub is : IsVerdict (facts_of dossier.season) dossier.script (papers_in dossier) verdict
  pub fair : (rounds : ℕ) → verdict ≡ Sound rounds → AreFairRounds (facts_of dossier.season) dossier.script (papers_in dossier)

-- Bytes are no dossier by themselves, since a line of their texts is none that is due; and they are cut into a front, lists, and texts of a special round.
pub record IsFollowed (bytes front lists published : List ℕ) : Type 0 where
  pub line : ℕ
  pub more : HasDossierFault bytes (Published line)
  pub cut : IsSpecialCut bytes front lists published

-- the front of bytes with a special round is this dossier
abbrev pub IsFront : List ℕ → Dossier → List ℕ → List ℕ → Type 0
IsFront bytes dossier lists published = (front : List ℕ) × IsFollowed bytes front lists published × IsDossier front dossier

-- a clause of the front is broken, so that nothing behind it is looked at
abbrev pub IsBrokenFront : List ℕ → Dossier → Verdict → Type 0
IsBrokenFront bytes dossier (Sound rounds) = ⊥
IsBrokenFront bytes dossier (Broken round clause prog cand) = (lists published : List ℕ) × IsFront bytes dossier lists published

-- No clause of the front is broken in so many rounds, and what is behind it are the papers of this special round.
pub record IsSoundFront (bytes : List ℕ) (dossier : Dossier) (rounds : ℕ) (special : Dossier) : Type 0 where
  pub lists : List ℕ
  pub published : List ℕ
  pub front : IsFront bytes dossier lists published
  pub sound : HasVerdict dossier (Sound rounds)
  pub is : IsSpecialOf dossier lists published special

-- what an audit finds of bytes: the verdict on a dossier, or on the special round behind one of which no clause is broken
abbrev pub IsFound : List ℕ → Found → Type 0
IsFound bytes (OfSeason dossier verdict) = HasVerdict dossier verdict × (IsDossier bytes dossier ⊎ IsBrokenFront bytes dossier verdict)
IsFound bytes (OfSpecial dossier rounds special verdict) = IsSoundFront bytes dossier rounds special × HasVerdict special verdict

-- the bytes have this fault as a dossier, and no special round is behind it; or the front has it
abbrev pub IsPlainFault : List ℕ → DossierFault → Type 0
IsPlainFault bytes (Published line) = HasDossierFault bytes (Published line) × HasNoSpecial bytes
IsPlainFault bytes fault = HasDossierFault bytes fault

abbrev pub IsFrontFault : List ℕ → DossierFault → Type 0
IsFrontFault bytes fault = (front lists published : List ℕ) × IsFollowed bytes front lists published × HasDossierFault front fault

-- No clause of the front is broken, and what is behind it has this fault.
pub record IsBehindFault (bytes : List ℕ) (fault : SpecialError) : Type 0 where
  pub dossier : Dossier
  pub lists : List ℕ
  pub published : List ℕ
  pub front : IsFront bytes dossier lists published
  pub rounds : ℕ
  pub sound : HasVerdict dossier (Sound rounds)
  pub is : HasSpecialFault dossier lists published fault

-- the first fault of bytes; if memory runs out, nothing is said of them
abbrev pub IsFoundFault : List ℕ → FoundFault → Type 0
IsFoundFault bytes (BadDossier NoDossierMemory) = Unit {0}
IsFoundFault bytes (BadDossier fault) = IsPlainFault bytes fault ⊎ IsFrontFault bytes fault
IsFoundFault bytes (BadSpecial OutOfMemory) = Unit {0}
IsFoundFault bytes (BadSpecial fault) = IsBehindFault bytes fault
