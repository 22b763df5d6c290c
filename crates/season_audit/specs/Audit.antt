-- What an audit reads off a dossier, and the state of a replay as the audit keeps it.
use Rattle.std.specs.Prelude.{◌≡◌, ◌⊎◌, ◌≤◌, ◌+◌, ℕ, List, Option, Some, None, map, option_map, slice_get}
use Rattle.office_asks.specs.declared.ask.Request.{Request}
use Rattle.office_base.specs.declared.step.StepKind.{StepKind}
use Rattle.list_audit.specs.Clauses.{list_of_step}
use Rattle.placements.specs.Ranks.{AreDistinct}
use Rattle.list_texts.specs.declared.lists.ListRead.{ListRead}
use Rattle.office_moves.specs.Facts.{IsSound, SeasonFacts}
use Rattle.office_moves.specs.Raised.{matrix_at}
use Rattle.office_moves.specs.History.{newly}
use Rattle.office_moves.specs.State.{State, with_row}
use Rattle.office_moves.specs.declared.decide.Decision.{Decision}
use Rattle.office_moves.specs.declared.decide.Decision.TheVariants.{Note}
use Rattle.kept_rows.specs.declared.rows.AnswerRow.{AnswerRow}
use Rattle.audit_rules.specs.declared.stand.Stand.{Stand}
use Rattle.audit_rules.specs.Cut.{BreaksAt, HoldsAt}
use Rattle.audit_rules.specs.InOrder.{IsInOrder}
use Rattle.audit_rules.specs.Papers.{Papers}
use Rattle.audit_rules.specs.Replay.{taken}
use Rattle.audit_rules.specs.Verdict.{HoldsThere, IsFirstBroken}
use Rattle.audit_rules.specs.Stands.{stands_along}
use Rattle.audit_rules.specs.declared.fault.Fault.{Fault}
use Rattle.dossier_file.specs.declared.dossier.Dossier.{Dossier}
use Rattle.season_audit.specs.declared.auditor.Auditor.{Auditor}

-- the papers of a dossier
abbrev pub papers_in : Dossier → Papers
papers_in dossier = record {
  rounds = map (λ read. read.rows) dossier.rounds;
  lists = map (λ read. read.programme) dossier.lists;
  finals = option_map (λ read. read.rows) dossier.last;
}

-- in no step of a list is a person named twice
abbrev pub NameOnce : List ListRead → Type 0
NameOnce lists = (p : ℕ) (read : ListRead) (kind : StepKind) → slice_get lists p ≡ Some read → AreDistinct (list_of_step read.programme kind).admitted

-- The replay has reached this state.
pub record IsUpTo (facts : SeasonFacts) (state : State) (auditor : Auditor) : Type 0 where
  pub sound : IsSound facts
  pub order : IsInOrder facts state
  pub few : state.now ≤ facts.rounds + 1
  pub window : auditor.window ≡ state.now
  pub raises : auditor.raised.raises ≡ state.raises
  pub matrix : auditor.raised.matrix ≡ matrix_at facts state
  pub stands : state.now ≤ facts.rounds → auditor.stands.items ≡ stands_along facts state

-- The answer is noted, and the standings are those after it. Or nothing is newly accepted, and the standings are unchanged.
abbrev pub StandAfter : SeasonFacts → State → AnswerRow → Decision → List Stand → Type 0
StandAfter facts state row decision stands = ((decision ≡ Note row) × (stands ≡ stands_along facts (with_row state row))) ⊎ ((newly state.now decision ≡ None) × (stands ≡ stands_along facts state))

-- The decision breaks no clause, and the replay has reached the state that it makes.
pub record Passes (facts : SeasonFacts) (papers : Papers) (state : State) (decision : Decision) (auditor : Auditor) : Type 0 where
  pub holds : HoldsAt facts papers state decision
  pub next : IsUpTo facts (taken facts papers state decision) auditor

-- the outcome of a decision: it passes, or breaks this clause first
abbrev pub ComesTo : SeasonFacts → Papers → State → Decision → Auditor → Option Fault → Type 0
ComesTo facts papers state decision auditor None = Passes facts papers state decision auditor
ComesTo facts papers state decision auditor (Some fault) = BreaksAt facts papers state decision fault.clause fault.prog fault.cand

-- no clause is broken at any request of the script
abbrev pub AllHold : SeasonFacts → List Request → Papers → Type 0
AllHold facts script papers = (j : ℕ) (request : Request) → slice_get script j ≡ Some request → HoldsThere facts script papers j request

-- the outcome of a script: no clause is broken, or this one first, at the cut that publishes the round of this number
abbrev pub ScriptComesTo : SeasonFacts → List Request → Papers → Option (ℕ × Fault) → Type 0
ScriptComesTo facts script papers None = AllHold facts script papers
ScriptComesTo facts script papers (Some found) = IsFirstBroken facts script papers found.0 found.1.clause found.1.prog found.1.cand
