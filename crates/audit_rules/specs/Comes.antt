-- What a cut comes to.
use Rattle.std.specs.Prelude.{◌≡◌, ℕ, List, Option, Some, None, length, map, slice_get}
use Rattle.list_audit.specs.Clauses.{list_of_step}
use Rattle.office_base.specs.declared.person.CandId.{CandId}
use Rattle.office_base.specs.declared.person.ProgId.{ProgId}
use Rattle.office_base.specs.declared.step.StepKind.{StepKind}
use Rattle.office_moves.specs.Facts.{SeasonFacts}
use Rattle.placements.specs.Ranks.{AreDistinct}
use Rattle.programme_lists.specs.declared.programme.Programme.{Programme}
use Rattle.list_texts.specs.declared.lists.ListRead.{ListRead}
use Rattle.audit_rules.specs.Cut.{CutBreaks, CutHolds, Differ, HasStayed, IsListed, IsSought, IsSoundList, OfEach}
use Rattle.audit_rules.specs.Papers.{lists_after}
use Rattle.audit_rules.specs.AtCut.{Setting}
use Rattle.audit_rules.specs.declared.fault.Fault.{Fault}

-- what lists that were read say
abbrev pub told_by : List ListRead → List Programme
told_by lists = map (λ read. read.programme) lists

-- The lists are those of the round that the cut publishes, and in no step of one is a person named twice.
pub record AreLists (facts : SeasonFacts) (at : Setting) (lists : List ListRead) : Type 0 where
  pub same : told_by lists ≡ lists_after at.papers (length facts.matrix.programmes) at.state.now
  pub once : (p : ℕ) (read : ListRead) (kind : StepKind) → slice_get lists p ≡ Some read → AreDistinct (list_of_step read.programme kind).admitted

-- the programme of everybody's seat is sought, and each candidate who keeps a seat has one
pub record HoldOn (facts : SeasonFacts) (at : Setting) : Type 0 where
  pub sought : OfEach (IsSought facts at.papers at.state) facts.people
  pub stayed : OfEach (HasStayed facts at.papers at.state) facts.people

-- the lists of all programmes agree with the round's text
abbrev pub AllListed : SeasonFacts → Setting → Type 0
AllListed facts at = (p : ℕ) → IsListed facts at.papers at.state p

-- the first candidate on whom a programme's lists and the round's text differ, or none
abbrev pub UnlistedComesTo : SeasonFacts → Setting → Option (ProgId × CandId) → Type 0
UnlistedComesTo facts at None = AllListed facts at
UnlistedComesTo facts at (Some found) = Differ facts at.papers at.state found.0 found.1

-- the result of the lists, if they agree with the round's text: all are sound, or this clause is broken first
abbrev pub ListsComeTo : SeasonFacts → Setting → Option Fault → Type 0
ListsComeTo facts at None = (p : ℕ) → IsSoundList facts at.papers at.state p
ListsComeTo facts at (Some fault) = CutBreaks facts at.papers at.state fault.clause fault.prog fault.cand

-- what a cut comes to
abbrev pub CutComesTo : SeasonFacts → Setting → Option Fault → Type 0
CutComesTo facts at None = CutHolds facts at.papers at.state
CutComesTo facts at (Some fault) = CutBreaks facts at.papers at.state fault.clause fault.prog fault.cand
