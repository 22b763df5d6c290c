-- What the round of a cut is compared over, and what the comparison finds.
use Rattle.std.specs.Prelude.{◌≡◌, List, Option, Some, None, length}
use Rattle.office_asks.specs.declared.ask.Request.{Request}
use Rattle.office_base.specs.declared.seat.Seat.{Seat}
use Rattle.office_base.specs.declared.person.CandId.{CandId}
use Rattle.allocations.specs.Fair.{IsFair}
use Rattle.rounds.specs.Rule.{AreSeeks, nobody, rule_of}
use Rattle.seat_matrix.specs.Matrix.{SeatTable}
use Rattle.seeks.specs.declared.seek.Seek.{Seek}
use Rattle.office_moves.specs.Decided.{decided}
use Rattle.office_moves.specs.Facts.{IsSound, SeasonFacts, lists_in_order}
use Rattle.office_moves.specs.Moves.{next_seeks}
use Rattle.office_moves.specs.Raised.{matrix_at}
use Rattle.office_moves.specs.State.{State}
use Rattle.office_moves.specs.declared.decide.Decision.TheVariants.{Publish}
use Rattle.audit_rules.specs.Cut.{seekers_at}
use Rattle.audit_rules.specs.InOrder.{IsInOrder}
use Rattle.audit_rules.specs.Papers.{Papers}
use Rattle.best_audit.specs.Best.{AreBestAt, GainsFirst, IsBestCut, seats_given}

-- the papers, and the state before the cut
pub record Setting : Type 0 where
  pub papers : Papers
  pub state : State

-- the round that the text gives is fair
abbrev pub IsFairText : SeasonFacts → Papers → State → Type 0
IsFairText facts papers state =
    IsFair (rule_of facts.version nobody (matrix_at facts state)) (length facts.matrix.programmes) (seekers_at facts state) (seats_given facts papers state)

-- The matrix and the seeks are those of the state, the first seats are the best ones, and the second seats are those of the text, which are fair.
pub record AreCompared (facts : SeasonFacts) (at : Setting) (matrix : SeatTable) (seeks : List Seek) (best seats : List (Option Seat)) : Type 0 where
  pub sound : IsSound facts
  pub order : IsInOrder facts at.state
  pub matrix_is : matrix ≡ matrix_at facts at.state
  pub seeks_are : seeks ≡ next_seeks facts at.state
  pub within : AreSeeks (lists_in_order facts) seeks
  pub is_best : AreBestAt facts at.state best
  pub seats_are : seats ≡ seats_given facts at.papers at.state
  pub fair : IsFairText facts at.papers at.state

-- what a cut comes to: its round is the best one, or this candidate gains first
abbrev pub GainComesTo : SeasonFacts → Papers → State → Option CandId → Type 0
GainComesTo facts papers state None = IsBestCut facts papers state
GainComesTo facts papers state (Some cand) = GainsFirst facts papers state cand

-- what a request comes to: where it publishes a round, that round is the best one; or it publishes a round by which this candidate gains first
abbrev pub RequestComesTo : SeasonFacts → Setting → Request → Option CandId → Type 0
RequestComesTo facts cut request None = decided facts cut.state request ≡ Publish → IsBestCut facts cut.papers cut.state
RequestComesTo facts cut request (Some cand) = (decided facts cut.state request ≡ Publish) × GainsFirst facts cut.papers cut.state cand
