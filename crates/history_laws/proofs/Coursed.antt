-- A state that a history reaches has the course of a season.
use Rattle.std.proofs.Common.{◌≡◌, ℕ, suc, List}
use Rattle.seat_matrix.specs.Matrix.{AreSeats}
use Rattle.rounds.specs.Rule.{IsRaised}
use Rattle.office_moves.specs.Facts.{SeasonFacts}
use Rattle.office_moves.specs.State.{State, opening}
use Rattle.office_moves.specs.Raised.{matrix_of_round}
use Rattle.office_moves.specs.History.{Reaches}
use Rattle.office_moves.specs.declared.moves.Entry.{Entry}
use Rattle.history_laws.specs.Course.{IsCourse}
use Rattle.history_laws.specs.Laws.{IsInTime}
use Rattle.history_laws.proofs.Answered.{answered_well}
use Rattle.history_laws.proofs.Made.{final_rows_last, rounds_made}

-- where its matrices are sound and rise
pub course_of : (facts : SeasonFacts) (entries : List Entry) (state : State) → Reaches facts opening entries state → IsInTime facts state → ((n : ℕ) → AreSeats (matrix_of_round facts state n))
    → ((n : ℕ) → IsRaised (matrix_of_round facts state n) (matrix_of_round facts state (suc n)))
    → ((n : ℕ) → (matrix_of_round facts state n).programmes ≡ facts.matrix.programmes) → IsCourse facts state
course_of facts entries state reached time seats raised programmes = record {
  order = time.order;
  few = time.few;
  made = rounds_made facts entries state reached;
  answers = answered_well facts entries state reached;
  seats = seats;
  raised = raised;
  programmes = programmes;
  finals = final_rows_last facts entries state reached;
  last = time.last;
}
