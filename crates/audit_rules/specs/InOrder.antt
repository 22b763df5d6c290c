-- What holds of the state of a replay whose cuts broke no clause.
use Rattle.std.specs.Prelude.{◌≡◌, ◌≤◌, ◌<◌, ℕ, true, [], Some, IsSome, length}
use Rattle.office_base.specs.declared.seat.Seat.{Seat}
use Rattle.allocations.specs.Market.{place_of}
use Rattle.choice_lists.specs.Choices.{list_of}
use Rattle.office_moves.specs.Facts.{SeasonFacts}
use Rattle.office_moves.specs.Raised.{matrix_at}
use Rattle.office_moves.specs.State.{State, in_window, last_seat, rows_of, standing_at, view_of}
use Rattle.round_options.specs.Options.{holds}
use Rattle.seat_matrix.specs.Matrix.{AreSeats}

-- Each cut published a round, and nothing was answered in a window to come. A candidate whose standing is freeze, float or
-- slide has a seat. Each seat is of a programme on the candidate's own list. The matrix is sound, and has the season's programmes.
pub record IsInOrder (facts : SeasonFacts) (state : State) : Type 0 where
  pub order : state.now ≤ facts.rounds → length state.rounds ≡ state.now
  pub later : (window id : ℕ) → state.now < window → in_window window (rows_of id state.answers) ≡ []
  pub seated : (id : ℕ) → state.now ≤ facts.rounds → holds (standing_at facts (view_of state id) id state.now) ≡ true → IsSome (last_seat facts state.rounds id)
  pub own : (id : ℕ) (seat : Seat) → last_seat facts state.rounds id ≡ Some seat → place_of (list_of facts.lists id) seat.prog.0 < length (list_of facts.lists id)
  pub seats : AreSeats (matrix_at facts state)
  pub programmes : (matrix_at facts state).programmes ≡ facts.matrix.programmes
