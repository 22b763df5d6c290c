-- What the checks of a cut are made over.
use Rattle.std.specs.Prelude.{◌≡◌, ◌<◌, List, Option}
use Rattle.office_base.specs.declared.seat.Seat.{Seat}
use Rattle.seat_matrix.specs.Matrix.{SeatTable}
use Rattle.office_moves.specs.Facts.{IsSound, SeasonFacts}
use Rattle.office_moves.specs.Raised.{matrix_at}
use Rattle.office_moves.specs.State.{State}
use Rattle.audit_rules.specs.InOrder.{IsInOrder}
use Rattle.audit_rules.specs.Papers.{Papers, rows_after, seats_told}
use Rattle.audit_rules.specs.Stands.{stands_along}
use Rattle.audit_rules.specs.declared.stand.Stand.{Stand}

-- the papers, and the state before the cut
pub record Setting : Type 0 where
  pub papers : Papers
  pub state : State

-- The matrix, how the candidates stand, and the seats are those of the state and of the round's text.
pub record IsAtCut (facts : SeasonFacts) (at : Setting) (matrix : SeatTable) (stands : List Stand) (seats : List (Option Seat)) : Type 0 where
  pub sound : IsSound facts
  pub order : IsInOrder facts at.state
  pub early : at.state.now < facts.rounds
  pub matrix_is : matrix ≡ matrix_at facts at.state
  pub stands_are : stands ≡ stands_along facts at.state
  pub seats_are : seats ≡ seats_told (rows_after at.papers at.state.now) facts.people
