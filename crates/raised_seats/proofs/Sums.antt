-- What a raise changes in the seats of all programmes.
use Rattle.std.proofs.Common.{◌≡◌, ◌<◌, ◌≤◌, ◌+◌, ◌-◌, ℕ, false, zero, suc, List, [], ◌∷◌, length, slice_set, arith, ap}
use Rattle.std.specs.Prelude.{slice_index_or}
use Rattle.office_base.specs.declared.step.StepKind.{StepKind}
use Rattle.seat_matrix.specs.Matrix.{AreSeats, SeatTable, matrix_with, seating_in}
use Rattle.seat_matrix.specs.Seats.{is_dereserved, no_seatings, of_step, with_seating}
use Rattle.seat_matrix.specs.declared.seats.Seating.{Seating}
use Rattle.seat_matrix.specs.declared.seats.Seatings.{Seatings}
use Rattle.seat_matrix.proofs.SeatsLemmas.{one_step_changes}
use Rattle.office_moves.specs.Raised.{seats_in_all, sum_of_seats, total_seats}
use Rattle.office_moves.proofs.Sums.{own_term}

-- other seats in one step
one_changes : (steps : Seatings) (step : StepKind) (seating : Seating) → is_dereserved step ≡ false → seats_in_all (with_seating steps step seating) + (of_step steps step).seats ≡ seats_in_all steps + seating.seats
one_changes steps step seating own =
    let f : StepKind → ℕ = λ kind. (of_step steps kind).seats in
    let g : StepKind → ℕ = λ kind. (of_step (with_seating steps step seating) kind).seats in
    let set = one_step_changes (record { programmes = []; steps = steps ∷ [] }) 0 step seating (omega arith) own in
    let all = own_term f g step own (λ kind apart. ap (λ (s : Seating). s.seats) (set.elsewhere 0 kind (λ zero same. apart same))) in
    let here = ap (λ (s : Seating). s.seats) set.here in
    omega (arith, all, here)

pub sum_changes : (steps : List Seatings) (p : ℕ) (step : StepKind) (seating : Seating) → p < length steps → is_dereserved step ≡ false
    → sum_of_seats (slice_set steps p (with_seating (slice_index_or steps p no_seatings) step seating)) + (of_step (slice_index_or steps p no_seatings) step).seats ≡ sum_of_seats steps + seating.seats
sum_changes [] p step seating less e = absurd (omega (arith, less))
sum_changes (s ∷ steps) zero step seating less e = omega (arith, one_changes s step seating e)
sum_changes (s ∷ steps) (suc p) step seating less e = omega (arith, sum_changes steps p step seating (omega (arith, less)) e)

-- the seats of a matrix of which a step is raised
pub sum_raised : (table new : SeatTable) (p : ℕ) (step : StepKind) (seating : Seating) (total before more : ℕ) → AreSeats table → p < length table.programmes → is_dereserved step ≡ false
    → new ≡ matrix_with table p step seating → total ≡ total_seats table → before ≡ (seating_in table p step).seats → before ≤ seating.seats → more ≡ seating.seats - before → total + more ≡ total_seats new
sum_raised table new p step seating total before more seats below own made all had rises e =
    let changes = sum_changes table.steps p step seating (omega (arith, below, seats.steps)) own in
    let after : total_seats new ≡ total_seats (matrix_with table p step seating) = ap total_seats made in
    omega (arith, changes, after, all, had, rises, e)
