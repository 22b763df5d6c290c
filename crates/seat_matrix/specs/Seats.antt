-- The seats of a programme.
use Rattle.std.specs.Prelude.{◌≡◌, ◌==◌, ◌≤◌, Bool, sum, [], ◌∷◌, map, slice_index_or, if◌then◌else◌}
use Rattle.office_base.specs.CategorySteps.{own_steps}
use Rattle.office_base.specs.Limits.{most_step_seats}
use Rattle.office_base.specs.Person.{IsList}
use Rattle.office_base.specs.StepNumbers.{step_number}
use Rattle.office_base.specs.declared.step.Protections.{Protections}
use Rattle.office_base.specs.declared.step.StepKind.{StepKind}
use Rattle.office_base.specs.declared.step.StepKind.TheVariants.{Dereserved}
use Rattle.seat_matrix.specs.declared.seats.ProgrammeSeats.{ProgrammeSeats}
use Rattle.seat_matrix.specs.declared.seats.Seating.{Seating}
use Rattle.seat_matrix.specs.declared.seats.Seatings.{Seatings}

-- nothing is protected
abbrev pub no_protections : Protections
no_protections = record { counts = 0 ∷ 0 ∷ 0 ∷ 0 ∷ 0 ∷ 0 ∷ [] }

-- no seats of a step
abbrev pub no_seating : Seating
no_seating = record { seats = 0; protections = no_protections }

-- no seats of a programme
abbrev pub no_seatings : Seatings
no_seatings = record { own = map (λ step. no_seating) own_steps }

-- the step is of seats that a category left unfilled; it has none of its own
abbrev pub is_dereserved : StepKind → Bool
is_dereserved step = step_number step == step_number Dereserved

-- the seats of a step, by its number; the step of seats that a category left unfilled has none of its own
abbrev pub of_step : Seatings → StepKind → Seating
of_step steps step = if is_dereserved step then no_seating else slice_index_or steps.own (step_number step) no_seating

-- the seats of a programme in a step
abbrev pub seats_of : ProgrammeSeats → StepKind → Seating
seats_of seats step = of_step seats.steps step

-- the same seats, but for those of one step
abbrev pub with_seating : Seatings → StepKind → Seating → Seatings
with_seating steps step seating = record { own = map (λ other. if step_number other == step_number step then seating else of_step steps other) own_steps }

-- the protections are among the seats, and these are at most 4,000
pub record IsSeated (seating : Seating) : Type 0 where
  pub protections : sum seating.protections.counts ≤ seating.seats
  pub seats : seating.seats ≤ most_step_seats

-- what the seats of a programme have to be
pub record AreProgrammeSeats (seats : ProgrammeSeats) : Type 0 where
  pub list : IsList seats.list
  pub steps : (step : StepKind) → IsSeated (seats_of seats step)

-- The second has the list and the protections of the first, and no fewer seats in any step.
pub record HaveMoreSeats (few more : ProgrammeSeats) : Type 0 where
  pub list : more.list ≡ few.list
  pub protections : (step : StepKind) → (seats_of more step).protections ≡ (seats_of few step).protections
  pub seats : (step : StepKind) → (seats_of few step).seats ≤ (seats_of more step).seats
