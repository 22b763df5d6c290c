-- The seats and protections that final admissions leave.
use Rattle.std.specs.Prelude.{◌≡◌, ◌<◌, ◌+◌, ◌-◌, ◌&&◌, ℕ, Bool, true, false, min, nat_lt, sum_by, List, [], ◌∷◌, Option, Some, None, IsSome, length, map, if◌then◌else◌}
use Rattle.std.specs.List.{AllByRecursion}
use Rattle.office_base.specs.CategorySteps.{category_steps, own_steps, row_of}
use Rattle.office_base.specs.Lists.{Pairwise}
use Rattle.office_base.specs.Certificate.{IsCanonical}
use Rattle.office_base.specs.Merit.{in_merit}
use Rattle.office_base.specs.Person.{number_in}
use Rattle.office_base.specs.Placement.{placed_on}
use Rattle.office_base.specs.StepNumbers.{step_number}
use Rattle.office_base.specs.declared.category_steps.CategoryStep.{CategoryStep}
use Rattle.office_base.specs.declared.category_steps.GivesUp.{GivesUp}
use Rattle.office_base.specs.declared.category_steps.GivesUp.TheVariants.{Never, InVersion, Always}
use Rattle.office_base.specs.declared.person.ListId.{ListId}
use Rattle.office_base.specs.declared.person.Person.{Person}
use Rattle.office_base.specs.declared.step.Pair.{Pair}
use Rattle.office_base.specs.declared.step.StepKind.{StepKind}
use Rattle.office_base.specs.declared.step.StepKind.TheVariants.{Dereserved}
use Rattle.kept_rows.specs.declared.rows.AllotRow.{AllotRow}
use Rattle.rank_lists.specs.Register.{find_person}
use Rattle.seat_matrix.specs.Matrix.{SeatTable, list_in, seating_in, steps_in}
use Rattle.seat_matrix.specs.Seats.{is_dereserved, of_step}
use Rattle.seat_matrix.specs.declared.seats.Seating.{Seating}
use Rattle.seat_matrix.specs.declared.seats.Seatings.{Seatings}
use Rattle.special_round.specs.Rows.{finals_of, rows_of_step}

-- Final rows of a season: of people in rising order of id, each of a programme of the matrix, in whose merit list the person has a place.
pub record AreFinals (people : List Person) (table : SeatTable) (rows : List AllotRow) : Type 0 where
  pub rising : Pairwise (λ a b. a.cand.0 < b.cand.0) rows
  pub below : AllByRecursion (λ row. row.prog.0 < length table.programmes) rows
  pub placed : AllByRecursion (λ row. (person : Person) × (find_person row.cand.0 people ≡ Some person) × IsSome (number_in (list_in table row.prog.0) person)) rows

-- ---- seats

-- the seats of a step without those of its own final rows
abbrev pub own_left : SeatTable → List AllotRow → ℕ → StepKind → ℕ
own_left table rows prog step = (seating_in table prog step).seats - rows_of_step rows prog step

-- in some version of the bundle the empty seats of the category go to the de-reserved step
abbrev pub ever_given : GivesUp → Bool
ever_given Never = false
ever_given (InVersion only) = true
ever_given Always = true

abbrev pub may_be_taken : CategoryStep → Bool
may_be_taken row = ever_given row.gives_up

-- the seats that the categories behind a step in the table have left of their own, of those whose seats may be taken
abbrev pub left_behind : (StepKind → ℕ) → StepKind → ℕ
left_behind own step = sum_by (λ row. if may_be_taken row && nat_lt (step_number step) (step_number row.step) then own row.step else 0) category_steps

-- How many rows of the de-reserved step take a seat of the step of a row, as far as there is one. Each takes one of the last category in the table whose
-- seats may be taken while one is left there, and then one of the category before it: of OBC, and then of EWS.
abbrev pub taken_from : (StepKind → ℕ) → ℕ → Option CategoryStep → ℕ
taken_from own dereserved None = 0
taken_from own dereserved (Some row) = if may_be_taken row then dereserved - left_behind own row.step else 0

-- The seats that final rows leave to a step: each row of the step takes one, and then rows of the de-reserved step do.
abbrev pub seats_left : SeatTable → List AllotRow → ℕ → StepKind → ℕ
seats_left table rows prog step = own_left table rows prog step - taken_from (own_left table rows prog) (rows_of_step rows prog Dereserved) (row_of step)

-- the seats of a programme are those of the steps with seats of their own, and no more
abbrev pub AreOwn : Seatings → Type 0
AreOwn steps = steps.own ≡ map (λ step. of_step steps step) own_steps

-- ---- protections

-- What the pairs left of each protection, trait by trait, from this trait on.
-- Each is at most the seats of `room` that the traits before it do not have.
abbrev pub protections_left : ℕ → List ℕ → List Pair → ℕ → List ℕ
protections_left trait [] pairs room = []
protections_left trait (count ∷ counts) pairs room =
    min (count - placed_on trait pairs) room ∷ protections_left (trait + 1) counts pairs (room - min (count - placed_on trait pairs) room)

-- What a step has left: so many seats, and the protections that the canonical certificate of its final persons did not fill.
pub record IsLeft (list : ListId) (old : Seating) (persons : List Person) (seats : ℕ) (left : Seating) : Type 0 where
  pub pairs : List Pair
  pub canonical : IsCanonical old.protections (in_merit list persons) pairs
  pub seats_are : left.seats ≡ seats
  pub protections : left.protections.counts ≡ protections_left 0 old.protections.counts pairs seats

-- The matrix has what final rows left of another one, for the same programmes.
pub record IsRemaining (people : List Person) (rows : List AllotRow) (table left : SeatTable) : Type 0 where
  pub programmes : left.programmes ≡ table.programmes
  pub steps : (prog : ℕ) (step : StepKind) → prog < length table.programmes → is_dereserved step ≡ false
      → IsLeft (list_in table prog) (seating_in table prog step) (finals_of people rows prog step) (seats_left table rows prog step) (seating_in left prog step)
  -- and there are no others
  pub alone : (prog : ℕ) → prog < length table.programmes → AreOwn (steps_in left prog)
