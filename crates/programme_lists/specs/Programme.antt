-- The choice of a programme, by the choice of a step alone: open seats first, then those of each category from its members whom the open ones
-- did not take (Baswana and others 2019), then the seats that categories left unfilled.
use Rattle.std.specs.Prelude.{◌≡◌, ℕ, List, [], ◌∷◌, Bool, false, not, ◌||◌, ◌==◌, Option, Some, None, length, take}
use Rattle.std.specs.List.{filter}
use Rattle.office_base.specs.CategorySteps.{category_number, own_steps, row_of}
use Rattle.office_base.specs.Person.{is_common}
use Rattle.office_base.specs.StepChoice.{IsStepChoice}
use Rattle.office_base.specs.declared.category_steps.CategoryStep.{CategoryStep}
use Rattle.office_base.specs.declared.person.Category.{Category}
use Rattle.office_base.specs.declared.person.ListId.{ListId}
use Rattle.office_base.specs.declared.person.Person.{Person}
use Rattle.office_base.specs.declared.step.Step.{Step}
use Rattle.office_base.specs.declared.step.StepKind.{StepKind}
use Rattle.office_base.specs.declared.step.StepKind.TheVariants.{Open, Dereserved}
use Rattle.seat_matrix.specs.Seats.{is_dereserved, seats_of}
use Rattle.seat_matrix.specs.Unfilled.{left_unfilled}
use Rattle.seat_matrix.specs.declared.seats.ProgrammeSeats.{ProgrammeSeats}
use Rattle.seat_matrix.specs.declared.seats.Seating.{Seating}

-- ---- people

-- the two categories are one
abbrev pub is_same : Category → Category → Bool
is_same category other = category_number category == category_number other

-- the person is of the category
abbrev pub is_of : Category → Person → Bool
is_of category person = is_same category person.category

-- the person is one of those taken
abbrev pub is_taken : List Person → Person → Bool
is_taken [] person = false
is_taken (other ∷ taken) person = other.id.0 == person.id.0 || is_taken taken person

-- the people who are not taken, in their order
abbrev pub without : List Person → List Person → List Person
without people taken = filter (λ person. not (is_taken taken person)) people

-- ---- the steps

-- whom each step of a programme admits
abbrev pub Admissions : Type 0
Admissions = StepKind → List Person

-- whom one step admits
abbrev pub admitted_by : Admissions → StepKind → List Person
admitted_by admissions kind = admissions kind

-- those whom these steps left, one after another
abbrev pub left_by : List StepKind → List Person → Admissions → List Person
left_by [] people admissions = people
left_by (kind ∷ kinds) people admissions = left_by kinds (without people (admissions kind)) admissions

-- those whom the steps before the de-reserved one left
abbrev pub left_over : List Person → Admissions → List Person
left_over applicants admissions = left_by own_steps applicants admissions

-- the members of the category of a row; a step that is of no category has none
abbrev pub members_by : Option CategoryStep → List Person → List Person
members_by None people = []
members_by (Some row) people = filter (is_of row.category) people

-- The people of a step: open and de-reserved seats are for those with a common place, and a category's for its members, whatever their places.
-- No step sees a person whom the open one took, and the de-reserved one sees nobody whom an earlier step took.
abbrev pub people_of : ListId → List Person → Admissions → StepKind → List Person
people_of list applicants admissions Open = filter (is_common list) applicants
people_of list applicants admissions Dereserved = filter (is_common list) (left_over applicants admissions)
people_of list applicants admissions kind = members_by (row_of kind) (without applicants (admissions Open))

-- the seats of the de-reserved step: those that categories left unfilled and give away in this version
abbrev pub unfilled : ℕ → ProgrammeSeats → Admissions → ℕ
unfilled version seats admissions = left_unfilled version (λ kind. (seats_of seats kind).seats) (λ kind. length (admissions kind))

-- one list of a programme, with the people who compete for the seats
abbrev pub step_with : ListId → Seating → List Person → Step
step_with list seats people = record { list = list; seats = seats.seats; protections = seats.protections; people = people }

-- a step that has seats of its own
abbrev pub step_of : ProgrammeSeats → List Person → Admissions → StepKind → Step
step_of seats applicants admissions kind = step_with seats.list (seats_of seats kind) (people_of seats.list applicants admissions kind)

-- The admissions are the choice of the programme, by the version of the bundle, from its applicants, who are in merit
-- order.
pub record IsProgrammeChoice (version : ℕ) (seats : ProgrammeSeats) (applicants : List Person) (admissions : Admissions) : Type 0 where
  -- each step with seats of its own admits the choice of that step
  pub own : (kind : StepKind) → is_dereserved kind ≡ false → IsStepChoice (step_of seats applicants admissions kind) (admissions kind)
  -- the best of its people, without protections
  pub dereserved : admissions Dereserved ≡ take (unfilled version seats admissions) (people_of seats.list applicants admissions Dereserved)
