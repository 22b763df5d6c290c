-- The steps after the open one, as they are chosen and shown one after another.
use Rattle.std.specs.Prelude.{◌≤◌, ℕ, List, [], ◌∷◌, Option, Some, None, length, slice_get, take}
use Rattle.std.specs.List.{AllZip, filter}
use Rattle.office_base.specs.CategorySteps.{category_steps}
use Rattle.office_base.specs.Lists.{IsSublist}
use Rattle.office_base.specs.Person.{is_common}
use Rattle.office_base.specs.StepChoice.{IsStepChoice}
use Rattle.office_base.specs.StepNumbers.{step_number}
use Rattle.office_base.specs.declared.category_steps.CategoryStep.{CategoryStep}
use Rattle.office_base.specs.declared.person.Person.{Person}
use Rattle.office_base.specs.declared.step.StepKind.TheVariants.{Dereserved}
use Rattle.seat_matrix.specs.Seats.{no_protections, seats_of}
use Rattle.seat_matrix.specs.declared.seats.ProgrammeSeats.{ProgrammeSeats}
use Rattle.programme_lists.specs.Listing.{Shows}
use Rattle.programme_lists.specs.Programme.{Admissions, is_of, without, step_with, unfilled}
use Rattle.programme_lists.specs.declared.programme.StepList.{StepList}

-- a category's step, as it is chosen and shown from the rest
pub record IsCategoryStep (seats : ProgrammeSeats) (rest : List Person) (row : CategoryStep) (list : StepList) : Type 0 where
  pub choice : IsStepChoice (step_with seats.list (seats_of seats row.step) (filter (is_of row.category) rest)) list.admitted
  pub shows : Shows row.step (seats_of seats row.step).seats (seats_of seats row.step).protections (filter (is_of row.category) rest) list.admitted list

-- the steps of the categories, in the order of their rows
abbrev pub AreCategorySteps : ProgrammeSeats → List Person → List StepList → Type 0
AreCategorySteps seats rest lists = AllZip (IsCategoryStep seats rest) category_steps lists

-- no list admits more than its step has seats
abbrev pub AreWithin : ProgrammeSeats → List StepList → Type 0
AreWithin seats lists = AllZip (λ row list. length list.admitted ≤ (seats_of seats row.step).seats) category_steps lists

-- the persons of these lists are among the people, one list after another, and each list's are still there after those before are taken
abbrev pub AreTaken : List Person → List StepList → Type 0
AreTaken people [] = Unit {0}
AreTaken people (list ∷ lists) = IsSublist list.admitted people × AreTaken (without people list.admitted) lists

-- those of the people whom these lists leave
abbrev pub left_of : List Person → List StepList → List Person
left_of people [] = people
left_of people (list ∷ lists) = left_of (without people list.admitted) lists

-- the persons of a list, if there is one
abbrev pub shown_by : Option StepList → List Person
shown_by None = []
shown_by (Some list) = list.admitted

-- whom each step admits, from the lists of the steps in their order
abbrev pub admissions_in : List StepList → Admissions
admissions_in lists kind = shown_by (slice_get lists (step_number kind))

-- the seats that they leave to the de-reserved step
abbrev pub empty_after : ℕ → ProgrammeSeats → List StepList → ℕ
empty_after version seats lists = unfilled version seats (admissions_in lists)

-- the de-reserved step, as it is shown after the open one and those of the categories
abbrev pub ShowsLast : ℕ → ProgrammeSeats → List Person → StepList → List StepList → StepList → Type 0
ShowsLast version seats rest first lists list =
    Shows Dereserved (empty_after version seats (first ∷ lists)) no_protections (filter (is_common seats.list) (left_of rest lists))
    (take (empty_after version seats (first ∷ lists)) (filter (is_common seats.list) (left_of rest lists))) list
