-- The people of a step as a part of the applicants, and which steps are among all.
use Rattle.std.proofs.Common.{◌≡◌, false, List, [], ◌∷◌, Option, Some, None, refl}
use Rattle.office_base.specs.CategorySteps.{all_steps, own_steps, row_of}
use Rattle.office_base.specs.Lists.{IsAmong, IsSublist}
use Rattle.office_base.specs.Person.{is_common}
use Rattle.office_base.specs.StepNumbers.{step_number}
use Rattle.office_base.specs.declared.category_steps.CategoryStep.{CategoryStep}
use Rattle.office_base.specs.declared.person.ListId.{ListId}
use Rattle.office_base.specs.declared.person.Person.{Person}
use Rattle.office_base.specs.declared.step.StepKind.{StepKind}
use Rattle.office_base.specs.declared.step.StepKind.TheVariants.{Open, Dereserved}
use Rattle.office_base.proofs.Lists.{at_among}
use Rattle.office_base.proofs.StepNumbers.{kind_at, own_at}
use Rattle.placements.proofs.Filters.{filter-sublist}
use Rattle.placements.proofs.Sublists.{IsSublist-nil, IsSublist-same, sublist_again}
use Rattle.seat_matrix.specs.Seats.{is_dereserved}
use Rattle.seat_matrix.proofs.SeatsLemmas.{own_number}
use Rattle.programme_lists.specs.Programme.{Admissions, is_of, left_by, left_over, members_by, people_of, without}

-- ---- the steps

-- each step is one of all
pub any_step : (kind : StepKind) → IsAmong kind all_steps
any_step kind = at_among all_steps (step_number kind) kind (kind_at kind)

-- each step with seats of its own is one of those
pub own_among : (kind : StepKind) → is_dereserved kind ≡ false → IsAmong kind own_steps
own_among kind own = at_among own_steps (step_number kind) kind (own_at kind (own_number kind own))

-- the admissions of the steps with seats of their own
abbrev pub by_own : Admissions → Admissions
by_own admissions Dereserved = []
by_own admissions kind = admissions kind

-- they are the same where each such step admits the same persons
pub same_by_own : (some others : Admissions) → ((kind : StepKind) → is_dereserved kind ≡ false → some kind ≡ others kind) → by_own some ≡ by_own others
same_by_own some others same = λ i kind. at kind i
  where
    at : (kind : StepKind) → by_own some kind ≡ by_own others kind
    at Dereserved = refl
    at kind = same kind refl

-- ---- the people of a step

-- the members of a category are a part
pub members_part : (row : Option CategoryStep) (people : List Person) → IsSublist (members_by row people) people
members_part None people = IsSublist-nil people
members_part (Some row) people = filter-sublist (is_of row.category) people

-- those whom some steps left are a part
pub left_part : (kinds : List StepKind) (people : List Person) (admissions : Admissions) → IsSublist (left_by kinds people admissions) people
left_part [] people admissions = IsSublist-same people
left_part (kind ∷ kinds) people admissions = sublist_again _ _ _ (left_part kinds (without people (admissions kind)) admissions) (filter-sublist _ people)

-- the people of a step are some of the applicants, in their order
pub people_part : (list : ListId) (applicants : List Person) (admissions : Admissions) (kind : StepKind) → IsSublist (people_of list applicants admissions kind) applicants
people_part list applicants admissions Open = filter-sublist (is_common list) applicants
people_part list applicants admissions Dereserved =
    sublist_again _ _ _ (filter-sublist (is_common list) (left_over applicants admissions)) (left_part own_steps applicants admissions)
people_part list applicants admissions kind = sublist_again _ _ _ (members_part (row_of kind) (without applicants (admissions Open))) (filter-sublist _ applicants)
