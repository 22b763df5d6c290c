-- How many applicants came to a programme.
use Rattle.std.specs.Prelude.{◌≡◌, ◌≤◌, ◌+◌, ℕ, List, [], ◌∷◌, Bool, length, map, sum, if◌then◌else◌}
use Rattle.std.specs.List.{AllByRecursion, AllZip, filter}
use Rattle.office_base.specs.CategorySteps.{category_steps, own_steps}
use Rattle.office_base.specs.Person.{IsTraitSet, is_common}
use Rattle.office_base.specs.declared.category_steps.CategoryStep.{CategoryStep}
use Rattle.office_base.specs.declared.person.ListId.{ListId}
use Rattle.office_base.specs.declared.person.Person.{Person}
use Rattle.office_base.specs.declared.step.StepKind.TheVariants.{Open, Dereserved}
use Rattle.placements.specs.Ranks.{AreDistinct}
use Rattle.seat_matrix.specs.Seats.{no_protections, seats_of}
use Rattle.programme_lists.specs.Chosen.{AreApplicants, ChoosesFrom}
use Rattle.programme_lists.specs.Listing.{Shows}
use Rattle.programme_lists.specs.Programme.{Admissions, is_of, unfilled}
use Rattle.programme_lists.specs.declared.programme.StepList.{StepList}
use Rattle.open_then_category.specs.State.{ProgrammeKept, admissions_of}
use Rattle.open_then_category.specs.declared.kept_lists.Tried.{Tried}

-- how many of the people are members of each category that has seats of its own, in the order of their rows
abbrev pub members_of : List Person → List ℕ
members_of people = map (λ row. length (filter (is_of row.category) people)) category_steps

-- of these people, those with a common place in the list, and the members of each category
abbrev pub counted : ListId → List Person → Tried
counted list people = record { list = list; common = length (filter (is_common list) people); members = members_of people }

-- one where the test is passed
abbrev pub one_if : Bool → ℕ
one_if passed = if passed then 1 else 0

-- the numbers of members with one person more
abbrev pub with_member : Person → List CategoryStep → List ℕ → List ℕ
with_member person (row ∷ rows) (count ∷ counts) = (count + one_if (is_of row.category person)) ∷ with_member person rows counts
with_member person _ _ = []

-- the counts with one person more
abbrev pub with_one : Person → Tried → Tried
with_one person tried = record {
  list = tried.list;
  common = tried.common + one_if (is_common tried.list person);
  members = with_member person category_steps tried.members;
}

-- The programme keeps the choice from these people, and so many of them there are.
pub record HaveCome (state : ProgrammeKept) (tried : Tried) (people : List Person) : Type 0 where
  pub may : AreApplicants state.seats.list people
  pub choice : ChoosesFrom state.version state.seats people (admissions_of state)
  pub counts : tried ≡ counted state.seats.list people

-- ---- within

-- how many of those whom the steps before the de-reserved one admit have a common place
abbrev pub common_taken : ListId → Admissions → ℕ
common_taken list admissions = sum (map (λ kind. length (filter (is_common list) (admissions kind))) own_steps)

-- the list of a category's step is shown of any members whom the open step left, if with those whom it took that many came
abbrev pub ShowsCategory : ProgrammeKept → CategoryStep → ℕ → StepList → Type 0
ShowsCategory state row came list = (people : List Person) → length people + length (filter (is_of row.category) (admissions_of state Open)) ≡ came
    → Shows row.step (seats_of state.seats row.step).seats (seats_of state.seats row.step).protections people (admissions_of state row.step) list

-- Each row's step admits distinct persons with sound traits, and no more members came to it than that many, those whom the open step took included.
pub record IsCounted (state : ProgrammeKept) (row : CategoryStep) (came : ℕ) : Type 0 where
  pub distinct : AreDistinct (admissions_of state row.step)
  pub traits : AllByRecursion (λ person. IsTraitSet person.traits) (admissions_of state row.step)
  pub few : length (filter (is_of row.category) (admissions_of state Open)) ≤ came

abbrev pub AreCounted : ProgrammeKept → List CategoryStep → List ℕ → Type 0
AreCounted state rows counts = AllZip (IsCounted state) rows counts

-- the lists of the steps of rows, from that many members of each category
abbrev pub ShowCategories : ProgrammeKept → List CategoryStep → List ℕ → List StepList → Type 0
ShowCategories state [] [] [] = Unit {0}
ShowCategories state (row ∷ rows) (came ∷ more) (list ∷ lists) = ShowsCategory state row came list × ShowCategories state rows more lists
ShowCategories state _ _ _ = ⊥

-- the list of the open step, from that many with a common place
abbrev pub ShowsOpen : ProgrammeKept → ℕ → StepList → Type 0
ShowsOpen state came list = (people : List Person) → length people ≡ came
    → Shows Open (seats_of state.seats Open).seats (seats_of state.seats Open).protections people (admissions_of state Open) list

-- the list of the de-reserved step is shown of any who have a common place and whom no step before took, if with those whom one took that many came
abbrev pub ShowsDereserved : ProgrammeKept → ℕ → StepList → Type 0
ShowsDereserved state came list = (people : List Person) → length people + common_taken state.seats.list (admissions_of state) ≡ came
    → Shows Dereserved (unfilled state.version state.seats (admissions_of state)) no_protections people (admissions_of state Dereserved) list
