-- The choice of a programme from people in any order.
use Rattle.std.specs.Prelude.{◌≡◌, ◌⊎◌, ◌++◌, ℕ, List, [], ◌∷◌}
use Rattle.office_base.specs.CategorySteps.{all_steps}
use Rattle.office_base.specs.Lists.{IsAmong}
use Rattle.office_base.specs.Merit.{CanBeRanked, in_merit}
use Rattle.office_base.specs.declared.person.ListId.{ListId}
use Rattle.office_base.specs.declared.person.Person.{Person}
use Rattle.office_base.specs.declared.step.StepKind.{StepKind}
use Rattle.seat_matrix.specs.declared.seats.ProgrammeSeats.{ProgrammeSeats}
use Rattle.programme_lists.specs.Listing.{ShowsChoice}
use Rattle.programme_lists.specs.Programme.{Admissions, IsProgrammeChoice, admitted_by}
use Rattle.programme_lists.specs.declared.programme.Programme.{Programme}

-- the people may apply to a programme of the list together: they are distinct persons with distinct places there
abbrev pub AreApplicants : ListId → List Person → Type 0
AreApplicants list people = CanBeRanked list people

-- the admissions are the choice of the programme from these people
abbrev pub ChoosesFrom : ℕ → ProgrammeSeats → List Person → Admissions → Type 0
ChoosesFrom version seats people admissions = IsProgrammeChoice version seats (in_merit seats.list people) admissions

-- the programme shows its choice from these people
abbrev pub ShowsFrom : ℕ → ProgrammeSeats → List Person → Programme → Type 0
ShowsFrom version seats people programme = ShowsChoice version seats (in_merit seats.list people) programme

-- whom these steps admit, step after step
abbrev pub all_by : List StepKind → Admissions → List Person
all_by [] admissions = []
all_by (kind ∷ kinds) admissions = admissions kind ++ all_by kinds admissions

-- everybody admitted
abbrev pub everybody : Admissions → List Person
everybody admissions = all_by all_steps admissions

-- no step admits the person
abbrev pub IsRefused : Admissions → Person → Type 0
IsRefused admissions person = (kind : StepKind) → IsAmong person (admitted_by admissions kind) → ⊥

-- some step admits the person
abbrev pub IsAdmitted : Admissions → Person → Type 0
IsAdmitted admissions person = (kind : StepKind) × IsAmong person (admitted_by admissions kind)

-- the programme admits the person from the people under this step
abbrev pub AdmitsUnder : ℕ → ProgrammeSeats → List Person → Person → StepKind → Type 0
AdmitsUnder version seats people person kind = (admissions : Admissions) × ChoosesFrom version seats people admissions × IsAmong person (admitted_by admissions kind)

-- Some people with one person more.
pub record IsWith (person : Person) (some all : List Person) : Type 0 where
  pub part : (other : Person) → IsAmong other some → IsAmong other all
  pub here : IsAmong person all
  pub nobody_else : (other : Person) → IsAmong other all → IsAmong other some ⊎ (other ≡ person)
