-- What the choice of a programme is worth to those who apply, over its definition alone.
use Rattle.std.specs.Prelude.{◌≡◌, ◌≢◌, ◌<◌, ◌⊎◌, ◌↔◌, ℕ, List, Option, Some, None, IsTrue, length, true}
use Rattle.office_base.specs.Lists.{IsAmong}
use Rattle.office_base.specs.Person.{IsBetter, has_trait, is_common, number_in}
use Rattle.office_base.specs.CategorySteps.{row_of}
use Rattle.office_base.specs.declared.category_steps.CategoryStep.{CategoryStep}
use Rattle.office_base.specs.declared.person.Category.TheVariants.{Gen}
use Rattle.office_base.specs.declared.person.ListId.{ListId}
use Rattle.office_base.specs.declared.person.Person.{Person}
use Rattle.office_base.specs.declared.step.StepKind.{StepKind}
use Rattle.office_base.specs.declared.step.StepKind.TheVariants.{Open, Dereserved}
use Rattle.programme_lists.specs.Chosen.{AreApplicants, ChoosesFrom, IsAdmitted}
use Rattle.programme_lists.specs.Listing.{seats_filled}
use Rattle.programme_lists.specs.Programme.{Admissions, admitted_by}
use Rattle.seat_matrix.specs.Seats.{AreProgrammeSeats}
use Rattle.seat_matrix.specs.declared.seats.ProgrammeSeats.{ProgrammeSeats}

-- the person is a member of the category of the row; a step that is of no category has no members
abbrev pub IsMember : Option CategoryStep → Person → Type 0
IsMember None person = ⊥
IsMember (Some row) person = person.category ≡ row.category

-- The person may compete for a step: for open and de-reserved seats with a common place in the list, for the seats of
-- a category as one of its members.
abbrev pub MayStandFor : ListId → StepKind → Person → Type 0
MayStandFor list Open person = is_common list person ≡ true
MayStandFor list Dereserved person = is_common list person ≡ true
MayStandFor list kind person = IsMember (row_of kind) person

-- the person holds each trait that the other one holds
abbrev pub HoldsEachTraitOf : Person → Person → Type 0
HoldsEachTraitOf person other = (t : ℕ) → IsTrue (has_trait other.traits t) → IsTrue (has_trait person.traits t)

-- Of two applicants, the better one may compete for the step that admits the worse one, and holds each trait that the
-- worse one holds. Then the programme admits the better one too, under this step or another.
abbrev pub NobodyIsPassedOver : Type 0
NobodyIsPassedOver = (version : ℕ) (seats : ProgrammeSeats) (people : List Person) (admissions : Admissions) (better worse : Person) (step : StepKind) → AreProgrammeSeats seats
    → AreApplicants seats.list people → ChoosesFrom version seats people admissions → IsAmong better people → IsAmong worse (admitted_by admissions step)
    → IsBetter seats.list better worse → MayStandFor seats.list step better → HoldsEachTraitOf better worse → IsAdmitted admissions better

-- A step refuses nobody while it has a seat left: it admits fewer people than it fills seats, and an applicant may compete for it.
-- Then the programme admits the applicant, under this step or another. This holds of all steps.
abbrev pub EmptySeatsRefuseNobody : Type 0
EmptySeatsRefuseNobody = (version : ℕ) (seats : ProgrammeSeats) (people : List Person) (admissions : Admissions) (person : Person) (step : StepKind) → AreProgrammeSeats seats
    → AreApplicants seats.list people → ChoosesFrom version seats people admissions → length (admitted_by admissions step) < seats_filled version seats admissions step
    → IsAmong person people → MayStandFor seats.list step person → IsAdmitted admissions person

-- whom a step admits may compete for it
abbrev pub AdmittedMayStand : Type 0
AdmittedMayStand = (version : ℕ) (seats : ProgrammeSeats) (people : List Person) (admissions : Admissions) (person : Person) (step : StepKind) → ChoosesFrom version seats people admissions
    → IsAmong person (admitted_by admissions step) → MayStandFor seats.list step person

-- ---- one applicant who is better off

-- The same applicant, who is no worse off in a list: with each trait held before and perhaps more, with the same number there or a better one, with a common
-- place if it was common, and in the same category, or in one declared in place of GEN.
pub record IsNoWorseOff (list : ListId) (before after : Person) : Type 0 where
  pub id : after.id ≡ before.id
  pub traits : HoldsEachTraitOf after before
  pub place : (number_in list after ≡ number_in list before) ⊎ IsBetter list after before
  pub common : is_common list before ≡ true → is_common list after ≡ true
  pub category : (after.category ≡ before.category) ⊎ (before.category ≡ Gen)

-- The people before and after are the same, but for this one applicant.
pub record AreTheSameBut (before after : Person) (people others : List Person) : Type 0 where
  pub there : IsAmong before people
  pub there_after : IsAmong after others
  pub rest : (other : Person) → other.id ≢ before.id → IsAmong other people ↔ IsAmong other others

-- A trait more, a category in place of GEN, a common place in place of a relaxed one, or a better place never costs an applicant the seat.
-- With all other applicants as they are, a programme that admits the applicant before admits the applicant after.
abbrev pub BeingBetterOffNeverHurts : Type 0
BeingBetterOffNeverHurts = (version : ℕ) (seats : ProgrammeSeats) (people others : List Person) (admissions changed : Admissions) (before after : Person) → AreProgrammeSeats seats
    → AreApplicants seats.list people → AreApplicants seats.list others → AreTheSameBut before after people others → IsNoWorseOff seats.list before after
    → ChoosesFrom version seats people admissions → ChoosesFrom version seats others changed → IsAdmitted admissions before → IsAdmitted changed after
