-- When what a refusal reports is just.
use Rattle.std.specs.Prelude.{◌≡◌, ◌<◌, ℕ, List, [], ◌++◌, option_to_list, length, IsTrue, ◌↔◌}
use Rattle.std.specs.List.{AllByRecursion}
use Rattle.office_base.specs.Lists.{AnyByRecursion, IsAmong}
use Rattle.office_base.specs.Merit.{with_person}
use Rattle.office_base.specs.Person.{IsBetter}
use Rattle.office_base.specs.Placement.{IsHonoured}
use Rattle.office_base.specs.declared.person.Person.{Person}
use Rattle.placements.specs.Ranks.{without}
use Rattle.programme_lists.specs.Chosen.{AreApplicants, ShowsFrom}
use Rattle.programme_lists.specs.declared.programme.Programme.{Programme}
use Rattle.programme_lists.specs.declared.programme.StepList.{StepList}
use Rattle.reasons.specs.declared.reason.Reason.{Reason}
use Rattle.reasons.specs.declared.reason.Reason.TheVariants.{Admitted, Refused}
use Rattle.reasons.specs.declared.reason.StepWhy.{StepWhy}
use Rattle.seat_matrix.specs.Seats.{AreProgrammeSeats, seats_of}
use Rattle.seat_matrix.specs.declared.seats.ProgrammeSeats.{ProgrammeSeats}
use Rattle.explain.specs.Reason.{reason_of}

-- The person was one of those from whom the programme shows its choice.
pub record WasApplicant (seats : ProgrammeSeats) (programme : Programme) (person : Person) : Type 0 where
  pub version : ℕ
  pub people : List Person
  pub may : AreApplicants seats.list people
  pub shows : ShowsFrom version seats people programme
  pub among : IsAmong person people

-- the steps that a reason reports
abbrev pub told : Reason → List StepWhy
told (Admitted step) = []
told (Refused at_open at_category at_dereserved) = option_to_list at_open ++ option_to_list at_category ++ option_to_list at_dereserved

-- What is reported of a step is true, and it counts against the person.
pub record StandsAgainst (seats : ProgrammeSeats) (programme : Programme) (person : Person) (why : StepWhy) : Type 0 where
  -- the list of the step
  pub shown : StepList
  pub listed : IsAmong shown programme.steps
  pub of_kind : shown.kind ≡ why.kind
  -- as many are admitted as it has seats
  pub seats_told : shown.seats ≡ why.seats
  pub full : length shown.admitted ≡ why.seats
  -- it reports somebody worse exactly when somebody worse was admitted
  pub worse : IsTrue why.worse ↔ AnyByRecursion (IsBetter seats.list person) shown.admitted
  -- with the person in place of anybody worse who was admitted, the step would honour fewer
  pub swapped : (other : Person) (m n : ℕ) → IsAmong other shown.admitted → IsBetter seats.list person other
      → IsHonoured (seats_of seats why.kind).protections (with_person seats.list person (without other.id shown.admitted)) m
      → IsHonoured (seats_of seats why.kind).protections shown.admitted n → m < n

-- each step that a refusal reports counts against the person
abbrev pub ReasonsAreJust : Type 0
ReasonsAreJust = (seats : ProgrammeSeats) (programme : Programme) (person : Person) → AreProgrammeSeats seats → WasApplicant seats programme person
    → AllByRecursion (StandsAgainst seats programme person) (told (reason_of seats.list programme person))
