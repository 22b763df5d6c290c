-- The laws of the choice of a programme from applicants in merit order.
use Rattle.std.proofs.Common.{◌≡◌, ◌≤◌, ℕ, List}
use Rattle.office_base.specs.Lists.{IsAmong, IsSublist}
use Rattle.office_base.specs.StepChoice.{AreRanked}
use Rattle.office_base.specs.declared.person.Person.{Person}
use Rattle.seat_matrix.specs.Seats.{AreProgrammeSeats}
use Rattle.seat_matrix.specs.declared.seats.ProgrammeSeats.{ProgrammeSeats}
use Rattle.programme_lists.specs.Chosen.{IsRefused}
use Rattle.programme_lists.specs.Programme.{Admissions, IsProgrammeChoice, unfilled}
use Rattle.open_then_category.specs.Laws.{admitted_in_all}

-- a programme has at most one choice
abbrev pub RankedOneProgrammeChoice : Type 0
RankedOneProgrammeChoice = (version : ℕ) (seats : ProgrammeSeats) (applicants : List Person) (first second : Admissions) → AreProgrammeSeats seats → AreRanked seats.list applicants
    → IsProgrammeChoice version seats applicants first → IsProgrammeChoice version seats applicants second → first ≡ second

-- a programme has a choice
abbrev pub RankedProgrammeChoiceExists : Type 0
RankedProgrammeChoiceExists = (version : ℕ) (seats : ProgrammeSeats) (applicants : List Person) → AreProgrammeSeats seats → AreRanked seats.list applicants
    → (admissions : Admissions) × IsProgrammeChoice version seats applicants admissions

-- one programme chooses from some applicants, and from those and maybe more
pub record RankedFromMore (version : ℕ) (seats : ProgrammeSeats) (some all : List Person) (before after : Admissions) : Type 0 where
  pub are_seats : AreProgrammeSeats seats
  pub ranked : AreRanked seats.list all
  pub part : IsSublist some all
  pub choice : IsProgrammeChoice version seats some before
  pub more_choice : IsProgrammeChoice version seats all after

-- who is refused from some applicants is refused from more
abbrev pub RankedRefusedFromMore : Type 0
RankedRefusedFromMore = (version : ℕ) (seats : ProgrammeSeats) (some all : List Person) (before after : Admissions) (person : Person)
    → RankedFromMore version seats some all before after → IsAmong person some → IsRefused before person → IsRefused after person

-- the de-reserved step has no more seats where there are more applicants
abbrev pub RankedUnfilledFalls : Type 0
RankedUnfilledFalls = (version : ℕ) (seats : ProgrammeSeats) (some all : List Person) (before after : Admissions)
    → RankedFromMore version seats some all before after → unfilled version seats after ≤ unfilled version seats before

-- from more applicants no fewer are admitted in all
abbrev pub RankedNoFewerAdmitted : Type 0
RankedNoFewerAdmitted = (version : ℕ) (seats : ProgrammeSeats) (some all : List Person) (before after : Admissions)
    → RankedFromMore version seats some all before after → admitted_in_all before ≤ admitted_in_all after

-- without some applicants who are refused each step admits the same persons
abbrev pub RankedLeavingOutTheRefused : Type 0
RankedLeavingOutTheRefused = (version : ℕ) (seats : ProgrammeSeats) (some all : List Person) (before after : Admissions)
    → RankedFromMore version seats some all before after
    → ((person : Person) → IsAmong person all → (IsAmong person some → ⊥) → IsRefused after person) → before ≡ after
