-- The cutoffs of a programme: those of its steps, each for the people who may stand for it.
use Rattle.std.specs.Prelude.{◌<◌, ℕ}
use Rattle.office_base.specs.Person.{number_in}
use Rattle.office_base.specs.StepNumbers.{step_number}
use Rattle.office_base.specs.declared.person.Person.{Person}
use Rattle.office_base.specs.declared.step.StepKind.{StepKind}
use Rattle.merit_choice.specs.State.{StepKept}
use Rattle.step_cutoffs.specs.Cutoff.{IsCutoff, IsWithin}
use Rattle.step_cutoffs.specs.declared.cutoff.Cutoff.{Cutoff}
use Rattle.seat_matrix.specs.Seats.{seats_of}
use Rattle.seat_matrix.specs.declared.seats.ProgrammeSeats.{ProgrammeSeats}
use Rattle.programme_lists.specs.Listing.{seats_filled}
use Rattle.programme_lists.specs.Programme.{Admissions, admitted_by}
use Rattle.programme_laws.specs.Laws.{MayStandFor}

-- a step of the programme, with the seats that it fills and whom it admits
abbrev pub kept_by : ℕ → ProgrammeSeats → Admissions → StepKind → StepKept
kept_by version seats admissions kind =
    record { list = seats.list; seats = seats_filled version seats admissions kind; protections = (seats_of seats kind).protections; held = admitted_by admissions kind }

-- the person may stand for the step, and is within its cutoff for their traits
abbrev pub MeetsCutoff : ℕ → ProgrammeSeats → Admissions → Person → StepKind → Type 0
MeetsCutoff version seats admissions person kind =
    MayStandFor seats.list kind person × (cutoff : Cutoff) × IsCutoff (kept_by version seats admissions kind) person.traits cutoff × IsWithin cutoff (number_in seats.list person)

-- the person meets the cutoff of this step, and of none before it
abbrev pub MeetsFirst : ℕ → ProgrammeSeats → Admissions → Person → StepKind → Type 0
MeetsFirst version seats admissions person kind =
    MeetsCutoff version seats admissions person kind × ((before : StepKind) → step_number before < step_number kind → MeetsCutoff version seats admissions person before → ⊥)
