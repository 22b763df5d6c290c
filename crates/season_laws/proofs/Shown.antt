-- A programme can show its choice from any people who may apply together.
use Rattle.std.proofs.Common.{ℕ, List, [], ◌∷◌, length, refl}
use Rattle.std.specs.List.{AllZip}
use Rattle.office_base.specs.CategorySteps.{all_steps}
use Rattle.office_base.specs.Merit.{in_merit}
use Rattle.office_base.specs.declared.person.Person.{Person}
use Rattle.office_base.specs.declared.step.StepKind.{StepKind}
use Rattle.placements.specs.Ranks.{AreDistinct}
use Rattle.seat_matrix.specs.Seats.{AreProgrammeSeats, seats_of}
use Rattle.seat_matrix.specs.declared.seats.ProgrammeSeats.{ProgrammeSeats}
use Rattle.programme_lists.specs.Chosen.{AreApplicants, ShowsFrom, everybody}
use Rattle.programme_lists.specs.Listing.{ShowsStep, seats_filled}
use Rattle.programme_lists.specs.Programme.{Admissions, admitted_by, people_of}
use Rattle.programme_lists.specs.declared.programme.Programme.{Programme}
use Rattle.programme_lists.specs.declared.programme.StepList.{StepList}
use Rattle.open_then_category.specs.Laws.{AdmittedOnce, ProgrammeChoiceExists}
use Rattle.round_laws.proofs.Everybody.{step_distinct}
use Rattle.season_laws.proofs.Certificates.{certificate}

-- the list of a step
step_shown : (version : ℕ) (seats : ProgrammeSeats) (applicants : List Person) (admissions : Admissions) (kind : StepKind) → AreDistinct (everybody admissions)
    → (list : StepList) × ShowsStep version seats applicants admissions kind list
step_shown version seats applicants admissions kind all =
    let cert = certificate (seats_of seats kind).protections (admitted_by admissions kind) (step_distinct admissions kind all) in (
      record {
        kind = kind;
        seats = seats_filled version seats admissions kind;
        candidates = length (people_of seats.list applicants admissions kind);
        admitted = admitted_by admissions kind;
        cert = record { pairs = cert.0 };
      },
      record { of_kind = refl; of_seats = refl; candidates = refl; persons = refl; certificate = cert.1 },
    )

-- the lists of steps
steps_shown : (version : ℕ) (seats : ProgrammeSeats) (applicants : List Person) (admissions : Admissions) (kinds : List StepKind) → AreDistinct (everybody admissions)
    → (lists : List StepList) × AllZip (ShowsStep version seats applicants admissions) kinds lists
steps_shown version seats applicants admissions [] all = ([], tt)
steps_shown version seats applicants admissions (kind ∷ kinds) all =
    let one = step_shown version seats applicants admissions kind all in
    let rest = steps_shown version seats applicants admissions kinds all in
    (one.0 ∷ rest.0, (one.1, rest.1))

-- There are lists by which the programme shows its choice.
pub shown : ProgrammeChoiceExists → AdmittedOnce → (version : ℕ) (seats : ProgrammeSeats) (people : List Person) → AreProgrammeSeats seats → AreApplicants seats.list people
    → (programme : Programme) × ShowsFrom version seats people programme
shown exists once version seats people sound may =
    let choice = exists version seats people sound may in
    let apart = (once version seats people choice.0 sound may choice.1).0 in
    let lists = steps_shown version seats (in_merit seats.list people) choice.0 all_steps apart in
    (record { steps = lists.0 }, (choice.0, choice.1, lists.1))
