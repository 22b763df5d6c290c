-- The laws of audited lists.
use Rattle.std.specs.Prelude.{◌≡◌, ℕ, Option, List}
use Rattle.office_base.specs.declared.person.CandId.{CandId}
use Rattle.office_base.specs.declared.person.Person.{Person}
use Rattle.office_base.specs.declared.step.StepKind.{StepKind}
use Rattle.seat_matrix.specs.Seats.{AreProgrammeSeats}
use Rattle.seat_matrix.specs.declared.seats.ProgrammeSeats.{ProgrammeSeats}
use Rattle.programme_lists.specs.Chosen.{AreApplicants, ChoosesFrom}
use Rattle.programme_lists.specs.declared.programme.Programme.{Programme}
use Rattle.list_audit.specs.Clauses.{IsListFault, IsSound, audited, named_by}
use Rattle.list_audit.specs.declared.clause.Clause.{Clause}

-- Lists of a programme that break no clause in any step name its choice from its applicants.
abbrev pub SoundListsAreTheChoice : Type 0
SoundListsAreTheChoice = (version : ℕ) (seats : ProgrammeSeats) (people : List Person) (programme : Programme) → AreProgrammeSeats seats → AreApplicants seats.list people
    → ((kind : StepKind) → IsSound (audited version seats people programme kind)) → ChoosesFrom version seats people (named_by programme)

-- Lists break no clause, or one of them first, for one candidate.
abbrev pub OneListFault : Type 0
OneListFault = (version : ℕ) (seats : ProgrammeSeats) (people : List Person) (programme : Programme) (one other : Option (Clause × Option CandId))
    → IsListFault version seats people programme one → IsListFault version seats people programme other → one ≡ other
