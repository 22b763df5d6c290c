-- What the cutoffs of a programme are worth, over its choice.
use Rattle.std.specs.Prelude.{◌≡◌, ◌⊎◌, ◌↔◌, ℕ, List}
use Rattle.office_base.specs.Lists.{IsAmong}
use Rattle.office_base.specs.Merit.{in_merit}
use Rattle.office_base.specs.Person.{IsTraitSet}
use Rattle.office_base.specs.declared.person.Person.{Person}
use Rattle.office_base.specs.declared.person.TraitSet.{TraitSet}
use Rattle.office_base.specs.declared.step.StepKind.{StepKind}
use Rattle.merit_choice.specs.State.{IsStepKept}
use Rattle.placements.specs.Ranks.{AreAmong, AreDistinct}
use Rattle.step_cutoffs.specs.Cutoff.{IsCutoff, IsNoWider}
use Rattle.step_cutoffs.specs.declared.cutoff.Cutoff.{Cutoff}
use Rattle.seat_matrix.specs.Seats.{AreProgrammeSeats, HaveMoreSeats}
use Rattle.seat_matrix.specs.declared.seats.ProgrammeSeats.{ProgrammeSeats}
use Rattle.programme_lists.specs.Chosen.{AreApplicants, ChoosesFrom, IsAdmitted, ShowsFrom}
use Rattle.programme_lists.specs.Listing.{ShowsSteps}
use Rattle.programme_lists.specs.Programme.{Admissions, admitted_by}
use Rattle.programme_lists.specs.declared.programme.Programme.{Programme}
use Rattle.open_then_category.specs.Laws.{ChoosesFromMore}
use Rattle.list_cutoffs.specs.Cutoffs.{AreCutoffsIn, AreKeptListed}
use Rattle.list_cutoffs.specs.declared.cutoffs.StepCutoff.{StepCutoff}
use Rattle.programme_cutoffs.specs.Cutoffs.{MeetsCutoff, MeetsFirst, kept_by}
use Rattle.programme_cutoffs.specs.Reading.{IsWithinStep}

-- each step of a programme that has chosen is one whose seats hold a choice, so it has cutoffs
abbrev pub StepsAreKept : Type 0
StepsAreKept = (version : ℕ) (seats : ProgrammeSeats) (people : List Person) (admissions : Admissions) (kind : StepKind) → AreProgrammeSeats seats → AreApplicants seats.list people
    → ChoosesFrom version seats people admissions → IsStepKept (kept_by version seats admissions kind)

-- A programme chooses from some people, and again from these and this person, who may be one of them.
pub record IsJoinedBy (version : ℕ) (seats : ProgrammeSeats) (some all : List Person) (before after : Admissions) (person : Person) : Type 0 where
  pub both : ChoosesFromMore version seats some all before after
  pub there : IsAmong person all
  pub nobody_else : (other : Person) → IsAmong other all → IsAmong other some ⊎ (other ≡ person)

-- The cutoffs decide. A person joins all applicants of a programme, or was one of them.
-- Then each step admits the person from all these exactly if it is the first one whose cutoff they meet.
abbrev pub CutoffsDecideSteps : Type 0
CutoffsDecideSteps = (version : ℕ) (seats : ProgrammeSeats) (some all : List Person) (before after : Admissions) (person : Person) (kind : StepKind)
    → IsJoinedBy version seats some all before after person → IsAmong person (admitted_by after kind) ↔ MeetsFirst version seats before person kind

-- so the programme admits the person exactly if they meet the cutoff of some step
abbrev pub CutoffsDecideAdmissions : Type 0
CutoffsDecideAdmissions = (version : ℕ) (seats : ProgrammeSeats) (some all : List Person) (before after : Admissions) (person : Person)
    → IsJoinedBy version seats some all before after person → IsAdmitted after person ↔ ((kind : StepKind) × MeetsCutoff version seats before person kind)

-- The lines tell the same. A programme shows its choice, and these are the lines of its lists.
-- Then a person meets the cutoff of a step exactly if they are within one of its lines.
abbrev pub LinesTellCutoffs : Type 0
LinesTellCutoffs = (version : ℕ) (seats : ProgrammeSeats) (people : List Person) (admissions : Admissions) (programme : Programme) (lines : List StepCutoff) (person : Person) (kind : StepKind)
    → AreProgrammeSeats seats → AreApplicants seats.list people → ChoosesFrom version seats people admissions → ShowsSteps version seats (in_merit seats.list people) admissions programme
    → AreCutoffsIn seats programme.steps lines → IsTraitSet person.traits → MeetsCutoff version seats admissions person kind ↔ IsWithinStep seats.list person kind lines

-- each list of a programme that has chosen is of a step whose seats hold a choice, so it has lines
abbrev pub ListsAreKept : Type 0
ListsAreKept = (version : ℕ) (seats : ProgrammeSeats) (people : List Person) (programme : Programme) → AreProgrammeSeats seats → AreApplicants seats.list people
    → ShowsFrom version seats people programme → AreKeptListed seats programme.steps

-- A programme chooses from all, and later, with no fewer seats in any step, from some of these.
pub record ChoosesLater (version : ℕ) (seats more : ProgrammeSeats) (all some : List Person) (before after : Admissions) : Type 0 where
  pub are_seats : AreProgrammeSeats seats
  pub more_are_seats : AreProgrammeSeats more
  pub more_seats : HaveMoreSeats seats more
  pub distinct : AreDistinct some
  pub part : AreAmong some all
  pub choice : ChoosesFrom version seats all before
  pub later_choice : ChoosesFrom version more some after

-- Cutoffs only widen, step by step: the cutoff of each set of traits is later no narrower.
abbrev pub CutoffsOnlyWiden : Type 0
CutoffsOnlyWiden = (version : ℕ) (seats more : ProgrammeSeats) (all some : List Person) (before after : Admissions) (kind : StepKind) (traits : TraitSet) (cutoff wider : Cutoff)
    → ChoosesLater version seats more all some before after → AreApplicants seats.list all → IsTraitSet traits → IsCutoff (kept_by version seats before kind) traits cutoff
    → IsCutoff (kept_by version more after kind) traits wider → IsNoWider cutoff wider

-- So whoever meets the cutoff of a step meets that of the same step later.
abbrev pub WhoMeetsStillMeets : Type 0
WhoMeetsStillMeets = (version : ℕ) (seats more : ProgrammeSeats) (all some : List Person) (before after : Admissions) (person : Person) (kind : StepKind)
    → ChoosesLater version seats more all some before after → AreApplicants seats.list all → IsTraitSet person.traits → MeetsCutoff version seats before person kind
    → MeetsCutoff version more after person kind
