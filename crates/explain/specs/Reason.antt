-- The reason of one person at one programme, from the programme's lists.
use Rattle.std.specs.Prelude.{Bool, false, List, [], ◌∷◌, Option, Some, None, ◌||◌, if◌then◌else◌, slice_get}
use Rattle.std.specs.Option.{option_and_then, option_map}
use Rattle.office_base.specs.CategorySteps.{category_steps}
use Rattle.office_base.specs.Merit.{is_better}
use Rattle.office_base.specs.Person.{is_common}
use Rattle.office_base.specs.declared.category_steps.CategoryStep.{CategoryStep}
use Rattle.office_base.specs.declared.person.Category.{Category}
use Rattle.office_base.specs.declared.person.ListId.{ListId}
use Rattle.office_base.specs.declared.person.Person.{Person}
use Rattle.office_base.specs.declared.seat.SeatKind.TheVariants.{Under}
use Rattle.office_base.specs.declared.step.StepKind.{StepKind}
use Rattle.office_base.specs.declared.step.StepKind.TheVariants.{Open, Dereserved}
use Rattle.office_base.specs.StepNumbers.{step_number}
use Rattle.programme_lists.specs.Programme.{is_same, is_taken}
use Rattle.programme_lists.specs.declared.programme.Programme.{Programme}
use Rattle.programme_lists.specs.declared.programme.StepList.{StepList}
use Rattle.reasons.specs.declared.reason.Reason.{Reason}
use Rattle.reasons.specs.declared.reason.Reason.TheVariants.{Admitted, Refused}
use Rattle.reasons.specs.declared.reason.StepWhy.{StepWhy}

-- the step whose list has the person
abbrev pub admitted_in : List StepList → Person → Option StepKind
admitted_in [] person = None
admitted_in (list ∷ lists) person = if is_taken list.admitted person then Some list.kind else admitted_in lists person

-- the person is better than somebody admitted
abbrev pub has_worse : ListId → Person → List Person → Bool
has_worse list person [] = false
has_worse list person (other ∷ admitted) = is_better list person other || has_worse list person admitted

-- what counted against the person at the step that this list shows: its seats, and whether somebody worse was
-- admitted
abbrev pub step_why : ListId → Person → StepList → StepWhy
step_why list person shown = record { kind = shown.kind; seats = shown.seats; worse = has_worse list person shown.admitted }

-- what counted against the person at a step
abbrev pub why_at : ListId → Programme → Person → StepKind → Option StepWhy
why_at list programme person kind = option_map (step_why list person) (slice_get programme.steps (step_number kind))

-- the step of a category, if it has one
abbrev pub step_among : List CategoryStep → Category → Option StepKind
step_among [] category = None
step_among (row ∷ rows) category = if is_same row.category category then Some row.step else step_among rows category

abbrev pub category_step : Category → Option StepKind
category_step category = step_among category_steps category

-- what counted against the person at the step of the person's own category, if it has one
abbrev pub at_category : ListId → Programme → Person → Option StepWhy
at_category list programme person = option_and_then (why_at list programme person) (category_step person.category)

-- what counted against the person at each step: open and de-reserved seats are for those with a common place, and a
-- category's for its members
abbrev pub refusal : ListId → Programme → Person → Reason
refusal list programme person =
    Refused (if is_common list person then why_at list programme person Open else None) (at_category list programme person) (if is_common list person then why_at list programme person Dereserved else None)

-- an admission, or else a refusal
abbrev pub reason_from : Option StepKind → Reason → Reason
reason_from None refused = refused
reason_from (Some step) refused = Admitted (Under step)

-- under which step the programme admits the person, or what counted against the person
abbrev pub reason_of : ListId → Programme → Person → Reason
reason_of list programme person = reason_from (admitted_in programme.steps person) (refusal list programme person)
