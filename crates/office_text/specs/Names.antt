-- How the categories, the steps, the choices, and the codes of programmes and institutes, are spelled.
use Rattle.std.specs.Prelude.{ℕ, ◌||◌, Bool, List, Option, Some, None, bytes_eq, codes, find, if◌then◌else◌}
use Rattle.office_base.specs.CategorySteps.{own_steps}
use Rattle.office_base.specs.Codes.{is_code}
use Rattle.office_base.specs.declared.choice.Choice.{Choice}
use Rattle.office_base.specs.declared.choice.Choice.TheVariants.{Freeze, Float, Slide, Withdraw}
use Rattle.office_base.specs.declared.person.Category.{Category}
use Rattle.office_base.specs.declared.person.Category.TheVariants.{Gen, Ews, Obc, Sc, St}
use Rattle.office_base.specs.declared.seat.SeatKind.{SeatKind}
use Rattle.office_base.specs.declared.seat.SeatKind.TheVariants.{Kept, Under}
use Rattle.office_base.specs.declared.step.StepKind.{StepKind}
use Rattle.office_base.specs.declared.step.StepKind.TheVariants.{Open, Ews as EwsStep, Obc as ObcStep, Sc as ScStep, St as StStep, Dereserved}

-- the name of a category, as it is written
abbrev pub category_name : Category → List ℕ
category_name Gen = codes "GEN"
category_name Ews = codes "EWS"
category_name Obc = codes "OBC"
category_name Sc = codes "SC"
category_name St = codes "ST"

-- the name of a step, as it is written
abbrev pub step_name : StepKind → List ℕ
step_name Open = codes "OPEN"
step_name EwsStep = codes "EWS"
step_name ObcStep = codes "OBC"
step_name ScStep = codes "SC"
step_name StStep = codes "ST"
step_name Dereserved = codes "D"

-- the name of a kind of seat, as it is written
abbrev pub seat_kind_name : SeatKind → List ℕ
seat_kind_name (Under step) = step_name step
seat_kind_name Kept = codes "KEPT"

-- A second name of a step, which is read and never written. A step without one has its name once more.
abbrev pub second_name : StepKind → List ℕ
second_name EwsStep = codes "GEN-EWS"
second_name ObcStep = codes "OBC-NCL"
second_name kind = step_name kind

-- the text is a name of the step
abbrev pub is_named : List ℕ → StepKind → Bool
is_named text kind = bytes_eq text (step_name kind) || bytes_eq text (second_name kind)

-- the step with seats of its own that a text spells
abbrev pub step_of : List ℕ → Option StepKind
step_of text = find (is_named text) own_steps

-- the choice that a text spells
abbrev pub choice_of : List ℕ → Option Choice
choice_of text =
    if bytes_eq text (codes "freeze") then Some Freeze
    else if bytes_eq text (codes "float") then Some Float
    else if bytes_eq text (codes "slide") then Some Slide
    else if bytes_eq text (codes "withdraw") then Some Withdraw
    else None

-- the code that a text spells
abbrev pub code_of : List ℕ → Option (List ℕ)
code_of text = if is_code text then Some text else None
