-- The steps of a programme, as a table: the open step, a step for each category that has seats of its own, and last the de-reserved one.
use Rattle.std.specs.Prelude.{◌==◌, ◌++◌, ℕ, Bool, true, false, List, [], ◌∷◌, Option, Some, None, map, slice_get, if◌then◌else◌}
use Rattle.office_base.specs.StepNumbers.{step_number}
use Rattle.office_base.specs.declared.category_steps.CategoryStep.{CategoryStep}
use Rattle.office_base.specs.declared.category_steps.GivesUp.{GivesUp}
use Rattle.office_base.specs.declared.category_steps.GivesUp.TheVariants.{Never, InVersion, Always}
use Rattle.office_base.specs.declared.person.Category.{Category}
use Rattle.office_base.specs.declared.person.Category.TheVariants.{Gen, Ews, Obc, Sc, St}
use Rattle.office_base.specs.declared.step.StepKind.{StepKind}
use Rattle.office_base.specs.declared.step.StepKind.TheVariants.{Open, Ews as EwsStep, Obc as ObcStep, Sc as ScStep, St as StStep, Dereserved}

-- The categories that have seats of their own, in the order in which a programme fills them. OBC gives its empty seats away in each version of the
-- bundle, and EWS in version 2. The empty seats of SC and ST stay empty.
abbrev pub category_steps : List CategoryStep
category_steps =
    record { step = EwsStep; category = Ews; gives_up = InVersion 2 }
    ∷ record { step = ObcStep; category = Obc; gives_up = Always }
    ∷ record { step = ScStep; category = Sc; gives_up = Never }
    ∷ record { step = StStep; category = St; gives_up = Never }
    ∷ []

-- the empty seats of the category go to the de-reserved step in this version of the bundle
abbrev pub gives_away : GivesUp → ℕ → Bool
gives_away Never version = false
gives_away (InVersion only) version = version == only
gives_away Always version = true

abbrev pub gives_up : CategoryStep → ℕ → Bool
gives_up row version = gives_away row.gives_up version

-- the steps that have seats of their own, in their order
abbrev pub own_steps : List StepKind
own_steps = Open ∷ map (λ row. row.step) category_steps

-- all steps, in their order
abbrev pub all_steps : List StepKind
all_steps = own_steps ++ Dereserved ∷ []

-- the step of a number, if there is one
abbrev pub step_of_number : ℕ → Option StepKind
step_of_number number = slice_get all_steps number

-- the row of a step, if it is the step of a category
abbrev pub row_among : StepKind → List CategoryStep → Option CategoryStep
row_among step [] = None
row_among step (row ∷ rows) = if step_number step == step_number row.step then Some row else row_among step rows

abbrev pub row_of : StepKind → Option CategoryStep
row_of step = row_among step category_steps

-- the number of a category, from 0
abbrev pub category_number : Category → ℕ
category_number Gen = 0
category_number Ews = 1
category_number Obc = 2
category_number Sc = 3
category_number St = 4
