-- What the lines of a step tell its reader, and that they are the only ones.
use Rattle.std.specs.Prelude.{◌≡◌, ◌↔◌, List}
use Rattle.office_base.specs.Lists.{IsAmong}
use Rattle.office_base.specs.Person.{number_in}
use Rattle.office_base.specs.StepChoice.{IsStepChoice}
use Rattle.office_base.specs.declared.person.Person.{Person}
use Rattle.office_base.specs.declared.step.Step.{Step}
use Rattle.merit_choice.specs.State.{IsStepKept, StepKept}
use Rattle.step_cutoffs.specs.Cutoff.{IsWithin}
use Rattle.step_cutoffs.specs.Laws.{IsJoinedBy, kept_of}
use Rattle.cutoff_lines.specs.Lines.{AreFew, AreLinesOf, read_lines}
use Rattle.cutoff_lines.specs.declared.lines.CutoffLine.{CutoffLine}

-- The lines decide. A person joins all who competed for a step, or was one of them. Then the person is admitted from all these exactly if their place is within
-- the cutoff that the lines give for their traits.
abbrev pub LinesDecide : Type 0
LinesDecide = (step more : Step) (chosen others : List Person) (person : Person) (lines : List CutoffLine) → IsJoinedBy step more person → IsStepChoice step chosen → IsStepChoice more others
    → AreLinesOf (kept_of step chosen) lines → IsAmong person others ↔ IsWithin (read_lines person.traits lines) (number_in step.list person)

-- each step has its lines
abbrev pub LinesExist : Type 0
LinesExist = (kept : StepKept) → IsStepKept kept → (lines : List CutoffLine) × AreLinesOf kept lines × AreFew lines

-- The lines of a step are fixed: no others give its cutoffs in so few.
abbrev pub OneLines : Type 0
OneLines = (kept : StepKept) (first second : List CutoffLine) → IsStepKept kept → AreLinesOf kept first → AreFew first → AreLinesOf kept second → AreFew second → first ≡ second
