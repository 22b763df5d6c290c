-- How one person reads the lines of a programme.
use Rattle.std.specs.Prelude.{◌≡◌, ◌<◌, List, true}
use Rattle.office_base.specs.Lists.{AnyByRecursion}
use Rattle.office_base.specs.Person.{number_in}
use Rattle.office_base.specs.StepNumbers.{step_number}
use Rattle.office_base.specs.declared.person.ListId.{ListId}
use Rattle.office_base.specs.declared.person.Person.{Person}
use Rattle.office_base.specs.declared.step.StepKind.{StepKind}
use Rattle.placements.specs.Demand.{is_within}
use Rattle.step_cutoffs.specs.Cutoff.{IsWithin}
use Rattle.programme_laws.specs.Laws.{MayStandFor}
use Rattle.list_cutoffs.specs.declared.cutoffs.StepCutoff.{StepCutoff}

-- The person is within the line: they may stand for its step, hold each of its traits, and have its place or a better one.
abbrev pub IsWithinLine : ListId → Person → StepCutoff → Type 0
IsWithinLine list person line = MayStandFor list line.step person × (is_within line.traits person.traits ≡ true) × IsWithin line.cutoff (number_in list person)

-- within one of the lines
abbrev pub IsWithinLines : ListId → Person → List StepCutoff → Type 0
IsWithinLines list person lines = AnyByRecursion (IsWithinLine list person) lines

-- within one of the lines of this step
abbrev pub IsWithinStep : ListId → Person → StepKind → List StepCutoff → Type 0
IsWithinStep list person kind lines = AnyByRecursion (λ line. (line.step ≡ kind) × IsWithinLine list person line) lines

-- and within none of a step before it
abbrev pub IsWithinFirst : ListId → Person → StepKind → List StepCutoff → Type 0
IsWithinFirst list person kind lines = IsWithinStep list person kind lines × ((before : StepKind) → step_number before < step_number kind → IsWithinStep list person before lines → ⊥)
