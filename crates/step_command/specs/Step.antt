-- The command `step`: its input is a step sheet, its output whom the sheet's step admits.
use Rattle.std.specs.Prelude.{◌≡◌, ◌<◌, ◌^◌, ℕ, List, Option, length}
use Rattle.office_base.specs.Certificate.{IsCanonical}
use Rattle.office_base.specs.Outside.{AreLeft}
use Rattle.office_base.specs.StepChoice.{IsStep, IsStepChoice}
use Rattle.office_base.specs.declared.person.Person.{Person}
use Rattle.office_base.specs.declared.step.Pair.{Pair}
use Rattle.office_base.specs.declared.step.Step.{Step}
use Rattle.step_command.specs.Output.{step_output, fault_output}
use Rattle.step_command.specs.Sheet.{SheetGives, HasFault}
use Rattle.step_command.specs.declared.fault.SheetFault.{SheetFault}
use Rattle.command_answers.specs.Answers.{Answers}

-- A step of which the choice is made, with few enough people that their number can be written.
pub record IsSoundStep (step : Step) : Type 0 where
  pub is : IsStep step
  pub few : length step.people < 2 ^ 32

-- What `step` writes for a step: its choice and the canonical certificate.
pub record IsStepText (step : Step) (output : List ℕ) : Type 0 where
  pub admitted : List Person
  pub pairs : List Pair
  pub choice : IsStepChoice step admitted
  pub certificate : IsCanonical step.protections admitted pairs
  pub text : output ≡ step_output step.seats (length step.people) admitted pairs

-- the bytes are a sheet without faults
abbrev pub IsSheet : List ℕ → Type 0
IsSheet bytes = (step : Step) × SheetGives bytes step

-- the bytes that were left are a sheet without faults, and this is its step
abbrev pub IsLeftSheet : Option (List ℕ) → Step → Type 0
IsLeftSheet left step = (bytes : List ℕ) × AreLeft bytes left × SheetGives bytes step

-- the bytes have a fault as a sheet
abbrev pub IsFaultySheet : List ℕ → Type 0
IsFaultySheet bytes = (fault : SheetFault) × HasFault bytes fault

-- the bytes are a sheet, and this is what `step` writes for its step
abbrev pub IsStepOutput : List ℕ → List ℕ → Type 0
IsStepOutput bytes output = (step : Step) × SheetGives bytes step × IsStepText step output

-- the bytes have a fault as a sheet, and this is its line
abbrev pub IsSheetFaultLine : List ℕ → List ℕ → Type 0
IsSheetFaultLine bytes line = (fault : SheetFault) × HasFault bytes fault × (line ≡ fault_output fault)

-- what `step` answers
abbrev pub step_answers : Answers
step_answers = record { IsInput = IsSheet; IsFaulty = IsFaultySheet; IsOutput = IsStepOutput; IsFaultLine = IsSheetFaultLine }
