-- The texts that the command writes for a sheet.
use Rattle.std.specs.Prelude.{ℕ, List, ◌++◌, codes}
use Rattle.std.specs.Fmt.{decimal}
use Rattle.office_base.specs.declared.person.Person.{Person}
use Rattle.office_base.specs.declared.step.Pair.{Pair}
use Rattle.step_lines.specs.Lines.{step_lines}
use Rattle.step_command.specs.declared.fault.SheetFault.{SheetFault}
use Rattle.step_command.specs.declared.fault.SheetKind.{SheetKind}
use Rattle.step_command.specs.declared.fault.SheetKind.TheVariants.{BadFirstLine, BadLine, ProtectionsExceedSeats, RepeatedCandidate, RepeatedProtect, TooLong, TooMany}

-- what `step` writes: the numbers, a line for each admitted person, and the end
abbrev pub step_output : ℕ → ℕ → List Person → List Pair → List ℕ
step_output seats candidates admitted pairs = codes "step" ++ step_lines seats candidates admitted pairs ++ codes "end\n"

-- the name of a kind of fault
abbrev pub kind_name : SheetKind → List ℕ
kind_name BadFirstLine = codes "BadFirstLine"
kind_name BadLine = codes "BadLine"
kind_name RepeatedProtect = codes "RepeatedProtect"
kind_name RepeatedCandidate = codes "RepeatedCandidate"
kind_name ProtectionsExceedSeats = codes "ProtectionsExceedSeats"
kind_name TooMany = codes "TooMany"
kind_name TooLong = codes "TooLong"

-- the line that reports a fault
abbrev pub fault_output : SheetFault → List ℕ
fault_output fault = codes "fault: sheet line " ++ decimal fault.line ++ codes " " ++ kind_name fault.kind ++ codes "\n"
