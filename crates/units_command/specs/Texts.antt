-- The lines that report what is wrong with a bundle with units.
use Rattle.std.specs.Prelude.{ℕ, List, ◌++◌, codes}
use Rattle.std.specs.Fmt.{decimal}
use Rattle.office_base.specs.FaultLines.{memory_line, read_line}
use Rattle.quota_units.specs.declared.fault.UnitFault.{UnitFault}
use Rattle.quota_units.specs.declared.fault.UnitFault.TheVariants.{ReadFault, TooLong, BadFirstLine, Section, BadUnit, BadState, DirectUnit, NoState, OutOfMemory}

-- a fault at a line or a row, counted from 1
abbrev pub numbered_line : List ℕ → ℕ → List ℕ → List ℕ
numbered_line begin number kind = codes "fault: " ++ begin ++ codes " " ++ decimal number ++ codes " " ++ kind ++ codes "\n"

-- the line that reports a fault
abbrev pub unit_line : UnitFault → List ℕ
unit_line ReadFault = read_line
unit_line TooLong = codes "fault: units TooLong\n"
unit_line BadFirstLine = codes "fault: units BadFirstLine\n"
unit_line (Section line) = numbered_line (codes "units line") line (codes "Section")
unit_line (BadUnit row) = numbered_line (codes "units row") row (codes "BadUnit")
unit_line (BadState row) = numbered_line (codes "states row") row (codes "BadState")
unit_line (DirectUnit row) = numbered_line (codes "choices row") row (codes "DirectUnit")
unit_line (NoState row) = numbered_line (codes "choices row") row (codes "NoState")
unit_line OutOfMemory = memory_line
