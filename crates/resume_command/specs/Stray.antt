-- The line that reports why kept records do not replay.
use Rattle.std.specs.Prelude.{ℕ, List, Option, Some, None, ◌++◌, codes, length, nat_lt, if◌then◌else◌}
use Rattle.std.specs.Fmt.{decimal}
use Rattle.office_base.specs.declared.seat.Seat.{Seat}
use Rattle.seat_matrix.specs.Matrix.{SeatTable}
use Rattle.step_lines.specs.Lines.{seat_kind_name}
use Rattle.published_texts.specs.Texts.{code_in}
use Rattle.replays.specs.declared.fault.ReplayFault.{ReplayFault}
use Rattle.replays.specs.declared.fault.ReplayFault.TheVariants.{Stray, StrayRaise, Differs, OutOfMemory}
use Rattle.office_base.specs.FaultLines.{memory_line}

-- the code of a programme; a number that the matrix does not have is written ?
abbrev pub code_or_mark : SeatTable → ℕ → List ℕ
code_or_mark table prog = if nat_lt prog (length table.programmes) then code_in table prog else codes "?"

-- a seat, or that there is none
abbrev pub seat_or_none : SeatTable → Option Seat → List ℕ
seat_or_none table None = codes "none"
seat_or_none table (Some seat) = code_or_mark table seat.prog.0 ++ codes " " ++ seat_kind_name seat.step

-- the line of a candidate whose kept seat is not the computed one
abbrev pub differs_line : SeatTable → ℕ → ℕ → Option Seat → Option Seat → List ℕ
differs_line table round cand kept computed =
    codes "fault: differs round " ++ decimal round ++ codes " candidate " ++ decimal cand ++ codes " kept " ++ seat_or_none table kept
    ++ codes " computed " ++ seat_or_none table computed ++ codes "\n"

-- the line of a row, counted from 1, that is not newly accepted at its place
abbrev pub stray_line : ℕ → List ℕ
stray_line row = codes "fault: stray answer " ++ decimal row ++ codes "\n"

abbrev pub raise_line_of : ℕ → List ℕ
raise_line_of row = codes "fault: stray raise " ++ decimal row ++ codes "\n"

-- the line of a fault of kept records
abbrev pub replay_line : SeatTable → ReplayFault → List ℕ
replay_line table (Stray row) = stray_line row
replay_line table (StrayRaise row) = raise_line_of row
replay_line table (Differs round cand kept computed) = differs_line table round cand.0 kept computed
replay_line table OutOfMemory = memory_line
