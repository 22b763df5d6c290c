-- The command `units`: its input is a bundle with units. The plain bundle that results is run as `run` runs it.
use Rattle.std.specs.Prelude.{◌≡◌, ◌⊎◌, ℕ, true, List, Option, Some, Ok, Err}
use Rattle.office_base.specs.Lists.{IsAmong}
use Rattle.office_base.specs.Outside.{AreLeft}
use Rattle.office_asks.specs.declared.ask.Request.{Request}
use Rattle.office_base.specs.declared.seat.Seat.{Seat}
use Rattle.season_file.specs.Season.{IsSeasonWith}
use Rattle.season_file.specs.declared.season.Season.{Season}
use Rattle.kept_rows.specs.Tables.{Tables}
use Rattle.kept_rows.specs.declared.rows.AllotRow.{AllotRow}
use Rattle.office_moves.specs.Facts.{SeasonFacts, code_in}
use Rattle.office_moves.specs.History.{Reaches}
use Rattle.season_facts.specs.Season.{facts_of}
use Rattle.office_moves.specs.State.{State, opening, seat_in}
use Rattle.office_moves.specs.declared.moves.Entry.{Entry}
use Rattle.quota_units.specs.Expansion.{IsExpansion}
use Rattle.quota_units.specs.Homes.{Homes}
use Rattle.quota_units.specs.Input.{expansion}
use Rattle.quota_units.specs.Reads.{LivesRight}
use Rattle.quota_units.specs.declared.fault.UnitFault.{UnitFault}
use Rattle.quota_units.specs.declared.fault.UnitFault.TheVariants.{ReadFault, OutOfMemory as NoUnitMemory}
use Rattle.command_answers.specs.Answers.{Answers}
use Rattle.command_answers.specs.Writes.{IsTextOf, Writes}
use Rattle.command_answers.specs.declared.failure.Failure.{Failure}
use Rattle.command_answers.specs.declared.failure.Failure.TheVariants.{Read, Bad, NoMemory}
use Rattle.command_answers.specs.declared.status.Status.{Status}
use Rattle.season_commands.specs.Check.{IsBundle, IsBundleFaultLine, IsFaultyBundle}
use Rattle.season_commands.specs.Run.{EndsSeason}
use Rattle.units_command.specs.Texts.{unit_line}

-- ---- the input

-- the bytes result in a plain bundle without faults
abbrev pub IsUnitsInput : List ℕ → Type 0
IsUnitsInput bytes = (text : List ℕ) × (expansion bytes ≡ Ok text) × IsBundle true text

-- the bytes result in none, or in one with a fault
abbrev pub IsFaultyUnits : List ℕ → Type 0
IsFaultyUnits bytes = ((fault : UnitFault) × (expansion bytes ≡ Err fault)) ⊎ ((text : List ℕ) × (expansion bytes ≡ Ok text) × IsFaultyBundle true text)

-- the line of the fault of the bytes, or otherwise of the plain bundle
abbrev pub IsUnitsFaultLine : List ℕ → List ℕ → Type 0
IsUnitsFaultLine bytes line =
    ((fault : UnitFault) × (expansion bytes ≡ Err fault) × (line ≡ unit_line fault)) ⊎ ((text : List ℕ) × (expansion bytes ≡ Ok text) × IsBundleFaultLine true text line)

-- how the input is judged; its output are the replies of an office
abbrev pub units_answers : Answers
units_answers = record { IsInput = IsUnitsInput; IsFaulty = IsFaultyUnits; IsOutput = λ bytes output. ⊥; IsFaultLine = IsUnitsFaultLine }

-- ---- who has a seat

-- Everybody who has a seat in a unit, in any round of a state, lives where the unit is for.
abbrev pub SeatsLiveRight : Homes → Homes → SeasonFacts → State → Type 0
SeatsLiveRight units states facts state = (number id : ℕ) (seat : Seat) → seat_in facts state.rounds number id ≡ Some seat → LivesRight units states id (code_in facts seat.prog.0)

-- So does everybody who is finally admitted to a unit.
abbrev pub FinalsLiveRight : Homes → Homes → SeasonFacts → State → Type 0
FinalsLiveRight units states facts state = (rows : List AllotRow) (row : AllotRow) → state.finals ≡ Some rows → IsAmong row rows
    → LivesRight units states row.cand.0 (code_in facts row.prog.0)

-- so it is in every state that a history of the season reaches
abbrev pub AlwaysLiveRight : Homes → Homes → SeasonFacts → Type 0
AlwaysLiveRight units states facts = (entries : List Entry) (state : State) → Reaches facts opening entries state
    → SeatsLiveRight units states facts state × FinalsLiveRight units states facts state

-- ---- how the command ends

-- The bytes that were left result in a plain bundle without faults, and these are its season and its requests.
-- Everybody with a seat in a unit lives where the unit is for.
abbrev pub IsLeftExpansion : Option (List ℕ) → Season → List Request → Type 0
IsLeftExpansion left season script =
    (bytes text : List ℕ) × AreLeft bytes left × ((made : IsExpansion bytes text) × IsSeasonWith true text season script × AlwaysLiveRight made.units made.states (facts_of season))

-- how `units` ends: no bundle is read, and the tables are unchanged;
-- or the bytes that were left result in a bundle, and its season ends
abbrev pub EndsUnits : Option (List ℕ) → Tables → Tables → Status → List ℕ → Type 0
EndsUnits left before after status output = (Writes (IsTextOf units_answers left) status output × (after ≡ before))
    ⊎ ((season : Season) × (script : List Request) × IsLeftExpansion left season script × EndsSeason season script before after status output)

-- The failure reports this fault by its line, or that the source failed. If memory ran out, the source did not fail.
abbrev pub TellsUnitFault : UnitFault → Failure → Type 0
TellsUnitFault fault Read = fault ≡ ReadFault
TellsUnitFault fault (Bad line) = (fault ≡ ReadFault → ⊥) × (fault ≡ NoUnitMemory → ⊥) × (line ≡ unit_line fault)
TellsUnitFault fault NoMemory = fault ≡ ReadFault → ⊥
