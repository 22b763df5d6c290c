-- Published lists have cutoffs, and no others.
use Rattle.std.specs.Prelude.{◌≡◌, List}
use Rattle.seat_matrix.specs.declared.seats.ProgrammeSeats.{ProgrammeSeats}
use Rattle.programme_lists.specs.declared.programme.StepList.{StepList}
use Rattle.list_cutoffs.specs.Cutoffs.{AreCutoffsIn, AreKeptListed}
use Rattle.list_cutoffs.specs.declared.cutoffs.StepCutoff.{StepCutoff}

-- lists of steps whose seats hold a choice have cutoffs
abbrev pub CutoffsExist : Type 0
CutoffsExist = (seats : ProgrammeSeats) (lists : List StepList) → AreKeptListed seats lists → (cutoffs : List StepCutoff) × AreCutoffsIn seats lists cutoffs

-- The same lists have the same cutoffs: no two lists of lines are those of one programme.
abbrev pub OneListOfCutoffs : Type 0
OneListOfCutoffs = (seats : ProgrammeSeats) (lists : List StepList) (first second : List StepCutoff) → AreKeptListed seats lists → AreCutoffsIn seats lists first
    → AreCutoffsIn seats lists second → first ≡ second
