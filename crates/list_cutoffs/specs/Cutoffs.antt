-- The cutoffs of a programme, from its published lists.
use Rattle.std.specs.Prelude.{◌≡◌, List, [], ◌∷◌, ◌++◌, map}
use Rattle.std.specs.List.{AllByRecursion}
use Rattle.office_base.specs.declared.step.StepKind.{StepKind}
use Rattle.merit_choice.specs.State.{IsStepKept, StepKept}
use Rattle.cutoff_lines.specs.Lines.{AreFew, AreLinesOf}
use Rattle.cutoff_lines.specs.declared.lines.CutoffLine.{CutoffLine}
use Rattle.seat_matrix.specs.Seats.{seats_of}
use Rattle.seat_matrix.specs.declared.seats.ProgrammeSeats.{ProgrammeSeats}
use Rattle.programme_lists.specs.declared.programme.StepList.{StepList}
use Rattle.list_cutoffs.specs.declared.cutoffs.StepCutoff.{StepCutoff}

-- A step, by its published list: the seats of that list and whom it admits. The merit list and the protections are those of the matrix, and no raise changes them.
abbrev pub kept_listed : ProgrammeSeats → StepList → StepKept
kept_listed seats list = record { list = seats.list; seats = list.seats; protections = (seats_of seats list.kind).protections; held = list.admitted }

-- each of the lists is of a step whose seats hold a choice, so it has cutoffs
abbrev pub AreKeptListed : ProgrammeSeats → List StepList → Type 0
AreKeptListed seats lists = AllByRecursion (λ list. IsStepKept (kept_listed seats list)) lists

-- a line as one of this step
abbrev pub under : StepKind → CutoffLine → StepCutoff
under kind line = record { step = kind; traits = line.traits; cutoff = line.cutoff }

-- the lines of one list: few lines that give the cutoff of each set of traits
abbrev pub AreLinesIn : ProgrammeSeats → StepList → List StepCutoff → Type 0
AreLinesIn seats list cutoffs = (lines : List CutoffLine) × AreLinesOf (kept_listed seats list) lines × AreFew lines × (cutoffs ≡ map (under list.kind) lines)

-- the lines of each list, one list after another
abbrev pub AreCutoffsIn : ProgrammeSeats → List StepList → List StepCutoff → Type 0
AreCutoffsIn seats [] cutoffs = cutoffs ≡ []
AreCutoffsIn seats (list ∷ lists) cutoffs =
    (first : List StepCutoff) × (rest : List StepCutoff) × AreLinesIn seats list first × AreCutoffsIn seats lists rest × (cutoffs ≡ first ++ rest)
