-- What a candidate reads off the cutoffs of a round.
use Rattle.std.specs.Prelude.{◌≡◌, ◌⊎◌, ℕ, List, [], ◌∷◌, Option, Some, None, slice_get}
use Rattle.office_base.specs.declared.seat.Seat.{Seat}
use Rattle.office_base.specs.declared.seat.SeatKind.TheVariants.{Under}
use Rattle.office_base.specs.declared.person.ListId.{ListId}
use Rattle.office_base.specs.declared.person.Person.{Person}
use Rattle.office_base.specs.declared.person.ProgId.{ProgId}
use Rattle.office_base.specs.declared.step.StepKind.{StepKind}
use Rattle.seat_matrix.specs.Matrix.{seats_in}
use Rattle.programme_lists.specs.declared.programme.Programme.{Programme}
use Rattle.list_cutoffs.specs.Cutoffs.{AreCutoffsIn}
use Rattle.list_cutoffs.specs.declared.cutoffs.StepCutoff.{StepCutoff}
use Rattle.programme_cutoffs.specs.Reading.{IsWithinFirst, IsWithinLines}
use Rattle.rounds.specs.declared.round.Round.{Round}
use Rattle.office_moves.specs.Facts.{SeasonFacts}

-- the lines of each programme in the round: those of its published lists, by the merit list and the protections of the season's matrix
abbrev pub AreCutoffsThen : SeasonFacts → Round → (ℕ → List StepCutoff) → Type 0
AreCutoffsThen facts round cutoffs = (prog : ℕ) (programme : Programme) → slice_get round.programmes prog ≡ Some programme → AreCutoffsIn (seats_in facts.matrix prog) programme.steps (cutoffs prog)

-- Go down the programmes. The seat is of the first one of which the person is within a line, under the first step that has such a line. If there is no such
-- programme, there is no seat.
abbrev pub IsSeatOfFirst : (ℕ → ListId) → (ℕ → List StepCutoff) → Person → List ProgId → Option Seat → Type 0
IsSeatOfFirst lists cutoffs person [] seat = seat ≡ None
IsSeatOfFirst lists cutoffs person (prog ∷ progs) seat =
    ((own : Seat) × (step : StepKind) × (seat ≡ Some own) × (own.prog ≡ prog) × (own.step ≡ Under step) × IsWithinFirst (lists prog.0) person step (cutoffs prog.0))
    ⊎ ((IsWithinLines (lists prog.0) person (cutoffs prog.0) → ⊥) × IsSeatOfFirst lists cutoffs person progs seat)
