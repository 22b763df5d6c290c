-- What the cutoffs of a published round say of its candidates.
use Rattle.std.specs.Prelude.{◌≡◌, ◌<◌, ◌≤◌, ℕ, true, List, Some, slice_get}
use Rattle.office_base.specs.Lists.{IsAmong}
use Rattle.office_base.specs.Person.{IsTraitSet}
use Rattle.office_base.specs.declared.person.Person.{Person}
use Rattle.office_base.specs.declared.step.StepKind.{StepKind}
use Rattle.allocations.specs.Market.{place_of, rank_of, wants}
use Rattle.seat_matrix.specs.Matrix.{list_in}
use Rattle.programme_lists.specs.declared.programme.Programme.{Programme}
use Rattle.list_cutoffs.specs.declared.cutoffs.StepCutoff.{StepCutoff}
use Rattle.programme_cutoffs.specs.Reading.{IsWithinLines, IsWithinStep}
use Rattle.rounds.specs.declared.round.Round.{Round}
use Rattle.office_moves.specs.Facts.{SeasonFacts}
use Rattle.office_moves.specs.State.{State, seat_of}
use Rattle.office_moves.specs.declared.moves.Entry.{Entry}
use Rattle.published_rounds.specs.Published.{IsPublished, IsThatOrEarlier, wanted_then}
use Rattle.published_rounds.specs.Cutoffs.{AreCutoffsThen, IsSeatOfFirst}

-- The cutoffs tell each seat. In a published round the seat of a candidate is that of the first programme that they sought whose cutoffs they are within, under the
-- first step with such a line. If there is no such programme, they have no seat.
abbrev pub SeatsAreTheFirst : SeasonFacts → Type 0
SeatsAreTheFirst facts = (entries : List Entry) (state : State) (window : ℕ) (round : Round) (person : Person) (cutoffs : ℕ → List StepCutoff) → IsPublished facts entries state window round
    → IsAmong person facts.people → AreCutoffsThen facts round cutoffs
    → IsSeatOfFirst (list_in facts.matrix) cutoffs person (wanted_then facts state window person.id.0) (seat_of facts (Some round) person.id.0)

-- So one comparison checks each refusal. A candidate sought a programme more than their seat, or has no seat and sought it.
-- Then they are within none of its lines.
abbrev pub RefusalsAreOutside : SeasonFacts → Type 0
RefusalsAreOutside facts = (entries : List Entry) (state : State) (window : ℕ) (round : Round) (person : Person) (cutoffs : ℕ → List StepCutoff) (prog : ℕ)
    → IsPublished facts entries state window round → IsAmong person facts.people → AreCutoffsThen facts round cutoffs → wants prog (wanted_then facts state window person.id.0) ≡ true
    → place_of (wanted_then facts state window person.id.0) prog < rank_of (wanted_then facts state window person.id.0) (seat_of facts (Some round) person.id.0)
    → IsWithinLines (list_in facts.matrix prog) person (cutoffs prog) → ⊥

-- And whoever is within a line of a programme that they sought has a seat there, or at one that they sought more.
abbrev pub WithinCutoffsIsSeated : SeasonFacts → Type 0
WithinCutoffsIsSeated facts = (entries : List Entry) (state : State) (window : ℕ) (round : Round) (person : Person) (cutoffs : ℕ → List StepCutoff) (prog : ℕ)
    → IsPublished facts entries state window round → IsAmong person facts.people → AreCutoffsThen facts round cutoffs → wants prog (wanted_then facts state window person.id.0) ≡ true
    → IsWithinLines (list_in facts.matrix prog) person (cutoffs prog) → IsThatOrEarlier (wanted_then facts state window person.id.0) prog (seat_of facts (Some round) person.id.0)

-- Cutoffs only widen from round to round, step by step: whoever would be within a line of a step in a round would be within one of the same step in each later
-- round, with any place and any traits. So the number that is read for some traits never falls.
abbrev pub LaterCutoffsAreWider : SeasonFacts → Type 0
LaterCutoffsAreWider facts = (entries : List Entry) (state : State) (window next : ℕ) (round later : Round) (cutoffs others : ℕ → List StepCutoff) (prog : ℕ) (programme : Programme) (person : Person)
    (kind : StepKind) → IsPublished facts entries state window round → IsPublished facts entries state next later → window ≤ next → AreCutoffsThen facts round cutoffs
    → AreCutoffsThen facts later others → slice_get round.programmes prog ≡ Some programme → IsTraitSet person.traits
    → IsWithinStep (list_in facts.matrix prog) person kind (cutoffs prog) → IsWithinStep (list_in facts.matrix prog) person kind (others prog)
