-- What a reply to the question for cutoffs decides.
use Rattle.std.specs.Prelude.{◌≡◌, ℕ, suc, true, List}
use Rattle.office_base.specs.Lists.{IsAmong}
use Rattle.office_base.specs.declared.person.Person.{Person}
use Rattle.office_base.specs.declared.person.ProgId.{ProgId}
use Rattle.allocations.specs.Market.{wants}
use Rattle.seat_matrix.specs.Matrix.{list_in}
use Rattle.list_cutoffs.specs.declared.cutoffs.StepCutoff.{StepCutoff}
use Rattle.programme_cutoffs.specs.Reading.{IsWithinLines}
use Rattle.office_moves.specs.Facts.{IsSound, SeasonFacts}
use Rattle.office_moves.specs.History.{IsHistory}
use Rattle.office_moves.specs.Moves.{Tells}
use Rattle.office_moves.specs.State.{State, round_at, seat_of}
use Rattle.office_moves.specs.declared.decide.Question.TheVariants.{Cutoffs as TheCutoffs}
use Rattle.office_moves.specs.declared.moves.Entry.{Entry}
use Rattle.office_moves.specs.declared.moves.Reply.TheVariants.{CutoffsAre}
use Rattle.published_rounds.specs.Published.{IsThatOrEarlier, wanted_then}

-- Whoever is within a line of the reply for a programme that they sought has a seat there, or at one that they sought more.
abbrev pub RepliesDecide : SeasonFacts → Type 0
RepliesDecide facts = (entries : List Entry) (state : State) (window : ℕ) (prog : ProgId) (lines : List StepCutoff) (person : Person) → IsSound facts → IsHistory facts entries state
    → Tells facts state (TheCutoffs (suc window) prog) (CutoffsAre (suc window) prog lines) → IsAmong person facts.people
    → wants prog.0 (wanted_then facts state window person.id.0) ≡ true → IsWithinLines (list_in facts.matrix prog.0) person lines
    → IsThatOrEarlier (wanted_then facts state window person.id.0) prog.0 (seat_of facts (round_at state.rounds (suc window)) person.id.0)
