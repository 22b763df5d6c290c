-- What holds of moves and of histories, over the definitions alone.
use Rattle.std.specs.Prelude.{◌≡◌, ℕ, List, Option, Some, None}
use Rattle.office_asks.specs.declared.ask.Ask.{Ask}
use Rattle.office_asks.specs.declared.ask.Ask.TheVariants.{Answer, Cut, Seat, Why, List as AskList, Round as AskRound, Choices, Cutoffs, Register, Answers, State as AskState, Raise}
use Rattle.office_asks.specs.declared.ask.By.{By}
use Rattle.office_asks.specs.declared.ask.Request.{Request}
use Rattle.office_base.specs.declared.person.CandId.{CandId}
use Rattle.office_base.specs.declared.person.ProgId.{ProgId}
use Rattle.seat_matrix.specs.Matrix.{seats_in}
use Rattle.programme_lists.specs.declared.programme.Programme.{Programme}
use Rattle.list_cutoffs.specs.Cutoffs.{AreCutoffsIn}
use Rattle.list_cutoffs.specs.declared.cutoffs.StepCutoff.{StepCutoff}
use Rattle.rounds.specs.declared.round.Round.{Round}
use Rattle.office_moves.specs.Facts.{SeasonFacts}
use Rattle.office_moves.specs.State.{State, opening, round_at, view_of}
use Rattle.office_moves.specs.Decided.{decided}
use Rattle.office_moves.specs.Moves.{IsMove, IsNextRound, programme_in}
use Rattle.office_moves.specs.History.{IsHistory, Reaches, newly}
use Rattle.office_moves.specs.declared.moves.Act.{Act}
use Rattle.office_moves.specs.declared.moves.Entry.{Entry}
use Rattle.office_moves.specs.declared.moves.Reply.{Reply}

-- the candidate at whose view alone a request looks, if there is one
abbrev pub looks_at : Ask → Option CandId
looks_at (Answer cand window turn choice) = Some cand
looks_at (Seat cand) = Some cand
looks_at (Why cand code) = Some cand
looks_at (Choices cand) = Some cand
looks_at (Register cand) = Some cand
looks_at (Answers cand) = Some cand
looks_at (AskList round code) = None
looks_at (AskRound round) = None
looks_at (Cutoffs round code) = None
looks_at AskState = None
looks_at (Cut window) = None
looks_at (Raise window code step seats) = None

-- Two states that agree in a candidate's view give equal replies to the requests that look at that view alone.
-- The view is how many cuts were made, the published rounds and the candidate's own rows.
abbrev pub OwnViewOnly : SeasonFacts → Type 0
OwnViewOnly facts = (a b after then : State) (by : By) (ask : Ask) (cand : CandId) (reply other : Reply) → looks_at ask ≡ Some cand → view_of a cand.0 ≡ view_of b cand.0
    → IsMove facts a (record { by = by; ask = ask }) reply after → IsMove facts b (record { by = by; ask = ask }) other then → reply ≡ other

-- A request that was newly accepted gives its first receipt again, whenever it is asked again, and then changes nothing.
abbrev pub RepeatsOnce : SeasonFacts → Type 0
RepeatsOnce facts = (before more : List Entry) (old new later after : State) (request : Request) (act : Act) (reply again : Reply)
    → Reaches facts opening before old → newly old.now (decided facts old request) ≡ Some act → IsMove facts old request reply new → Reaches facts new more later
    → IsMove facts later request again after → (again ≡ reply) × (after ≡ later)

-- a state has one next round at most
abbrev pub OneNextRound : SeasonFacts → State → Type 0
OneNextRound facts state = (round other : Round) → IsNextRound facts state round → IsNextRound facts state other → round ≡ other

-- each state that acts reach has one next round at most
abbrev pub NextRoundsAreOne : SeasonFacts → Type 0
NextRoundsAreOne facts = (entries : List Entry) (state : State) → Reaches facts opening entries state → OneNextRound facts state

-- the lists of a programme in a round of a state have one list of cutoffs at most
abbrev pub OneListOfCutoffs : SeasonFacts → State → Type 0
OneListOfCutoffs facts state = (number : ℕ) (prog : ProgId) (programme : Programme) (lines others : List StepCutoff) → programme_in (round_at state.rounds number) prog.0 ≡ Some programme
    → AreCutoffsIn (seats_in facts.matrix prog.0) programme.steps lines → AreCutoffsIn (seats_in facts.matrix prog.0) programme.steps others → lines ≡ others

-- so it is in each state that acts reach
abbrev pub CutoffsAreOne : SeasonFacts → Type 0
CutoffsAreOne facts = (entries : List Entry) (state : State) → Reaches facts opening entries state → OneListOfCutoffs facts state

-- Where rounds are one, a history leads to one state. Where the cutoffs of lists are one too, a request in it leads to one reply and one next state.
abbrev pub OneState : SeasonFacts → Type 0
OneState facts = NextRoundsAreOne facts → (entries : List Entry) (state other : State) → IsHistory facts entries state → IsHistory facts entries other → state ≡ other

abbrev pub OneReply : SeasonFacts → Type 0
OneReply facts = NextRoundsAreOne facts → CutoffsAreOne facts → (entries : List Entry) (state after then : State) (request : Request) (reply other : Reply) → IsHistory facts entries state
    → IsMove facts state request reply after → IsMove facts state request other then → (reply ≡ other) × (after ≡ then)
