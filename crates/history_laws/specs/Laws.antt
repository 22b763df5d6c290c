-- What holds of accepted requests and of histories.
use Rattle.std.specs.Prelude.{◌≡◌, ◌<◌, ◌≤◌, ◌+◌, ℕ, suc, List, Some, None, IsSome, length, map}
use Rattle.office_base.specs.Numbered.{last_of_numbers}
use Rattle.office_asks.specs.declared.ask.Request.{Request}
use Rattle.seat_matrix.specs.Matrix.{AreSeats, SeatTable, seats_in}
use Rattle.programme_lists.specs.declared.programme.Programme.{Programme}
use Rattle.list_cutoffs.specs.Cutoffs.{AreKeptListed}
use Rattle.seeks.specs.declared.seek.Seek.{Seek}
use Rattle.kept_seats.specs.Kept.{Guarantees}
use Rattle.rounds.specs.Round.{IsRound}
use Rattle.rounds.specs.declared.round.Round.{Round}
use Rattle.rounds.specs.Rule.{IsRaised}
use Rattle.office_moves.specs.Facts.{IsSound, SeasonFacts, lists_in_order}
use Rattle.office_moves.specs.State.{State, opening, round_at}
use Rattle.office_moves.specs.Raised.{matrix_at, matrix_of_round}
use Rattle.office_moves.specs.Decided.{decided}
use Rattle.office_moves.specs.Moves.{IsMove, programme_in}
use Rattle.office_moves.specs.History.{IsHistory, Reaches, asked, grown, newly}
use Rattle.office_moves.specs.declared.moves.Act.{Act}
use Rattle.office_moves.specs.declared.moves.Entry.{Entry}
use Rattle.office_moves.specs.declared.moves.Reply.{Reply}
use Rattle.history_laws.specs.Orderly.{AreAnswers, IsOrderly}

-- A newly accepted request comes to the same as its act, asked by its candidate or by the clerk.
abbrev pub AcceptedByItsAct : SeasonFacts → Type 0
AcceptedByItsAct facts = (state : State) (request : Request) (act : Act) → newly state.now (decided facts state request) ≡ Some act
    → decided facts state (asked facts act) ≡ decided facts state request

-- Any request after a history leads to the state of a history again: of the entries with its act, where it was newly accepted, and a number above theirs.
abbrev pub HistoryGrows : SeasonFacts → Type 0
HistoryGrows facts = (entries : List Entry) (old new : State) (request : Request) (reply : Reply) (number : ℕ) → IsHistory facts entries old
    → last_of_numbers (map (λ entry. entry.number) entries) < number → IsMove facts old request reply new
    → IsHistory facts (grown entries number (newly old.now (decided facts old request))) new

-- In every state that a history reaches the turns of each candidate in each window count from 1, and are few.
abbrev pub TurnsCount : SeasonFacts → Type 0
TurnsCount facts = (entries : List Entry) (state : State) → Reaches facts opening entries state → AreAnswers facts state

-- How far a state is: each cut published a round but for the last one, which alone gave the final rows.
pub record IsInTime (facts : SeasonFacts) (state : State) : Type 0 where
  pub now : state.now ≤ facts.rounds + 1
  pub order : state.now ≤ facts.rounds → length state.rounds ≡ state.now
  pub few : length state.rounds ≤ facts.rounds
  pub unfinished : state.now ≤ facts.rounds → state.finals ≡ None
  pub finished : facts.rounds < state.now → (length state.rounds ≡ facts.rounds) × IsSome state.finals
  pub last : IsSome state.finals → length state.rounds ≡ facts.rounds

-- A history goes from window to window up to the last cut.
abbrev pub WindowsPass : SeasonFacts → Type 0
WindowsPass facts = (entries : List Entry) (state : State) → Reaches facts opening entries state → IsInTime facts state

-- The matrices of a state are sound, and their seats only rise.
pub record SeatsRise (facts : SeasonFacts) (state : State) : Type 0 where
  pub seats : (n : ℕ) → AreSeats (matrix_of_round facts state n)
  pub raised : (n : ℕ) → IsRaised (matrix_of_round facts state n) (matrix_of_round facts state (suc n))
  pub programmes : (n : ℕ) → (matrix_of_round facts state n).programmes ≡ facts.matrix.programmes
  -- the raised matrix is the one of the next round
  pub matrix : matrix_at facts state ≡ matrix_of_round facts state (suc state.now)
  pub whole : AreSeats (matrix_at facts state)
  pub whole_programmes : (matrix_at facts state).programmes ≡ facts.matrix.programmes

-- In every state that a history reaches seats have only risen.
abbrev pub SeatsOnlyRise : SeasonFacts → Type 0
SeatsOnlyRise facts = IsSound facts → (entries : List Entry) (state : State) → Reaches facts opening entries state → SeatsRise facts state

-- Two rounds of a season by one matrix, on one seek for each of the people and one set of guarantees, are one.
abbrev pub RoundsAreOne : Type 0
RoundsAreOne = (facts : SeasonFacts) (guaranteed : Guarantees) (table : SeatTable) (n : ℕ) (seeks : List Seek) (first second : Round) → IsSound facts → AreSeats table
    → table.programmes ≡ facts.matrix.programmes → IsRound facts.version guaranteed table facts.people (lists_in_order facts) n seeks first
    → IsRound facts.version guaranteed table facts.people (lists_in_order facts) n seeks second → first ≡ second

-- A request after a history has one reply, and leads to one state.
abbrev pub AnswersAreOne : Type 0
AnswersAreOne = (facts : SeasonFacts) (entries : List Entry) (state after other : State) (request : Request) (reply again : Reply) → IsSound facts
    → IsHistory facts entries state → IsMove facts state request reply after → IsMove facts state request again other → (reply ≡ again) × (after ≡ other)

-- Each list of a published round is of a step whose seats hold a choice, so it has cutoffs.
abbrev pub ListsHoldChoices : Type 0
ListsHoldChoices = (facts : SeasonFacts) (state : State) (number prog : ℕ) (programme : Programme) → IsSound facts → IsOrderly facts state
    → programme_in (round_at state.rounds number) prog ≡ Some programme → AreKeptListed (seats_in facts.matrix prog) programme.steps
