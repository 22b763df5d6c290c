-- At what the office looks when it replies to the clerk, and to anybody who asks.
use Rattle.std.specs.Prelude.{◌≡◌, ◌==◌, ℕ, Bool, true, false, List, Some, length}
use Rattle.office_asks.specs.declared.ask.Ask.{Ask}
use Rattle.office_asks.specs.declared.ask.Ask.TheVariants.{List as AskList, Round as AskRound, Choices, Cutoffs, Register, Answers, State as AskState, Raise}
use Rattle.office_asks.specs.declared.ask.By.{By}
use Rattle.office_base.specs.declared.person.CandId.{CandId}
use Rattle.office_base.specs.declared.step.StepKind.{StepKind}
use Rattle.rounds.specs.declared.round.Round.{Round}
use Rattle.office_moves.specs.Facts.{IsSound, SeasonFacts}
use Rattle.office_moves.specs.State.{State, opening, round_at, rows_of}
use Rattle.office_moves.specs.Moves.{IsMove}
use Rattle.office_moves.specs.History.{Reaches}
use Rattle.office_moves.specs.declared.moves.Entry.{Entry}
use Rattle.office_moves.specs.declared.moves.Reply.{Reply}
use Rattle.history_laws.specs.Orderly.{IsOrderly}

-- Two states that agree in how many cuts were made and in the accepted raises give a raise equal replies.
abbrev pub RaisesLookAtRaises : SeasonFacts → Type 0
RaisesLookAtRaises facts = (a b after then : State) (by : By) (window : ℕ) (code : List ℕ) (step : StepKind) (seats : ℕ) (reply other : Reply) → a.now ≡ b.now → a.raises ≡ b.raises
    → IsMove facts a (record { by = by; ask = Raise window code step seats }) reply after → IsMove facts b (record { by = by; ask = Raise window code step seats }) other then → reply ≡ other

-- Two states that agree in how many rounds are published, and in the round of this number, give who asks for a list of it equal replies.
abbrev pub ListsLookAtTheRound : SeasonFacts → Type 0
ListsLookAtTheRound facts = (a b after then : State) (by : By) (number : ℕ) (code : List ℕ) (reply other : Reply) → length a.rounds ≡ length b.rounds
    → round_at a.rounds number ≡ round_at b.rounds number
    → IsMove facts a (record { by = by; ask = AskList number code }) reply after → IsMove facts b (record { by = by; ask = AskList number code }) other then → reply ≡ other

-- In a season that is in order, so it is with who asks for the cutoffs of a programme in a round.
abbrev pub CutoffsLookAtTheRound : SeasonFacts → Type 0
CutoffsLookAtTheRound facts = (a b after then : State) (by : By) (number : ℕ) (code : List ℕ) (reply other : Reply) → IsSound facts → IsOrderly facts a → length a.rounds ≡ length b.rounds
    → round_at a.rounds number ≡ round_at b.rounds number
    → IsMove facts a (record { by = by; ask = Cutoffs number code }) reply after → IsMove facts b (record { by = by; ask = Cutoffs number code }) other then → reply ≡ other

-- the question is about what the season has of a candidate
abbrev pub is_of_season : Ask → Bool
is_of_season (Choices cand) = true
is_of_season (Register cand) = true
is_of_season _ = false

-- Any two states give who asks such a question equal replies.
abbrev pub EntriesLookAtTheSeason : SeasonFacts → Type 0
EntriesLookAtTheSeason facts = (a b after then : State) (by : By) (ask : Ask) (reply other : Reply) → is_of_season ask ≡ true
    → IsMove facts a (record { by = by; ask = ask }) reply after → IsMove facts b (record { by = by; ask = ask }) other then → reply ≡ other

-- Two states in which a candidate's answers are the same give who asks for them equal replies.
abbrev pub AnswersLookAtOwnRows : SeasonFacts → Type 0
AnswersLookAtOwnRows facts = (a b after then : State) (by : By) (cand : CandId) (reply other : Reply) → rows_of cand.0 a.answers ≡ rows_of cand.0 b.answers
    → IsMove facts a (record { by = by; ask = Answers cand }) reply after → IsMove facts b (record { by = by; ask = Answers cand }) other then → reply ≡ other

-- Two states that agree in how many cuts were made and how many rounds are published give who asks how far the office is equal replies.
abbrev pub StateLooksAtNumbers : SeasonFacts → Type 0
StateLooksAtNumbers facts = (a b after then : State) (by : By) (reply other : Reply) → a.now ≡ b.now → length a.rounds ≡ length b.rounds
    → IsMove facts a (record { by = by; ask = AskState }) reply after → IsMove facts b (record { by = by; ask = AskState }) other then → reply ≡ other

-- Two states that agree in the same way give who asks for what was published under a number equal replies.
abbrev pub RoundsLookAtNumbers : SeasonFacts → Type 0
RoundsLookAtNumbers facts = (a b after then : State) (by : By) (number : ℕ) (reply other : Reply) → a.now ≡ b.now → length a.rounds ≡ length b.rounds
    → IsMove facts a (record { by = by; ask = AskRound number }) reply after → IsMove facts b (record { by = by; ask = AskRound number }) other then → reply ≡ other

-- the question is for the list, or for the cutoffs, of a programme in the round of this number
abbrev pub is_of_round : ℕ → Ask → Bool
is_of_round number (AskList round code) = round == number
is_of_round number (Cutoffs round code) = round == number
is_of_round number _ = false

-- A round is published. Whoever asks for a list or for cutoffs of that round gets the same reply at any later time.
abbrev pub PublishedRepliesStay : SeasonFacts → Type 0
PublishedRepliesStay facts = (before more : List Entry) (old new after then : State) (by other : By) (ask : Ask) (number : ℕ) (round : Round) (reply again : Reply) → IsSound facts
    → Reaches facts opening before old → Reaches facts old more new → round_at old.rounds number ≡ Some round → is_of_round number ask ≡ true
    → IsMove facts old (record { by = by; ask = ask }) reply after → IsMove facts new (record { by = other; ask = ask }) again then → again ≡ reply
