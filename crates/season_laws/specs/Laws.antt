-- That a season can always be finished, and that the order within a window does not matter.
use Rattle.std.specs.Prelude.{◌≡◌, ◌≢◌, ◌+◌, ℕ, List, [], ◌∷◌, ◌++◌, ◌==◌, IsSome, length, if◌then◌else◌}
use Rattle.kept_rows.specs.declared.rows.AnswerRow.{AnswerRow}
use Rattle.kept_rows.specs.declared.rows.RaiseRow.{RaiseRow}
use Rattle.office_moves.specs.Facts.{IsSound, SeasonFacts}
use Rattle.office_moves.specs.History.{IsHistory, Reaches}
use Rattle.office_moves.specs.Promise.{standing_then}
use Rattle.office_moves.specs.State.{State, in_window, rows_of}
use Rattle.office_moves.specs.declared.moves.Act.{Act}
use Rattle.office_moves.specs.declared.moves.Act.TheVariants.{Answer, Cut, Raise}
use Rattle.office_moves.specs.declared.moves.Entry.{Entry}

-- ---- the end of a season

-- The entries are cuts alone, of one window after another from this one on.
abbrev pub AreCutsFrom : ℕ → List Entry → Type 0
AreCutsFrom window [] = Unit {0}
AreCutsFrom window (entry ∷ entries) = (entry.act ≡ Cut window) × AreCutsFrom (window + 1) entries

-- A history that leads to this state goes on to final rows by the clerk's cuts alone.
pub record GoesToItsEnd (facts : SeasonFacts) (entries : List Entry) (state : State) : Type 0 where
  pub cuts : List Entry
  pub final : State
  -- they cut the open window and each one after it, down to the last of the season
  pub by_window : AreCutsFrom state.now cuts
  pub as_many : length cuts + state.now ≡ facts.rounds + 1
  -- each of them is newly accepted at its place, after this state and so after the whole history
  pub reached : Reaches facts state cuts final
  pub history : IsHistory facts (entries ++ cuts) final
  -- and they lead to a state with final rows, with the answers and the raises as they were
  pub finished : IsSome final.finals
  pub answers : final.answers ≡ state.answers
  pub raises : final.raises ≡ state.raises

-- A season can always be finished: every history goes on to final rows by cuts alone.
abbrev pub SeasonsCanBeFinished : SeasonFacts → Type 0
SeasonsCanBeFinished facts = (entries : List Entry) (state : State) → IsSound facts → IsHistory facts entries state → GoesToItsEnd facts entries state

-- ---- the order within a window

-- the raises of a window
abbrev pub raises_in : ℕ → List RaiseRow → List RaiseRow
raises_in window [] = []
raises_in window (row ∷ rows) = if row.window == window then row ∷ raises_in window rows else raises_in window rows

-- the answers among some entries, one after another
abbrev pub answers_before : Act → List AnswerRow → List AnswerRow
answers_before (Answer row) rows = row ∷ rows
answers_before (Raise row) rows = rows
answers_before (Cut window) rows = rows

abbrev pub answers_among : List Entry → List AnswerRow
answers_among [] = []
answers_among (entry ∷ entries) = answers_before entry.act (answers_among entries)

-- the raises among them
abbrev pub raises_before : Act → List RaiseRow → List RaiseRow
raises_before (Answer row) rows = rows
raises_before (Raise row) rows = row ∷ rows
raises_before (Cut window) rows = rows

abbrev pub raises_among : List Entry → List RaiseRow
raises_among [] = []
raises_among (entry ∷ entries) = raises_before entry.act (raises_among entries)

-- how many cuts there are among them
abbrev pub cuts_with : Act → ℕ → ℕ
cuts_with (Answer row) n = n
cuts_with (Raise row) n = n
cuts_with (Cut window) n = n + 1

abbrev pub cuts_among : List Entry → ℕ
cuts_among [] = 0
cuts_among (entry ∷ entries) = cuts_with entry.act (cuts_among entries)

-- Both have as many cuts, each candidate has the same rows in each window of both, and each window the same raises.
-- How the answers of one candidate and another, and the raises between them, follow each other is left open.
pub record AreSameByWindow (entries others : List Entry) : Type 0 where
  pub cuts : cuts_among others ≡ cuts_among entries
  pub answers : (window id : ℕ) → in_window window (rows_of id (answers_among others)) ≡ in_window window (rows_of id (answers_among entries))
  pub raises : (window : ℕ) → raises_in window (raises_among others) ≡ raises_in window (raises_among entries)

-- The two states have the same number of cuts, the same rounds and the same final rows.
-- Each candidate has the same standing in both at the cut of each window.
pub record CameToTheSame (facts : SeasonFacts) (state other : State) : Type 0 where
  pub now : other.now ≡ state.now
  pub rounds : other.rounds ≡ state.rounds
  pub finals : other.finals ≡ state.finals
  pub standings : (window id : ℕ) → standing_then facts other window id ≡ standing_then facts state window id

-- The order within a window does not matter. Two histories in which each candidate has the same rows in each window, and each
-- window the same raises, result in the same rounds and the same final rows.
abbrev pub OrderWithinWindowsIsFree : SeasonFacts → Type 0
OrderWithinWindowsIsFree facts = (entries others : List Entry) (state other : State) → IsSound facts → IsHistory facts entries state → IsHistory facts others other
    → AreSameByWindow entries others → CameToTheSame facts state other

-- an answer as the entry of this number
abbrev pub answer_entry : ℕ → AnswerRow → Entry
answer_entry number row = record { number = number; act = Answer row }

-- Two answers of different candidates that follow each other in a history can be exchanged: that is a history too, and comes to the same.
abbrev pub AnswersCanBeExchanged : SeasonFacts → Type 0
AnswersCanBeExchanged facts = (before after : List Entry) (m n : ℕ) (one two : AnswerRow) (state : State) → one.cand.0 ≢ two.cand.0
    → IsHistory facts (before ++ answer_entry m one ∷ answer_entry n two ∷ after) state
    → (other : State) × IsHistory facts (before ++ answer_entry m two ∷ answer_entry n one ∷ after) other × CameToTheSame facts state other
