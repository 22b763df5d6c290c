-- What holds of every state that a history reaches.
use Rattle.std.specs.Prelude.{◌≡◌, ◌<◌, ◌≤◌, ◌+◌, ℕ, suc, true, false, List, [], ◌∷◌, Some, None, IsSome, length, slice_get}
use Rattle.kept_rows.specs.declared.rows.AnswerRow.{AnswerRow}
use Rattle.seat_matrix.specs.Matrix.{AreSeats}
use Rattle.rounds.specs.Round.{IsRound}
use Rattle.rounds.specs.Rule.{AreSeeks, nobody}
use Rattle.rounds.specs.declared.round.Round.{Round}
use Rattle.round_options.specs.Options.{holds}
use Rattle.office_moves.specs.Facts.{SeasonFacts, lists_in_order}
use Rattle.office_moves.specs.State.{State, in_window, last_seat, rows_of}
use Rattle.office_moves.specs.Judge.{is_gone}
use Rattle.office_moves.specs.Raised.{matrix_at, matrix_of_round}
use Rattle.office_moves.specs.Moves.{IsNextRound, next_seeks}
use Rattle.office_moves.specs.Promise.{KeepsItsWord, standing_then}
use Rattle.history_laws.specs.Course.{IsCourse, seeks_then}

-- The turns of these rows count up after this one.
abbrev pub AreTurnsAfter : ℕ → List AnswerRow → Type 0
AreTurnsAfter turn [] = Unit {0}
AreTurnsAfter turn (row ∷ rows) = (row.turn ≡ turn + 1) × AreTurnsAfter (turn + 1) rows

-- The answers of a state: their windows are open or over; the turns of a candidate in a window count from 1, at most 16 of them and one withdrawal.
pub record AreAnswers (facts : SeasonFacts) (state : State) : Type 0 where
  pub turns : (window id : ℕ) → AreTurnsAfter 0 (in_window window (rows_of id state.answers))
  pub most : (window id : ℕ) → length (in_window window (rows_of id state.answers)) ≤ 17
  pub room : (id : ℕ) → is_gone (standing_then facts state state.now id) ≡ false → length (in_window state.now (rows_of id state.answers)) ≤ 16
  pub later : (window id : ℕ) → state.now < window → in_window window (rows_of id state.answers) ≡ []

-- A state that a history reaches.
pub record IsOrderly (facts : SeasonFacts) (state : State) : Type 0 where
  pub course : IsCourse facts state
  pub word : KeepsItsWord facts state
  -- guarantees change nothing: each round, and the next one, is the one in which nobody is guaranteed a seat
  pub alone : (before : ℕ) (round : Round) → slice_get state.rounds before ≡ Some round
      → IsRound facts.version nobody (matrix_of_round facts state (suc before)) facts.people (lists_in_order facts) (before + 1) (seeks_then facts state before) round
  pub next_alone : state.now < facts.rounds → (round : Round) → IsNextRound facts state round
      → IsRound facts.version nobody (matrix_at facts state) facts.people (lists_in_order facts) (state.now + 1) (next_seeks facts state) round
  pub answers : AreAnswers facts state
  -- the windows
  pub now : state.now ≤ facts.rounds + 1
  pub unfinished : state.now ≤ facts.rounds → state.finals ≡ None
  pub finished : facts.rounds < state.now → (length state.rounds ≡ facts.rounds) × IsSome state.finals
  -- each candidate who keeps a seat has one in the last round, and what everybody seeks next is in the choice lists
  pub seated : (id : ℕ) → holds (standing_then facts state state.now id) ≡ true → IsSome (last_seat facts state.rounds id)
  pub seeks : AreSeeks (lists_in_order facts) (next_seeks facts state)
  -- there is a seat entry for each of the people, and lists for each programme
  pub entries : (before : ℕ) (round : Round) → slice_get state.rounds before ≡ Some round → length round.seats ≡ length facts.people
  -- the raised matrix has the seats of the next round, for the same programmes
  pub matrix : matrix_at facts state ≡ matrix_of_round facts state (suc state.now)
  pub seats : AreSeats (matrix_at facts state)
  pub programmes : (matrix_at facts state).programmes ≡ facts.matrix.programmes
