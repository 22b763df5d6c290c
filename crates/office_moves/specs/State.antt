-- The state of the office, and what is read off it.
use Rattle.std.specs.Prelude.{◌+◌, ℕ, zero, suc, ◌==◌, ◌&&◌, nat_lt, List, [], ◌∷◌, ◌++◌, Option, Some, None, length, slice_get, if◌then◌else◌}
use Rattle.std.specs.Option.{option_and_then}
use Rattle.office_base.specs.Person.{at_person}
use Rattle.office_base.specs.declared.choice.Choice.{Choice}
use Rattle.office_base.specs.declared.seat.Seat.{Seat}
use Rattle.kept_rows.specs.declared.rows.AllotRow.{AllotRow}
use Rattle.kept_rows.specs.declared.rows.AnswerRow.{AnswerRow}
use Rattle.kept_rows.specs.declared.rows.RaiseRow.{RaiseRow}
use Rattle.rounds.specs.declared.round.Round.{Round}
use Rattle.round_options.specs.Options.{after_cut, standing_of}
use Rattle.round_options.specs.declared.standing.Standing.{Standing}
use Rattle.round_options.specs.declared.standing.Standing.TheVariants.{Waiting}
use Rattle.office_moves.specs.Facts.{SeasonFacts}

-- ---- the state

-- How many cuts were made; the rounds that were published; the final rows, once they are; the accepted answers; and the accepted raises. How the last cut
-- left a candidate follows from these.
pub record State : Type 0 where
  pub now : ℕ
  pub rounds : List Round
  pub finals : Option (List AllotRow)
  pub answers : List AnswerRow
  pub raises : List RaiseRow

-- before everything
abbrev pub opening : State
opening = record { now = 0; rounds = []; finals = None; answers = []; raises = [] }

-- with an answer more
abbrev pub with_row : State → AnswerRow → State
with_row state row = record state { answers = state.answers ++ row ∷ [] }

-- with a raise more
abbrev pub with_raise : State → RaiseRow → State
with_raise state row = record state { raises = state.raises ++ row ∷ [] }

-- after the cut that published this round
abbrev pub with_round : State → Round → State
with_round state round = record state { now = state.now + 1; rounds = state.rounds ++ round ∷ [] }

-- after the last cut
abbrev pub with_finals : State → List AllotRow → State
with_finals state rows = record state { now = state.now + 1; finals = Some rows }

-- ---- the view of one candidate

-- What the replies to a candidate are computed from, in addition to the season: how many cuts were made, the published rounds,
-- and the candidate's own rows.
pub record View : Type 0 where
  pub now : ℕ
  pub rounds : List Round
  pub rows : List AnswerRow

-- the rows of the candidate of this id
abbrev pub rows_of : ℕ → List AnswerRow → List AnswerRow
rows_of id [] = []
rows_of id (row ∷ rows) = if row.cand.0 == id then row ∷ rows_of id rows else rows_of id rows

abbrev pub view_of : State → ℕ → View
view_of state id = record { now = state.now; rounds = state.rounds; rows = rows_of id state.answers }

-- the rows of a window
abbrev pub in_window : ℕ → List AnswerRow → List AnswerRow
in_window window [] = []
in_window window (row ∷ rows) = if row.window == window then row ∷ in_window window rows else in_window window rows

-- what was accepted at a turn of a window
abbrev pub accepted : ℕ → ℕ → List AnswerRow → Option Choice
accepted window turn [] = None
accepted window turn (row ∷ rows) = if row.window == window && row.turn == turn then Some row.choice else accepted window turn rows

-- the greater number
abbrev pub greater : ℕ → ℕ → ℕ
greater m n = if nat_lt m n then n else m

-- the greatest turn of some rows; 0 where there is none
abbrev pub last_turn : List AnswerRow → ℕ
last_turn [] = 0
last_turn (row ∷ rows) = greater row.turn (last_turn rows)

-- the standing after some rows: that of the last row, or unchanged if there is none
abbrev pub answered : Standing → List AnswerRow → Standing
answered standing [] = standing
answered standing (row ∷ rows) = answered (standing_of row.choice) rows

-- the round of this number, from 1
abbrev pub round_at : List Round → ℕ → Option Round
round_at rounds zero = None
round_at rounds (suc before) = slice_get rounds before

-- the seat of a candidate in a round
abbrev pub seat_of : SeasonFacts → Option Round → ℕ → Option Seat
seat_of facts None id = None
seat_of facts (Some round) id = option_and_then (λ seat. seat) (at_person id facts.people round.seats)

-- the seat of a candidate in the round of this number, from 1
abbrev pub seat_in : SeasonFacts → List Round → ℕ → ℕ → Option Seat
seat_in facts rounds number id = seat_of facts (round_at rounds number) id

-- the seat of a candidate in the last published round
abbrev pub last_seat : SeasonFacts → List Round → ℕ → Option Seat
last_seat facts rounds id = seat_in facts rounds (length rounds) id

-- How the first cuts, so many, left the candidate. The last cut of a season publishes no round and gives no seats.
abbrev pub left_by : SeasonFacts → View → ℕ → ℕ → Standing
left_by facts view id zero = Waiting
left_by facts view id (suc window) = after_cut (answered (left_by facts view id window) (in_window window view.rows)) (seat_in facts view.rounds (suc window) id)

-- the standing of the candidate at the cut of a window, or now if the window is open
abbrev pub standing_at : SeasonFacts → View → ℕ → ℕ → Standing
standing_at facts view id window = answered (left_by facts view id window) (in_window window view.rows)
