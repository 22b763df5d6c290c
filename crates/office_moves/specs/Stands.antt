-- What kept tables represent.
use Rattle.std.specs.Prelude.{◌≡◌, ◌+◌, ℕ, ◌==◌, ◌&&◌, List, [], ◌∷◌, Option, Some, None, if◌then◌else◌}
use Rattle.office_base.specs.declared.seat.Seat.{Seat}
use Rattle.kept_rows.specs.Tables.{Tables, Untold, NoSeason, Records}
use Rattle.kept_rows.specs.declared.rows.AllotRow.{AllotRow}
use Rattle.kept_rows.specs.declared.rows.Kept.{Kept}
use Rattle.kept_rows.specs.declared.rows.RaiseRow.{RaiseRow}
use Rattle.office_moves.specs.Facts.{SeasonFacts}
use Rattle.office_moves.specs.State.{State, in_window, seat_in}

-- the raises of a window
abbrev pub raises_in : ℕ → List RaiseRow → List RaiseRow
raises_in window [] = []
raises_in window (row ∷ rows) = if row.window == window then row ∷ raises_in window rows else raises_in window rows

-- the first kept seat of a round and a candidate
abbrev pub first_allot : ℕ → ℕ → List AllotRow → Option Seat
first_allot number id [] = None
first_allot number id (row ∷ rows) = if row.round == number && row.cand.0 == id then Some (record { prog = row.prog; step = row.step }) else first_allot number id rows

-- the final seat of a candidate, once there are final rows
abbrev pub seat_in_finals : Option (List AllotRow) → ℕ → ℕ → Option Seat
seat_in_finals None number id = None
seat_in_finals (Some rows) number id = first_allot number id rows

-- The seat of a candidate in a round. For the number after the last round, it is the final seat.
-- A candidate who is not in the register has none. Nobody has a seat in a round that is not published.
abbrev pub published_seat : SeasonFacts → State → ℕ → ℕ → Option Seat
published_seat facts state number id = if number == facts.rounds + 1 then seat_in_finals state.finals number id else seat_in facts state.rounds number id

-- Records represent a state of a season: its text; the raises and the answers of each window, in their order; the number of
-- cuts; and each published seat.
pub record AreRecordsOf (facts : SeasonFacts) (state : State) (records : Kept) : Type 0 where
  pub season : records.season ≡ facts.text
  pub raises : (window : ℕ) → raises_in window records.raises ≡ raises_in window state.raises
  pub answers : (window : ℕ) → in_window window records.answers ≡ in_window window state.answers
  pub cuts : records.cuts ≡ state.now
  pub allots : (number id : ℕ) → first_allot number id records.allots ≡ published_seat facts state number id

-- Tables represent a state. Hidden tables represent every state, and the tables of no season none.
-- Records represent a state if they are its records.
abbrev pub Stand : SeasonFacts → State → Tables → Type 0
Stand facts state Untold = Unit {0}
Stand facts state NoSeason = ⊥
Stand facts state (Records records) = AreRecordsOf facts state records
