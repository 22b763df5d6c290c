-- What the arrays of the proceedings are.
use Rattle.std.specs.Prelude.{◌≡◌, ◌≤◌, ◌+◌, ◌-◌, ℕ, List, [], Some, slice_get, vec_len, vec_capacity}
use Rattle.office_base.specs.declared.choice.Choice.{Choice}
use Rattle.office_moves.specs.Facts.{IsSound}
use Rattle.office_moves.specs.History.{IsHistory}
use Rattle.office_moves.specs.Raised.{matrix_at}
use Rattle.season_facts.specs.Season.{facts_of}
use Rattle.office_moves.specs.State.{State, in_window, rows_of}
use Rattle.history_laws.specs.Orderly.{IsOrderly}
use Rattle.proceedings.specs.Proceeding.{Proceeding, answers_of, left_along, still_of, table_along}
use Rattle.proceedings.specs.declared.book.Proceedings.TheInside.{Inside}

abbrev pub state_of : Inside → State
state_of a = record { now = a.window; rounds = a.rounds.items; finals = a.finals; answers = answers_of a.entries.items; raises = a.raised.raises }

abbrev pub proceeding_of : Inside → Proceeding
proceeding_of a = record {
  season = facts_of a.season;
  entries = a.entries.items;
  state = state_of a;
  still = a.still_in;
  room = vec_capacity a.entries - vec_len a.entries;
  raise_room = a.raised.room;
}

pub record IsKept (a : Inside) : Type 0 where
  pub sound : IsSound (facts_of a.season)
  pub history : IsHistory (facts_of a.season) a.entries.items (state_of a)
  pub orderly : IsOrderly (facts_of a.season) (state_of a)
  -- each array is its definition, by position of the people
  pub raised : a.raised.matrix ≡ matrix_at (facts_of a.season) (state_of a)
  pub left : a.left.items ≡ left_along (facts_of a.season) (state_of a)
  pub turns : (window : ℕ) (table : List (List Choice)) → slice_get a.turns.items window ≡ Some table → table ≡ table_along (facts_of a.season) (state_of a) window
  pub still : a.still_in ≡ still_of (facts_of a.season) (state_of a)
  -- a table for each published round, and one more
  pub tables : vec_len a.turns ≡ vec_len a.rounds + 1
  -- nothing was answered in windows beyond the tables
  pub later : (window id : ℕ) → vec_len a.turns ≤ window → in_window window (rows_of id (state_of a).answers) ≡ []
  -- there is room for the withdrawals of all who are still in, and for all rounds
  pub withdrawals : a.still_in + vec_len a.entries ≤ vec_capacity a.entries
  pub rounds_room : a.season.rounds ≤ vec_capacity a.rounds
  pub tables_room : a.season.rounds + 1 ≤ vec_capacity a.turns
