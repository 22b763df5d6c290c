-- The order of published seats: by round, and inside a round by candidate.
use Rattle.std.specs.Prelude.{◌==◌, ◌&&◌, ◌||◌, nat_lt, Bool, true, List, [], ◌∷◌, Option, Some, None}
use Rattle.kept_rows.specs.declared.rows.AllotRow.{AllotRow}
use Rattle.keeper_sqlite.specs.declared.rising.Key.{Key}

abbrev pub key_of : AllotRow → Key
key_of row = record { round = row.round; cand = row.cand }

-- the row comes after this key, if there is one
abbrev pub is_above : Option Key → AllotRow → Bool
is_above None row = true
is_above (Some key) row = nat_lt key.round row.round || ((key.round == row.round) && nat_lt key.cand.0 row.cand.0)

-- each row comes after the one before it, and the first after this key
abbrev pub rise_after_key : Option Key → List AllotRow → Bool
rise_after_key last [] = true
rise_after_key last (row ∷ rows) = is_above last row && rise_after_key (Some (key_of row)) rows

-- the key of the last of these rows, and this one if there is none
abbrev pub key_after : Option Key → List AllotRow → Option Key
key_after last [] = last
key_after last (row ∷ rows) = key_after (Some (key_of row)) rows
