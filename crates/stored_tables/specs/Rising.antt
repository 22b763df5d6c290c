-- The order of published seats: by round, and inside a round by candidate.
use Rattle.std.specs.Prelude.{◌==◌, ◌&&◌, ◌||◌, nat_lt, Bool, true, ℕ, List, [], ◌∷◌}
use Rattle.kept_rows.specs.declared.rows.AllotRow.{AllotRow}

-- the row comes after this round and candidate
abbrev pub comes_after : ℕ → ℕ → AllotRow → Bool
comes_after round cand row = nat_lt round row.round || ((round == row.round) && nat_lt cand row.cand.0)

-- each row comes after the one before it, and the first after this round and candidate
abbrev pub rise_after : ℕ → ℕ → List AllotRow → Bool
rise_after round cand [] = true
rise_after round cand (row ∷ rows) = comes_after round cand row && rise_after row.round row.cand.0 rows

-- each row comes after the one before it
abbrev pub are_rising : List AllotRow → Bool
are_rising [] = true
are_rising (row ∷ rows) = rise_after row.round row.cand.0 rows
