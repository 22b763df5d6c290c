-- What is kept of windows and rounds that no counted cut closes.
use Rattle.std.specs.Prelude.{◌≡◌, ◌<◌, ℕ, Bool, ◌==◌, ◌||◌, nat_lt, List, [], ◌∷◌, Option, Some, None, if◌then◌else◌}
use Rattle.kept_rows.specs.declared.rows.AllotRow.{AllotRow}
use Rattle.kept_rows.specs.declared.rows.Kept.{Kept}
use Rattle.office_moves.specs.Stands.{first_allot, raises_in}
use Rattle.office_moves.specs.State.{in_window}
use Rattle.replays.specs.Replay.{IsUncounted}

-- the smaller of a number, where there is one, and another
abbrev pub lesser : Option ℕ → ℕ → ℕ
lesser None n = n
lesser (Some best) n = if nat_lt n best then n else best

-- the least number of some rows that pass a test, or the one given
abbrev pub least_by : {X : Type 0} → (X → Bool) → (X → ℕ) → Option ℕ → List X → Option ℕ
least_by test number best [] = best
least_by test number best (row ∷ rows) = least_by test number (if test row then Some (lesser best (number row)) else best) rows

-- a window is after the counted cuts
abbrev pub is_later : ℕ → ℕ → Bool
is_later cuts window = nat_lt cuts window

-- no counted cut publishes a round of this number
abbrev pub is_uncounted : ℕ → ℕ → Bool
is_uncounted cuts number = number == 0 || nat_lt cuts number

-- nothing is kept of a window
abbrev pub IsEmptyWindow : Kept → ℕ → Type 0
IsEmptyWindow kept window = (raises_in window kept.raises ≡ []) × (in_window window kept.answers ≡ [])

-- the first window after the counted cuts of which something is kept, or there is none
abbrev pub IsLaterWindow : Kept → Option ℕ → Type 0
IsLaterWindow kept None = (window : ℕ) → kept.cuts < window → IsEmptyWindow kept window
IsLaterWindow kept (Some first) = (kept.cuts < first) × (IsEmptyWindow kept first → ⊥) × ((window : ℕ) → kept.cuts < window → window < first → IsEmptyWindow kept window)

-- nobody has a kept seat of a round
abbrev pub IsEmptyRound : List AllotRow → ℕ → Type 0
IsEmptyRound rows number = (id : ℕ) → first_allot number id rows ≡ None

-- the first round that no counted cut publishes of which a seat is kept, or there is none
abbrev pub IsLaterRound : Kept → Option ℕ → Type 0
IsLaterRound kept None = (number : ℕ) → IsUncounted kept number → IsEmptyRound kept.allots number
IsLaterRound kept (Some first) = IsUncounted kept first × (IsEmptyRound kept.allots first → ⊥)
    × ((number : ℕ) → number < first → IsUncounted kept number → IsEmptyRound kept.allots number)
