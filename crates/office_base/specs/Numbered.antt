-- Numbers of entries, one after another.
use Rattle.std.specs.Prelude.{ℕ, List, [], ◌∷◌, Bool, true, ◌&&◌, nat_lt}

-- the last number, or the given one if there is none
abbrev pub last_from : ℕ → List ℕ → ℕ
last_from before [] = before
last_from before (n ∷ ns) = last_from n ns

-- the last number, or 0 if there is none
abbrev pub last_of_numbers : List ℕ → ℕ
last_of_numbers = last_from 0

-- each number is above the one before it, and the first is above the one given
abbrev pub rises : ℕ → List ℕ → Bool
rises before [] = true
rises before (n ∷ ns) = nat_lt before n && rises n ns
