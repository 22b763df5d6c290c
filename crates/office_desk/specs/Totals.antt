-- Sums over lists, and what holds of each element.
use Rattle.std.specs.Prelude.{◌≡◌, ◌+◌, ℕ, List, [], ◌∷◌, ◌==◌, ◌&&◌, cond, nat_lt, nat_le}
use mathlib.Core.Option.{some}
use lib.ListN.{get_elem?}

-- f of each element, added up
abbrev pub total : {A : Type 0} → (A → ℕ) → List A → ℕ
total f [] = 0
total f (x ∷ xs) = f x + total f xs

-- P holds of the element at each place
abbrev pub Each : {A : Type 0} → (A → Type 0) → List A → Type 0
Each {A} P xs = (i : ℕ) (x : A) → get_elem? xs i ≡ some x → P x

-- how often n is in the list
abbrev pub times : ℕ → List ℕ → ℕ
times n [] = 0
times n (m ∷ ms) = cond (n == m) 1 0 + times n ms

-- 1 where n is at least low and below high, and else 0
abbrev pub within : ℕ → ℕ → ℕ → ℕ
within low high n = cond (nat_le low n && nat_lt n high) 1 0
