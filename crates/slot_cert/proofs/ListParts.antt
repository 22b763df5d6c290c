-- A walk along a list: what holds of the elements that are left, and of the whole list.
use Rattle.std.proofs.Common.{ℕ, ◌<◌, ◌⊎◌, List, [], ◌∷◌, suc, zero, length, get_or, take, drop, Option, Some, None, MatchOption, inl, inr, ⊎_elim, arith}
use Rattle.std.specs.List.{AllByRecursion}
use Rattle.office_base.specs.Lists.{AnyByRecursion, Pairwise}

-- what one of the elements left has, one of all has
pub Any-from_drop : {X : Type 0} (P : X → Type 0) (n : ℕ) (xs : List X) → AnyByRecursion P (drop n xs) → AnyByRecursion P xs
Any-from_drop P zero xs h = h
Any-from_drop P (suc n) [] h = h
Any-from_drop P (suc n) (x ∷ xs) h = inr (Any-from_drop P n xs h)

-- one of the elements has it: this one
pub Any-at : {X : Type 0} (P : X → Type 0) (xs : List X) (i : ℕ) (d : X) → i < length xs → P (get_or xs i d) → AnyByRecursion P xs
Any-at P [] i d l h = absurd (omega arith)
Any-at P (x ∷ xs) zero d l h = inl h
Any-at P (x ∷ xs) (suc i) d l h = inr (Any-at P xs i d (omega arith) h)

-- in a list that is pairwise related this one is related to all after it
pub Pairwise-at : {X : Type 0} (R : X → X → Type 0) (xs : List X) (i : ℕ) (d : X) → i < length xs → Pairwise R xs → AllByRecursion (R (get_or xs i d)) (drop (suc i) xs)
Pairwise-at R [] i d l h = absurd (omega arith)
Pairwise-at R (x ∷ xs) zero d l h = h.0
Pairwise-at R (x ∷ xs) (suc i) d l h = Pairwise-at R xs i d (omega arith) h.1

-- what one of the first elements has, one of all has
pub Any-from_take : {X : Type 0} (P : X → Type 0) (n : ℕ) (xs : List X) → AnyByRecursion P (take n xs) → AnyByRecursion P xs
Any-from_take P zero xs h = absurd h
Any-from_take P (suc n) [] h = h
Any-from_take P (suc n) (x ∷ xs) h = ⊎_elim (λ p. inl p) (λ r. inr (Any-from_take P n xs r)) h

-- what one has, one of the first has or one of those left
pub Any-take_or_drop : {X : Type 0} (P : X → Type 0) (n : ℕ) (xs : List X) → AnyByRecursion P xs → AnyByRecursion P (take n xs) ⊎ AnyByRecursion P (drop n xs)
Any-take_or_drop P zero xs h = inr h
Any-take_or_drop P (suc n) [] h = absurd h
Any-take_or_drop P (suc n) (x ∷ xs) h = ⊎_elim (λ p. inl (inl p)) (λ r. ⊎_elim (λ a. inl (inr a)) (λ b. inr b) (Any-take_or_drop P n xs r)) h

-- Nobody left has it, and a search decides it for the first ones: so it decides it for all.
pub Any-else_first : {X : Type 0} (P : X → Type 0) (n : ℕ) (xs : List X) (found : Option ℕ) → (AnyByRecursion P (drop n xs) → ⊥) → MatchOption found (AnyByRecursion P (take n xs) → ⊥) (λ _. AnyByRecursion P (take n xs)) → MatchOption found (AnyByRecursion P xs → ⊥) (λ _. AnyByRecursion P xs)
Any-else_first P n xs None rest first = λ h. ⊎_elim first rest (Any-take_or_drop P n xs h)
Any-else_first P n xs (Some at) rest first = Any-from_take P n xs first
