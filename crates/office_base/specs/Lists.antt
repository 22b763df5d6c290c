-- Words on lists, by cases on the list.
use Rattle.std.specs.Prelude.{◌≡◌, ◌⊎◌, List, [], ◌∷◌}
use Rattle.std.specs.List.{AllByRecursion}

-- P holds of one of the elements
abbrev pub AnyByRecursion : {X : Type 0} → (X → Type 0) → List X → Type 0
AnyByRecursion P [] = ⊥
AnyByRecursion P (x ∷ xs) = P x ⊎ AnyByRecursion P xs

-- R holds of each element and every later one
abbrev pub Pairwise : {X : Type 0} → (X → X → Type 0) → List X → Type 0
Pairwise R [] = Unit {0}
Pairwise R (x ∷ xs) = AllByRecursion (R x) xs × Pairwise R xs

-- The first list has some elements of the second, in their order: it leaves the first of them out, or begins with it.
abbrev pub IsSublist : {X : Type 0} → List X → List X → Type 0
IsSublist xs [] = xs ≡ []
IsSublist {X} xs (y ∷ ys) = IsSublist xs ys ⊎ ((rest : List X) × (xs ≡ y ∷ rest) × IsSublist rest ys)

-- x is one of the elements
abbrev pub IsAmong : {X : Type 0} → X → List X → Type 0
IsAmong x xs = AnyByRecursion (λ other. x ≡ other) xs
