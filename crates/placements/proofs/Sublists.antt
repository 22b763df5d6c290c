-- What holds of a sublist, and of the front of a list.
use Rattle.std.proofs.Common.{◌≡◌, ◌≤◌, ℕ, zero, suc, List, [], ◌∷◌, take, length, refl, sym, ap, subst, inl, inr, arith}
use Rattle.std.specs.List.{AllByRecursion}
use Rattle.office_base.specs.Lists.{IsSublist}

-- nothing is a sublist of every list
pub IsSublist-nil : {X : Type 0} (xs : List X) → IsSublist [] xs
IsSublist-nil [] = refl
IsSublist-nil (x ∷ xs) = inl (IsSublist-nil xs)

-- so is the list itself
pub IsSublist-same : {X : Type 0} (xs : List X) → IsSublist xs xs
IsSublist-same [] = refl
IsSublist-same (x ∷ xs) = inr (xs, refl, IsSublist-same xs)

-- and each front of it
pub IsSublist-take : {X : Type 0} (n : ℕ) (xs : List X) → IsSublist (take n xs) xs
IsSublist-take zero xs = IsSublist-nil xs
IsSublist-take (suc n) [] = refl
IsSublist-take (suc n) (x ∷ xs) = inr (take n xs, refl, IsSublist-take n xs)

-- without its first element a sublist is one still
pub IsSublist-tail : {X : Type 0} (x : X) (xs ys : List X) → IsSublist (x ∷ xs) ys → IsSublist xs ys
IsSublist-tail x xs [] s = absurd (omega (arith, ap length s))
IsSublist-tail x xs (y ∷ ys) s =
    elim s [
      | inl later ↦ inl (IsSublist-tail x xs ys later)
      | inr now ↦ let same : xs ≡ now.0 = cc in inl (subst (λ (zs : List _). IsSublist zs ys) (sym same) now.2)
    ]

-- it is no longer than the list
pub length-sublist : {X : Type 0} (xs ys : List X) → IsSublist xs ys → length xs ≤ length ys
length-sublist xs [] s = omega (arith, ap length s)
length-sublist xs (y ∷ ys) s =
    elim s [
      | inl later ↦ omega (arith, length-sublist xs ys later)
      | inr now ↦ omega (arith, ap length now.1, length-sublist now.0 ys now.2)
    ]

-- what holds of each element holds of each element of a sublist
pub AllByRecursion-sublist : {X : Type 0} (P : X → Type 0) (xs ys : List X) → IsSublist xs ys → AllByRecursion P ys → AllByRecursion P xs
AllByRecursion-sublist P xs [] s all = subst (λ (zs : List _). AllByRecursion P zs) (sym s) tt
AllByRecursion-sublist P xs (y ∷ ys) s all =
    elim s [
      | inl later ↦ AllByRecursion-sublist P xs ys later all.1
      | inr now ↦ subst (λ (zs : List _). AllByRecursion P zs) (sym now.1) (all.0, AllByRecursion-sublist P now.0 ys now.2 all.1)
    ]

-- a sublist of a sublist is one
pub sublist_again : {X : Type 0} (xs ys zs : List X) → IsSublist xs ys → IsSublist ys zs → IsSublist xs zs
sublist_again xs ys [] first second = subst (λ (list : List _). IsSublist xs list) second first
sublist_again xs ys (z ∷ zs) first second = elim second [
  | inl later ↦ inl (sublist_again xs ys zs first later)
  | inr now ↦ elim (subst (λ (list : List _). IsSublist xs list) now.1 first) [
    | inl later ↦ inl (sublist_again xs now.0 zs later now.2)
    | inr begins ↦ inr (begins.0, begins.1, sublist_again begins.0 now.0 zs begins.2 now.2)
  ]
]
