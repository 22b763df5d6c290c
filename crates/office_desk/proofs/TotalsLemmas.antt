-- Sums over the views, and what holds of each.
use Rattle.std.proofs.Common.{◌≡◌, ◌≢◌, ◌+◌, ◌≤◌, ℕ, zero, suc, List, [], ◌∷◌, ◌++◌, set, sym, refl, ap, subst, arith, ⊎_elim}
use mathlib.Core.Option.{some, some-injective, some-ne-none}
use mathlib.Core.Logic.{dite}
use native.Mathlib.Decide.{dec_le}
use lib.ListN.{get_elem?}
use Rattle.atomic_table.proofs.Lists.{at_set, at_snoc}
use Rattle.office_desk.specs.Totals.{total, Each}

module _ {A : Type 0} where
  pub total_set : (f : A → ℕ) (xs : List A) (i : ℕ) (v w : A) → get_elem? xs i ≡ some v → total f (set xs i w) + f v ≡ total f xs + f w
  total_set f [] i v w at = absurd (some-ne-none v (sym at))
  total_set f (x ∷ xs) zero v w at = let same : f x ≡ f v = ap f (some-injective x v at) in omega (arith, same)
  total_set f (x ∷ xs) (suc i) v w at = let back = total_set f xs i v w at in omega (arith, back)

  -- an element that weighs as much changes nothing
  pub total_same : (f : A → ℕ) (xs : List A) (i : ℕ) (v w : A) → get_elem? xs i ≡ some v → f w ≡ f v → total f (set xs i w) ≡ total f xs
  total_same f xs i v w at same = let moved = total_set f xs i v w at in omega (arith, moved, same)

  pub total_snoc : (f : A → ℕ) (xs : List A) (w : A) → total f (xs ++ w ∷ []) ≡ total f xs + f w
  total_snoc f [] w = omega arith
  total_snoc f (x ∷ xs) w = let back = total_snoc f xs w in omega (arith, back)

  pub total_at : (f : A → ℕ) (xs : List A) (i : ℕ) (v : A) → get_elem? xs i ≡ some v → f v ≤ total f xs
  total_at f [] i v at = absurd (some-ne-none v (sym at))
  total_at f (x ∷ xs) zero v at = let same : f x ≡ f v = ap f (some-injective x v at) in omega (arith, same)
  total_at f (x ∷ xs) (suc i) v at = let back = total_at f xs i v at in omega (arith, back)

  -- two elements weigh no more than all
  pub total_two : (f : A → ℕ) (xs : List A) (i j : ℕ) (v w : A) → get_elem? xs i ≡ some v → get_elem? xs j ≡ some w → i ≢ j → f v + f w ≤ total f xs
  total_two f [] i j v w at there apart = absurd (some-ne-none v (sym at))
  total_two f (x ∷ xs) zero zero v w at there apart = absurd (apart refl)
  total_two f (x ∷ xs) zero (suc j) v w at there apart =
      let same : f x ≡ f v = ap f (some-injective x v at) in let back = total_at f xs j w there in omega (arith, same, back)
  total_two f (x ∷ xs) (suc i) zero v w at there apart =
      let same : f x ≡ f w = ap f (some-injective x w there) in let back = total_at f xs i v at in omega (arith, same, back)
  total_two f (x ∷ xs) (suc i) (suc j) v w at there apart =
      let back = total_two f xs i j v w at there (λ e. apart (ap suc e)) in omega (arith, back)

  pub each_tail : {P : A → Type 0} (x : A) (xs : List A) → Each P (x ∷ xs) → Each P xs
  each_tail x xs all i v at = all (suc i) v at

  pub total_le : (f g : A → ℕ) (xs : List A) → Each (λ x. f x ≤ g x) xs → total f xs ≤ total g xs
  total_le f g [] all = omega arith
  total_le f g (x ∷ xs) all =
      let back = total_le f g xs (each_tail {P = λ y. f y ≤ g y} x xs all) in
      let here : f x ≤ g x = all zero x refl in omega (arith, back, here)

  pub total_none : (f : A → ℕ) (xs : List A) → Each (λ x. f x ≡ 0) xs → total f xs ≡ 0
  total_none f [] all = refl
  total_none f (x ∷ xs) all =
      let back = total_none f xs (each_tail {P = λ y. f y ≡ 0} x xs all) in
      let here : f x ≡ 0 = all zero x refl in omega (arith, back, here)

  -- where the total is not 0, an element weighs something
  pub total_some : (f : A → ℕ) (xs : List A) → 1 ≤ total f xs → (i : ℕ) × (v : A) × (get_elem? xs i ≡ some v) × (1 ≤ f v)
  total_some f [] some_weight = absurd (omega (arith, some_weight))
  total_some f (x ∷ xs) some_weight = dite (dec_le 1 (f x)) (λ here. (zero, x, refl, here))
      (λ none_here. let back = total_some f xs (omega (arith, some_weight, none_here)) in (suc back.0, back.1, back.2, back.3))

  -- where one element has all the weight, each other has none
  pub others_none : (f : A → ℕ) (xs : List A) (i j : ℕ) (v w : A) → get_elem? xs i ≡ some v → get_elem? xs j ≡ some w → i ≢ j → total f xs ≤ f v → f w ≡ 0
  others_none f xs i j v w at there apart all = let two = total_two f xs i j v w at there apart in omega (arith, two, all)

  -- where each other element weighs nothing, the one has all the weight
  pub total_alone : (f : A → ℕ) (xs : List A) (i : ℕ) (v : A) → get_elem? xs i ≡ some v → ((j : ℕ) (w : A) → get_elem? xs j ≡ some w → i ≢ j → f w ≡ 0) → total f xs ≡ f v
  total_alone f [] i v at others = absurd (some-ne-none v (sym at))
  total_alone f (x ∷ xs) zero v at others =
      let same : f x ≡ f v = ap f (some-injective x v at) in
      let none : total f xs ≡ 0 = total_none f xs (λ j w there. others (suc j) w there (λ e. absurd (omega (arith, e)))) in omega (arith, same, none)
  total_alone f (x ∷ xs) (suc i) v at others =
      let here : f x ≡ 0 = others zero x refl (λ e. absurd (omega (arith, e))) in
      let back = total_alone f xs i v at (λ j w there apart. others (suc j) w there (λ e. apart (omega (arith, e)))) in omega (arith, here, back)

  pub each_set : (P : A → Type 0) (xs : List A) (i : ℕ) (w : A) → Each P xs → P w → Each P (set xs i w)
  each_set P xs i w all new j x at = ⊎_elim (λ t. subst P t.1 new) (λ t. all j x t.1) (at_set xs i j w x at)

  -- the same where what holds of the others changes too
  pub each_set_other : (P Q : A → Type 0) (xs : List A) (i : ℕ) (w : A) → ((j : ℕ) (x : A) → j ≢ i → get_elem? xs j ≡ some x → Q x) → Q w → Each Q (set xs i w)
  each_set_other P Q xs i w others new j x at = ⊎_elim (λ t. subst Q t.1 new) (λ t. others j x t.0 t.1) (at_set xs i j w x at)

  pub each_snoc : (P : A → Type 0) (xs : List A) (w : A) → Each P xs → P w → Each P (xs ++ w ∷ [])
  each_snoc P xs w all new j x at = ⊎_elim (λ t. all j x t) (λ t. subst P t new) (at_snoc xs w x j at)

  -- two elements are replaced, and weigh together what they weighed
  pub total_join : (f : A → ℕ) (xs : List A) (i j : ℕ) (v w both spent : A) → get_elem? xs i ≡ some v → get_elem? (set xs i both) j ≡ some w
      → f both + f spent ≡ f v + f w → total f (set (set xs i both) j spent) ≡ total f xs
  total_join f xs i j v w both spent at there same =
      let one = total_set f xs i v both at in
      let two = total_set f (set xs i both) j w spent there in omega (arith, one, two, same)
