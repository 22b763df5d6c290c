-- What a filter passes.
use Rattle.std.proofs.Common.{◌≡◌, Bool, true, false, cond, List, [], ◌∷◌, refl, sym, ap, ◌∙◌, subst, inl, inr}
use Rattle.std.proofs.lemmas.Bool.{cond_both, cond-true, both_ways}
use Rattle.std.specs.List.{filter}
use Rattle.office_base.specs.Lists.{IsAmong, IsSublist}
use Rattle.office_base.specs.declared.person.Person.{Person}

-- one more before the second list, or before both, leaves the first a sublist
sublist_in_front : {X : Type 0} (b c : Bool) (x : X) (xs ys : List X) → (b ≡ true → c ≡ true) → IsSublist xs ys → IsSublist (cond b (x ∷ xs) xs) (cond c (x ∷ ys) ys)
sublist_in_front true true x xs ys if_so sub = inr (xs, refl, sub)
sublist_in_front true false x xs ys if_so sub = absurd (both_ways false refl (if_so refl))
sublist_in_front false true x xs ys if_so sub = inl sub
sublist_in_front false false x xs ys if_so sub = sub

-- a filter that passes no more, of a sublist, is a sublist
pub filter_mono : (p q : Person → Bool) (xs ys : List Person) → IsSublist xs ys → ((x : Person) → IsAmong x xs → p x ≡ true → q x ≡ true)
    → IsSublist (filter p xs) (filter q ys)
filter_mono p q xs [] sub if_so = ap (filter p) sub
filter_mono p q xs (y ∷ ys) sub if_so = elim sub [
  | inl later ↦ sublist_in_front false (q y) y (filter p xs) (filter q ys) (λ fails. absurd (both_ways false refl fails)) (filter_mono p q xs ys later if_so)
  | inr now ↦ subst (λ (zs : List Person). IsSublist (filter p zs) (filter q (y ∷ ys))) (sym now.1)
      (sublist_in_front (p y) (q y) y (filter p now.0) (filter q ys) (if_so y (subst (IsAmong y) (sym now.1) (inl refl)))
      (filter_mono p q now.0 ys now.2 (λ x here. if_so x (subst (IsAmong x) (sym now.1) (inr here)))))
]

-- what a filter passes is a sublist
pub filter-sublist : (p : Person → Bool) (xs : List Person) → IsSublist (filter p xs) xs
filter-sublist p [] = refl
filter-sublist p (x ∷ xs) = sublist_in_front (p x) true x (filter p xs) xs (λ holds. refl) (filter-sublist p xs)

passed_in_front : (p : Person → Bool) (x y : Person) (ys : List Person) (b : Bool) → p y ≡ b → (IsAmong x (filter p ys) → IsAmong x ys × (p x ≡ true))
    → IsAmong x (cond b (y ∷ filter p ys) (filter p ys)) → IsAmong x (y ∷ ys) × (p x ≡ true)
passed_in_front p x y ys true e rest found = elim found [
  | inl same ↦ (inl same, ap p same ∙ e)
  | inr later ↦ let more = rest later in (inr more.0, more.1)
]
passed_in_front p x y ys false e rest found = let more = rest found in (inr more.0, more.1)

-- who passes a filter is one of the people, and the test says so
pub among_filter : (p : Person → Bool) (x : Person) (xs : List Person) → IsAmong x (filter p xs) → IsAmong x xs × (p x ≡ true)
among_filter p x [] here = absurd here
among_filter p x (y ∷ ys) here = passed_in_front p x y ys (p y) refl (among_filter p x ys) here

-- and whom the test passes is passed
pub among_filter_from : (p : Person → Bool) (x : Person) (xs : List Person) → IsAmong x xs → p x ≡ true → IsAmong x (filter p xs)
among_filter_from p x [] here holds = absurd here
among_filter_from p x (y ∷ ys) here holds = elim here [
  | inl same ↦ subst (IsAmong x) (sym (cond-true (p y) (y ∷ filter p ys) (filter p ys) (ap p (sym same) ∙ holds))) (inl same)
  | inr later ↦ cond_both (p y) (y ∷ filter p ys) (filter p ys) (IsAmong x) (λ _. inr (among_filter_from p x ys later holds)) (λ _. among_filter_from p x ys later holds)
]
