-- Who is taken from people, and the best of them.
use Rattle.std.proofs.Common.{◌≡◌, ◌≢◌, ◌≤◌, ◌⊎◌, ℕ, zero, suc, not, List, [], ◌∷◌, take, refl, sym, ap, ◌∙◌, subst, inl, inr, arith}
use Rattle.std.proofs.lemmas.Bool.{not-true, not_from_false, false_from_ne_true, both_ways, cases_Bool}
use Rattle.std.specs.List.{AllByRecursion}
use Rattle.office_base.specs.Lists.{IsSublist}
use Rattle.office_base.specs.declared.person.Person.{Person}
use Rattle.placements.proofs.Sublists.{IsSublist-take}
use Rattle.placements.specs.Ranks.{AreAmong, AreDistinct}
use Rattle.placements.proofs.Ranks.{any_all, any_among, among_sublist}
use Rattle.placements.proofs.Filters.{filter_mono}
use Rattle.merit_choice.specs.Laws.{IsAmong}
use Rattle.programme_lists.specs.Programme.{is_taken, without}
use Rattle.programme_lists.proofs.Taken.{taken_from, taken_among}

-- ---- who is taken

-- one of all is one of some of them, or is not
pub among_or_not : (all some : List Person) (x : Person) → AreDistinct all → AreAmong some all → IsAmong x all → IsAmong x some ⊎ (IsAmong x some → ⊥)
among_or_not all some x distinct within here = elim (cases_Bool (is_taken some x)) [
  | inl holds ↦ inl (taken_among all some x distinct within here holds)
  | inr fails ↦ inr (λ there. both_ways (is_taken some x) fails (taken_from x some there))
]

-- those who are left of some people are left of more, if a person who is not taken there is not taken here
pub without_mono : (all some more taken others : List Person) → AreDistinct all → IsSublist some more → AreAmong more all → AreAmong others all
    → ((x : Person) → IsAmong x some → (IsAmong x taken → ⊥) → IsAmong x others → ⊥) → IsSublist (without some taken) (without more others)
without_mono all some more taken others distinct sub within others_within stays =
    filter_mono (λ person. not (is_taken taken person)) (λ person. not (is_taken others person)) some more sub (λ x here free.
    let wide = any_among (λ one. x ≡ one) more all within (any_among (λ one. x ≡ one) some more (among_sublist some more sub) here) in
    not_from_false (is_taken others x) (false_from_ne_true (is_taken others x) (λ holds.
    stays x here (λ there. both_ways (is_taken taken x) (not-true (is_taken taken x) free) (taken_from x taken there))
    (taken_among all others x distinct others_within wide holds))))

-- ---- the best of them

-- who is among some of the people is not the one apart from all of them
not_among : (x y : Person) (xs ys : List Person) → AllByRecursion (λ one. y.id ≢ one.id) ys → IsSublist xs ys → IsAmong x xs → y ≢ x
not_among x y xs ys apart sub among same =
    let found = any_all (λ one. x ≡ one) (λ one. y.id ≢ one.id) ys (any_among (λ one. x ≡ one) xs ys (among_sublist xs ys sub) among) apart in
    found.2 (ap (λ (p : Person). p.id) (same ∙ found.1))

-- who is one of some people, and of the best of more, is of the best of the some where those are no fewer
pub among_best : (x : Person) (m n : ℕ) (xs ys : List Person) → AreDistinct ys → IsSublist xs ys → m ≤ n → IsAmong x xs → IsAmong x (take m ys) → IsAmong x (take n xs)
among_best x m n xs [] distinct sub le here there = absurd (subst (IsAmong x) sub here)
among_best x zero n xs (y ∷ ys) distinct sub le here there = absurd there
among_best x (suc m) zero xs (y ∷ ys) distinct sub le here there = absurd (omega arith)
among_best x (suc m) (suc n) xs (y ∷ ys) distinct sub le here there = elim sub [
  | inl later ↦ elim there [
    | inl same ↦ absurd (not_among x y xs ys distinct.0 later here (sym same))
    | inr more ↦ among_best x m (suc n) xs ys distinct.1 later (omega arith) here more
  ]
  | inr now ↦ subst (λ (zs : List Person). IsAmong x (take (suc n) zs)) (sym now.1) (elim (subst (IsAmong x) now.1 here) [
    | inl same ↦ inl same
    | inr rest ↦ elim there [
      | inl same ↦ inl same
      | inr more ↦ inr (among_best x m n now.0 ys distinct.1 now.2 (omega arith) rest more)
    ]
  ])
]

-- the best of some people are the best of more, where all of those are among the some
pub best_of_some : (n : ℕ) (xs ys : List Person) → AreDistinct ys → IsSublist xs ys → ((x : Person) → IsAmong x (take n ys) → IsAmong x xs) → take n xs ≡ take n ys
best_of_some n xs [] distinct sub within = ap (take n) sub
best_of_some zero xs (y ∷ ys) distinct sub within = refl
best_of_some (suc n) xs (y ∷ ys) distinct sub within = elim sub [
  | inl later ↦ absurd (not_among y y xs ys distinct.0 later (within y (inl refl)) refl)
  | inr now ↦
      let rest : take n now.0 ≡ take n ys = best_of_some n now.0 ys distinct.1 now.2 (λ x more. elim (subst (IsAmong x) now.1 (within x (inr more))) [
        | inl same ↦ absurd (not_among x y (take n ys) ys distinct.0 (IsSublist-take n ys) more (sym same))
        | inr found ↦ found
      ]) in
      ap (take (suc n)) now.1 ∙ ap (λ (zs : List Person). y ∷ zs) rest
]
