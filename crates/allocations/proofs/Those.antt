-- Those who pass a test: who is among them, and when some of them are others of them.
use Rattle.std.proofs.Common.{◌≡◌, ◌≢◌, ◌⊎◌, inl, inr, ℕ, zero, suc, Bool, true, false, List, [], ◌∷◌, Some, length, arith, refl, sym, ap, ◌∙◌, subst, if◌then◌else◌}
use Rattle.std.specs.Prelude.{slice_get}
use Rattle.office_base.proofs.Lists.{all-get}
use Rattle.office_base.specs.Lists.{IsAmong, Pairwise, IsSublist}
use Rattle.office_base.specs.declared.person.Person.{Person}
use Rattle.placements.proofs.Sublists.{IsSublist-nil}
use Rattle.allocations.specs.Market.{Seeker, those}

sublist_if : (b c : Bool) (x y : Person) (xs ys : List Person) → x ≡ y → (b ≡ true → c ≡ true) → IsSublist xs ys → IsSublist (if b then x ∷ xs else xs) (if c then y ∷ ys else ys)
sublist_if true true x y xs ys same passes h = inr (xs, ap (λ z. z ∷ xs) same, h)
sublist_if true false x y xs ys same passes h = absurd (let e = passes refl in cc)
sublist_if false true x y xs ys same passes h = inl h
sublist_if false false x y xs ys same passes h = h

-- At each place both lists of seekers have the same person, and a person who passes the first test passes the second.
pub record Pass {X Y : Type 0} (f : Seeker → X → Bool) (g : Seeker → Y → Bool) (ss ts : List Seeker) (xs : List X) (ys : List Y) : Type 0 where
  pub seekers : length ts ≡ length ss
  pub values : length ys ≡ length xs
  pub persons : (i : ℕ) (s t : Seeker) → slice_get ss i ≡ Some s → slice_get ts i ≡ Some t → s.person ≡ t.person
  pub passes : (i : ℕ) (s t : Seeker) (x : X) (y : Y) → slice_get ss i ≡ Some s → slice_get ts i ≡ Some t → slice_get xs i ≡ Some x → slice_get ys i ≡ Some y → f s x ≡ true → g t y ≡ true

pass_rest : {X Y : Type 0} (f : Seeker → X → Bool) (g : Seeker → Y → Bool) (s t : Seeker) (ss ts : List Seeker) (x : X) (y : Y) (xs : List X) (ys : List Y)
    → Pass f g (s ∷ ss) (t ∷ ts) (x ∷ xs) (y ∷ ys) → Pass f g ss ts xs ys
pass_rest f g s t ss ts x y xs ys h = record {
  seekers = omega (arith, h.seekers);
  values = omega (arith, h.values);
  persons = λ i. h.persons (suc i);
  passes = λ i. h.passes (suc i);
}

-- everyone who passes the first test is, in their order, among those who pass the second
pub those_sublist : {X Y : Type 0} (f : Seeker → X → Bool) (g : Seeker → Y → Bool) (ss ts : List Seeker) (xs : List X) (ys : List Y) → Pass f g ss ts xs ys
    → IsSublist (those f ss xs) (those g ts ys)
those_sublist f g [] ts xs ys h = IsSublist-nil _
those_sublist f g (s ∷ ss) ts [] ys h = IsSublist-nil _
those_sublist f g (s ∷ ss) [] (x ∷ xs) ys h = absurd (omega (arith, h.seekers))
those_sublist f g (s ∷ ss) (t ∷ ts) (x ∷ xs) [] h = absurd (omega (arith, h.values))
those_sublist f g (s ∷ ss) (t ∷ ts) (x ∷ xs) (y ∷ ys) h =
    sublist_if _ _ s.person t.person _ _ (h.persons 0 s t refl refl) (h.passes 0 s t x y refl refl refl refl)
    (those_sublist f g ss ts xs ys (pass_rest f g s t ss ts x y xs ys h))

-- the tests agree at each place: those who pass are the same
pub those_same : {X Y : Type 0} (f : Seeker → X → Bool) (g : Seeker → Y → Bool) (ss : List Seeker) (xs : List X) (ys : List Y) → length ys ≡ length xs
    → ((i : ℕ) (s : Seeker) (x : X) (y : Y) → slice_get ss i ≡ Some s → slice_get xs i ≡ Some x → slice_get ys i ≡ Some y → f s x ≡ g s y) → those f ss xs ≡ those g ss ys
those_same f g [] xs ys full same = refl
those_same f g (s ∷ ss) [] [] full same = refl
those_same f g (s ∷ ss) [] (y ∷ ys) full same = absurd (omega (arith, full))
those_same f g (s ∷ ss) (x ∷ xs) [] full same = absurd (omega (arith, full))
those_same f g (s ∷ ss) (x ∷ xs) (y ∷ ys) full same =
    ap (λ b. if b then s.person ∷ those f ss xs else those f ss xs) (same 0 s x y refl refl refl)
    ∙ ap (λ rest. if g s y then s.person ∷ rest else rest) (those_same f g ss xs ys (omega (arith, full)) (λ i. same (suc i)))

among_if : (b : Bool) (x : Person) (xs : List Person) → b ≡ true → IsAmong x (if b then x ∷ xs else xs)
among_if true x xs e = inl refl
among_if false x xs e = absurd (cc)

among_later : (b : Bool) (x y : Person) (xs : List Person) → IsAmong x xs → IsAmong x (if b then y ∷ xs else xs)
among_later true x y xs h = inr h
among_later false x y xs h = h

-- who passes the test is among those
pub those_has : {X : Type 0} (f : Seeker → X → Bool) (ss : List Seeker) (xs : List X) (i : ℕ) (s : Seeker) (x : X) → slice_get ss i ≡ Some s → slice_get xs i ≡ Some x → f s x ≡ true
    → IsAmong s.person (those f ss xs)
those_has f [] xs i s x there at passes = absurd (cc)
those_has f (t ∷ ss) [] i s x there at passes = absurd (cc)
those_has f (t ∷ ss) (y ∷ xs) zero s x there at passes =
    let first : t ≡ s = cc in
    let value : y ≡ x = cc in
    let here : f t y ≡ true = rw (first, value) passes in
    rw (← first) (among_if (f t y) t.person (those f ss xs) here)
those_has f (t ∷ ss) (y ∷ xs) (suc i) s x there at passes = among_later (f t y) s.person t.person _ (those_has f ss xs i s x there at passes)

-- a seeker who passes the test, at a place
pub record Passing {X : Type 0} (f : Seeker → X → Bool) (ss : List Seeker) (xs : List X) (person : Person) : Type 0 where
  pub place : ℕ
  pub s : Seeker
  pub value : X
  pub there : slice_get ss place ≡ Some s
  pub at : slice_get xs place ≡ Some value
  pub person_is : person ≡ s.person
  pub passes : f s value ≡ true

passing_rest : {X : Type 0} (f : Seeker → X → Bool) (s : Seeker) (ss : List Seeker) (x : X) (xs : List X) (person : Person) → Passing f ss xs person → Passing f (s ∷ ss) (x ∷ xs) person
passing_rest f s ss x xs person h = record { place = suc h.place; s = h.s; value = h.value; there = h.there; at = h.at; person_is = h.person_is; passes = h.passes }

of_if : (b : Bool) (x y : Person) (xs : List Person) → IsAmong x (if b then y ∷ xs else xs) → ((b ≡ true) × (x ≡ y)) ⊎ IsAmong x xs
of_if true x y xs h = elim h [ inl e ↦ inl (refl, e) | inr later ↦ inr later ]
of_if false x y xs h = inr h

-- who is among those is a seeker who passes
pub of_those : {X : Type 0} (f : Seeker → X → Bool) (ss : List Seeker) (xs : List X) (person : Person) → IsAmong person (those f ss xs) → Passing f ss xs person
of_those f [] xs person h = absurd h
of_those f (s ∷ ss) [] person h = absurd h
of_those f (s ∷ ss) (x ∷ xs) person h = elim (of_if (f s x) person s.person _ h) [
  | inl here ↦ record { place = 0; s = s; value = x; there = refl; at = refl; person_is = here.1; passes = here.0 }
  | inr later ↦ passing_rest f s ss x xs person (of_those f ss xs person later)
]

-- each person is at one place
pub same_place : (ss : List Seeker) (i j : ℕ) (s t : Seeker) → Pairwise (λ (a b : Seeker). a.person.id ≢ b.person.id) ss → slice_get ss i ≡ Some s → slice_get ss j ≡ Some t
    → s.person.id ≡ t.person.id → i ≡ j
same_place [] i j s t distinct there at same = absurd (cc)
same_place (x ∷ ss) zero zero s t distinct there at same = refl
same_place (x ∷ ss) zero (suc j) s t distinct there at same = absurd (
    let first : x ≡ s = cc in
    let apart = all-get _ ss j t distinct.0 at in
    apart (ap (λ (z : Seeker). z.person.id) first ∙ same))
same_place (x ∷ ss) (suc i) zero s t distinct there at same = absurd (
    let first : x ≡ t = cc in
    let apart = all-get _ ss i s distinct.0 there in
    apart (ap (λ (z : Seeker). z.person.id) first ∙ sym same))
same_place (x ∷ ss) (suc i) (suc j) s t distinct there at same = ap suc (same_place ss i j s t distinct.1 there at same)

-- the same seekers, and two tests over two lists: a seeker who passes the first passes the second
pub part : {X Y : Type 0} (f : Seeker → X → Bool) (g : Seeker → Y → Bool) (ss : List Seeker) (xs : List X) (ys : List Y) → length ys ≡ length xs
    → ((i : ℕ) (s : Seeker) (x : X) (y : Y) → slice_get ss i ≡ Some s → slice_get xs i ≡ Some x → slice_get ys i ≡ Some y → f s x ≡ true → g s y ≡ true)
    → IsSublist (those f ss xs) (those g ss ys)
part {X} {Y} f g ss xs ys full passes = those_sublist f g ss ss xs ys (record {
  seekers = refl;
  values = full;
  persons = λ i s t there again. let same : s ≡ t = cc in ap (λ (z : Seeker). z.person) same;
  passes = λ i s t x y there again at at' h.
      let same : s ≡ t = cc in
      let P : Seeker → Type 0 = λ z. g z y ≡ true in
      subst P same (passes i s x y there at at' h);
})

-- two lists with the same values at each place of the seekers are one
pub same_values : {X : Type 0} (ss : List Seeker) (xs ys : List X) → length xs ≡ length ss → length ys ≡ length ss
    → ((i : ℕ) (s : Seeker) (x y : X) → slice_get ss i ≡ Some s → slice_get xs i ≡ Some x → slice_get ys i ≡ Some y → x ≡ y) → xs ≡ ys
same_values [] [] [] first second same = refl
same_values [] [] (y ∷ ys) first second same = absurd (omega (arith, second))
same_values [] (x ∷ xs) ys first second same = absurd (omega (arith, first))
same_values (s ∷ ss) [] ys first second same = absurd (omega (arith, first))
same_values (s ∷ ss) (x ∷ xs) [] first second same = absurd (omega (arith, second))
same_values (s ∷ ss) (x ∷ xs) (y ∷ ys) first second same =
    ap (λ z. z ∷ xs) (same 0 s x y refl refl refl)
    ∙ ap (λ rest. y ∷ rest) (same_values ss xs ys (omega (arith, first)) (omega (arith, second)) (λ i. same (suc i)))

-- there is a value at each place of the seekers
pub value_at : {X : Type 0} (ss : List Seeker) (xs : List X) (i : ℕ) (s : Seeker) → length xs ≡ length ss → slice_get ss i ≡ Some s → (x : X) × (slice_get xs i ≡ Some x)
value_at [] xs i s full there = absurd (cc)
value_at (t ∷ ss) [] i s full there = absurd (omega (arith, full))
value_at (t ∷ ss) (x ∷ xs) zero s full there = (x, refl)
value_at (t ∷ ss) (x ∷ xs) (suc i) s full there = value_at ss xs i s (omega (arith, full)) there
