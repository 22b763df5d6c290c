-- People named one after another, found along the people.
use Rattle.std.proofs.Common.{◌≡◌, ◌≢◌, ◌≤◌, ◌<◌, ◌+◌, ◌⊎◌, ℕ, zero, suc, Some, List, [], ◌∷◌, ◌++◌, length, get_or, take, drop, add-one, refl, sym, ap, ◌∙◌, subst, inl, inr, arith}
use Rattle.std.specs.Prelude.{slice_get}
use Rattle.std.proofs.lemmas.Bool.{cases_lt}
use Rattle.std.proofs.Math.Seq.{take-suc}
use Rattle.std.specs.List.{AllByRecursion}
use Rattle.office_base.specs.Lists.{IsAmong, Pairwise}
use Rattle.office_base.specs.Person.{IsBetter}
use Rattle.office_base.specs.StepChoice.{AreRanked}
use Rattle.office_base.specs.declared.person.ListId.{ListId}
use Rattle.office_base.specs.declared.person.Person.{Person}
use Rattle.office_base.proofs.Lists.{all_at, all_push, all_weaker}
use Rattle.placements.specs.Ranks.{AreDistinct}
use Rattle.list_audit.specs.Clauses.{IsFirstOutside}
use Rattle.list_audit.proofs.ListPlaces.{split_at_place}

-- the person is at a place before this one
abbrev pub StandsBefore : List Person → ℕ → Person → Type 0
StandsBefore people next person = (k : ℕ) × (k < next) × (slice_get people k ≡ Some person)

-- the person who was named last is just before this place
abbrev pub IsLast : List Person → ℕ → List Person → Type 0
IsLast people next front = ((front ≡ []) × (next ≡ 0)) ⊎ ((rest : List Person) × (last : Person) × (k : ℕ) × (front ≡ rest ++ last ∷ []) × (next ≡ suc k) × (slice_get people k ≡ Some last))

-- Those named so far are among the people, in their order, before this place.
pub record AreFound (list : ListId) (people : List Person) (next : ℕ) (front : List Person) : Type 0 where
  pub within : next ≤ length people
  pub stand : AllByRecursion (StandsBefore people next) front
  pub in_order : Pairwise (IsBetter list) front
  pub last : IsLast people next front

-- ---- places

at_among : {X : Type 0} (xs : List X) (k : ℕ) (x : X) → slice_get xs k ≡ Some x → IsAmong x xs
at_among [] k x e = absurd (cc)
at_among (y ∷ xs) zero x e = inl (let same : y ≡ x = cc in sym same)
at_among (y ∷ xs) (suc k) x e = inr (at_among xs k x e)

among_at : {X : Type 0} (xs : List X) (x : X) → IsAmong x xs → (k : ℕ) × (slice_get xs k ≡ Some x)
among_at [] x there = absurd there
among_at (y ∷ xs) x there = elim there [
  | inl here ↦ (0, ap (λ z. Some z) (sym here))
  | inr later ↦ let found = among_at xs x later in (suc found.0, found.1)
]

dropped_at : {X : Type 0} (xs : List X) (n k : ℕ) (x : X) → n ≤ k → slice_get xs k ≡ Some x → IsAmong x (drop n xs)
dropped_at xs zero k x far e = at_among xs k x e
dropped_at [] (suc n) k x far e = absurd (cc)
dropped_at (y ∷ xs) (suc n) zero x far e = absurd (omega (arith, far))
dropped_at (y ∷ xs) (suc n) (suc k) x far e = dropped_at xs n k x (omega (arith, far)) e

-- of two places the person at the first is better
better_at : (list : ListId) (people : List Person) (j k : ℕ) (a b : Person) → Pairwise (IsBetter list) people → slice_get people j ≡ Some a → slice_get people k ≡ Some b → j < k → IsBetter list a b
better_at list [] j k a b order at at' less = absurd (cc)
better_at list (one ∷ people) j zero a b order at at' less = absurd (omega (arith, less))
better_at list (one ∷ people) zero (suc k) a b order at at' less = let same : one ≡ a = cc in subst (λ (p : Person). IsBetter list p b) same (all_at (IsBetter list one) people k b order.0 at')
better_at list (one ∷ people) (suc j) (suc k) a b order at at' less = better_at list people j k a b order.1 at at' (omega (arith, less))

pair_end : {X : Type 0} (R : X → X → Type 0) (xs : List X) (x : X) → Pairwise R xs → AllByRecursion (λ y. R y x) xs → Pairwise R (xs ++ x ∷ [])
pair_end R [] x each all = (tt, tt)
pair_end R (y ∷ xs) x each all = (all_push (R y) xs x each.0 all.0, pair_end R xs x each.1 all.1)

-- ---- the next who is named

found_next : (list : ListId) (people front : List Person) (next at : ℕ) (person : Person) → AreRanked list people → AreFound list people next front → next ≤ at → at < length people
    → slice_get people at ≡ Some person → AreFound list people (at + 1) (front ++ person ∷ [])
found_next list people front next at person ranked f far inside here = record {
  within = omega (arith, inside);
  stand = all_push (StandsBefore people (at + 1)) front person
      (all_weaker (StandsBefore people next) (StandsBefore people (at + 1)) (λ p s. (s.0, (let less = s.1 in omega (arith, less, far)), s.2)) front f.stand) (at, omega arith, here);
  in_order = pair_end (IsBetter list) front person f.in_order
      (all_weaker (StandsBefore people next) (λ p. IsBetter list p person) (λ p s. better_at list people s.0 at p person ranked.in_order s.2 here (let less = s.1 in omega (arith, less, far))) front f.stand);
  last = inr (front, person, at, refl, omega arith, here);
}

-- a person who is found no more is none of the people, or better than the one before
outside_next : (list : ListId) (people front back : List Person) (next : ℕ) (person : Person) → AreRanked list people → AreDistinct (front ++ person ∷ back) → AreFound list people next front
    → (IsAmong person (drop next people) → ⊥) → IsFirstOutside list people (front ++ person ∷ back) person.id
outside_next list people front back next person ranked distinct f gone = record {
  before = front;
  person = person;
  after = back;
  told = refl;
  is = refl;
  good = all_weaker (StandsBefore people next) (λ p. IsAmong p people) (λ p s. at_among people s.0 p s.2) front f.stand;
  in_order = f.in_order;
  bad = λ there.
      let place = among_at people person there in
      elim (cases_lt place.0 next) [
        | inr far ↦ absurd (gone (dropped_at people next place.0 person far place.1))
        | inl less ↦ elim f.last [
          | inl none ↦ absurd (let zero_next = none.1 in omega (arith, less, zero_next))
          | inr l ↦ (l.0, l.1, l.3, better_at list people place.0 l.2 person l.1 ranked.in_order place.1 l.5 (apart l.0 l.1 l.2 place.0 l.3 l.4 l.5 less place.1))
        ]
      ];
}
  where
    last_apart : (xs : List Person) (last : Person) → AreDistinct ((xs ++ last ∷ []) ++ person ∷ back) → last.id ≢ person.id
    last_apart [] last each = each.0.0
    last_apart (y ∷ xs) last each = last_apart xs last each.1

    apart : (rest : List Person) (last : Person) (k m : ℕ) → front ≡ rest ++ last ∷ [] → next ≡ suc k → slice_get people k ≡ Some last → m < next → slice_get people m ≡ Some person → m < k
    apart rest last k m is count at less here = elim (cases_lt m k) [
      | inl before ↦ before
      | inr far ↦ absurd (
          let place : k ≡ m = omega (arith, far, less, count) in
          let one : Some last ≡ Some person = sym at ∙ (ap (λ (n : ℕ). slice_get people n) place ∙ here) in
          let same : last ≡ person = cc in
          last_apart rest last (subst (λ (xs : List Person). AreDistinct (xs ++ person ∷ back)) is distinct) (ap (λ (p : Person). p.id) same))
    ]

-- ---- by places

pub found_at : (list : ListId) (people named : List Person) (i next at : ℕ) (other person : Person) → AreRanked list people → i < length named → get_or named i other ≡ person
    → AreFound list people next (take i named) → next ≤ at → at < length people → slice_get people at ≡ Some person → AreFound list people (at + 1) (take (i + 1) named)
found_at list people named i next at other person ranked less is f far inside here =
    let one : take (i + 1) named ≡ take i named ++ get_or named i other ∷ [] = rw add-one (take-suc named i other less) in
    subst (AreFound list people (at + 1)) (sym one)
    (found_next list people (take i named) next at (get_or named i other) ranked f far inside (here ∙ ap (λ (p : Person). Some p) (sym is)))

pub outside_at : (list : ListId) (people named : List Person) (i next : ℕ) (other : Person) → AreRanked list people → AreDistinct named → i < length named
    → AreFound list people next (take i named) → (IsAmong (get_or named i other) (drop next people) → ⊥) → IsFirstOutside list people named (get_or named i other).id
outside_at list people named i next other ranked distinct less f gone =
    let split = split_at_place named i other less in
    subst (λ (xs : List Person). IsFirstOutside list people xs (get_or named i other).id) (sym split)
    (outside_next list people (take i named) (drop (suc i) named) next (get_or named i other) ranked (subst AreDistinct split distinct) f gone)

pub all_found : (list : ListId) (people named : List Person) (next : ℕ) → AreFound list people next named → AllByRecursion (λ person. IsAmong person people) named × Pairwise (IsBetter list) named
all_found list people named next f = (all_weaker (StandsBefore people next) (λ p. IsAmong p people) (λ p s. at_among people s.0 p s.2) named f.stand, f.in_order)
