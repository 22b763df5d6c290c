-- Numbers for the places of two registers of the same people: each place gets the sum of its two numbers, and what follows rises.
use Rattle.std.proofs.Common.{◌≡◌, ◌+◌, ◌-◌, ◌<◌, ◌≤◌, inl, inr, ℕ, zero, suc, max, List, [], ◌∷◌, Option, Some, None, nat_lt, arith, refl, sym, ap, ◌∙◌, subst, if◌then◌else◌}
use Rattle.std.specs.Prelude.{slice_get, slice_index_or}
use Rattle.std.proofs.lemmas.Bool.{cases_lt, le-ltb, lt-ltb}
use Rattle.office_base.specs.Person.{IsAhead, IsBetter, number_in, number_of}
use Rattle.office_base.specs.declared.person.ListId.{ListId}
use Rattle.office_base.specs.declared.person.Person.{Person}
use Rattle.office_base.specs.declared.person.Place.TheVariants.{Absent}

-- a person's number in the merit list at this place of the lists, from 0
abbrev pub number_at : ℕ → Person → Option ℕ
number_at k person = number_of (slice_index_or person.places k Absent)

-- ---- the list at a place

abbrev pub list_at : ℕ → ListId
list_at k = record { 0 = suc k }

number_there : (k : ℕ) (a : Person) → number_in (list_at k) a ≡ number_at k a
number_there k a = let e : suc k - 1 ≡ k = omega arith in ap (λ n. number_of (slice_index_or a.places n Absent)) e

pub better_from : (k : ℕ) (a b : Person) (m n : ℕ) → number_at k a ≡ Some m → number_at k b ≡ Some n → IsBetter (list_at k) a b → m < n
better_from k a b m n e e' h =
    subst (λ z. IsAhead (Some m) z) (number_there k b ∙ e') (subst (λ z. IsAhead z (number_in (list_at k) b)) (number_there k a ∙ e) h)

pub better_to : (k : ℕ) (a b : Person) (m n : ℕ) → number_at k a ≡ Some m → number_at k b ≡ Some n → m < n → IsBetter (list_at k) a b
better_to k a b m n e e' less =
    subst (λ z. IsAhead z (number_in (list_at k) b)) (sym (number_there k a ∙ e)) (subst (λ z. IsAhead (Some m) z) (sym (number_there k b ∙ e')) less)

-- ---- one pair of numbers

-- the second number, where the first is at most m
abbrev step : ℕ → Option ℕ → Option ℕ → ℕ
step m None y = 0
step m (Some x) None = 0
step m (Some x) (Some y) = if nat_lt m x then 0 else y

step_there : (m : ℕ) (a b : Option ℕ) (x y : ℕ) → a ≡ Some x → b ≡ Some y → x ≤ m → step m a b ≡ y
step_there m (Some u) (Some v) x y e e' le =
    let same : u ≡ x = cc in
    let value : v ≡ y = cc in
    ap (λ t. if t then 0 else v) (le-ltb m u (omega (arith, same, le))) ∙ value
step_there m a b x y e e' le = absurd (cc)

step_least : (m c : ℕ) (a b : Option ℕ) → ((x y : ℕ) → a ≡ Some x → b ≡ Some y → x ≤ m → y ≤ c) → step m a b ≤ c
step_least m c (Some x) (Some y) h = elim (cases_lt m x) [
  | inl less ↦
      let e : step m (Some x) (Some y) ≡ 0 = ap (λ t. if t then 0 else y) (lt-ltb m x less) in
      subst (λ n. n ≤ c) (sym e) (omega arith)
  | inr past ↦ subst (λ n. n ≤ c) (sym (step_there m (Some x) (Some y) x y refl refl past)) (h x y refl refl past)
]
step_least m c a b h = omega arith

-- ---- all pairs of numbers

-- the greatest second number of those whose first is at most m
abbrev pub reach : ℕ → List Person → List Person → ℕ → ℕ
reach k [] others m = 0
reach k (p ∷ people) [] m = 0
reach k (p ∷ people) (q ∷ others) m = max (step m (number_at k p) (number_at k q)) (reach k people others m)

pub reach_least : (k : ℕ) (people others : List Person) (m c : ℕ)
    → ((j : ℕ) (p q : Person) (x y : ℕ) → slice_get people j ≡ Some p → slice_get others j ≡ Some q → number_at k p ≡ Some x → number_at k q ≡ Some y → x ≤ m → y ≤ c)
    → reach k people others m ≤ c
reach_least k (p ∷ people) (q ∷ others) m c h =
    let first = step_least m c (number_at k p) (number_at k q) (λ x y. h 0 p q x y refl refl) in
    let rest = reach_least k people others m c (λ j. h (suc j)) in
    omega (arith, first, rest)
reach_least k people others m c h = omega arith

pub reach_there : (k : ℕ) (people others : List Person) (m j : ℕ) (p q : Person) (x y : ℕ) → slice_get people j ≡ Some p → slice_get others j ≡ Some q
    → number_at k p ≡ Some x → number_at k q ≡ Some y → x ≤ m → y ≤ reach k people others m
reach_there k (a ∷ people) (b ∷ others) m zero p q x y at at' e e' le =
    let one : a ≡ p = cc in
    let two : b ≡ q = cc in
    let mine = step_there m (number_at k a) (number_at k b) x y (ap (λ z. number_at k z) one ∙ e) (ap (λ z. number_at k z) two ∙ e') le in
    omega (arith, mine)
reach_there k (a ∷ people) (b ∷ others) m (suc j) p q x y at at' e e' le =
    let rest = reach_there k people others m j p q x y at at' e e' le in
    omega (arith, rest)
reach_there k people others m j p q x y at at' e e' le = absurd (cc)

-- ---- the new numbers

-- each number with the greatest second number up to there
abbrev pub with_reach : List Person → List Person → ℕ → ℕ → ℕ
with_reach people others k m = m + reach k people others m

pub rises : (people others : List Person) (k m n : ℕ) → m < n → with_reach people others k m < with_reach people others k n
rises people others k m n less =
    let more = reach_least k people others m (reach k people others n) (λ j p q x y at at' e e' le. reach_there k people others n j p q x y at at' e e' (omega (arith, le, less))) in
    omega (arith, more, less)

-- it is the sum of both numbers where no second number up to there is greater
pub sum_at : (k : ℕ) (people others : List Person) (j : ℕ) (p q : Person) (x y : ℕ) → slice_get people j ≡ Some p → slice_get others j ≡ Some q
    → number_at k p ≡ Some x → number_at k q ≡ Some y
    → ((h : ℕ) (a b : Person) (m n : ℕ) → slice_get people h ≡ Some a → slice_get others h ≡ Some b → number_at k a ≡ Some m → number_at k b ≡ Some n → m ≤ x → n ≤ y)
    → with_reach people others k x ≡ x + y
sum_at k people others j p q x y at at' e e' most =
    let low = reach_there k people others x j p q x y at at' e e' (omega arith) in
    let high = reach_least k people others x y most in
    omega (arith, low, high)
