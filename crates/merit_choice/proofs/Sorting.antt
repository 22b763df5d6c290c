-- People sorted by their places are in merit order.
use Rattle.std.proofs.Common.{◌≡◌, ◌≢◌, ◌≤◌, ◌<◌, ◌+◌, ℕ, zero, suc, Bool, true, false, List, [], ◌∷◌, length, get_or, eqb, refl, sym, ap, subst, inl, inr, arith, Option, Some, None}
use Rattle.std.proofs.lemmas.Bool.{eq-eqb, ne_eqb, cases_eq, both_ways}
use Rattle.std.proofs.lemmas.List.Sorted.{sum_by-IsPermutation, All-permutation, IsPermutation-sym}
use Rattle.std.proofs.lemmas.List.Sums.{sum_by-cons}
use Rattle.std.specs.List.{All, AllByRecursion, sum_by}
use Rattle.std.specs.Option.{unwrap_or}
use Rattle.std.specs.List.Sorted.{IsPermutation, IsNonDecreasingBy}
use Rattle.office_base.specs.Lists.{AnyByRecursion, Pairwise}
use Rattle.office_base.specs.Person.{IsTraitSet, IsAhead, IsBetter, number_in}
use Rattle.office_base.specs.StepChoice.{AreRanked}
use Rattle.office_base.specs.Merit.{CanBeRanked, in_merit}
use Rattle.placements.specs.Ranks.{AreAmong}
use Rattle.placements.proofs.Ranks.{all_both, among_itself}
use Rattle.merit_choice.specs.InMerit.{OneMeritOrder}
use Rattle.office_base.specs.declared.person.CandId.{CandId}
use Rattle.office_base.specs.declared.person.ListId.{ListId}
use Rattle.office_base.specs.declared.person.Person.{Person}
use Rattle.merit_choice.specs.Order.{merit_in}
use Rattle.std.specs.Prelude.{IsSome}

-- 1 for a test that holds
abbrev tally : Bool → ℕ
tally true = 1
tally false = 0

-- how many of the people have this key
abbrev counts : (Person → ℕ) → ℕ → List Person → ℕ
counts key n people = sum_by (λ person. tally (eqb (key person) n)) people

counts_step : (key : Person → ℕ) (n : ℕ) (person : Person) (people : List Person) → counts key n (person ∷ people) ≡ tally (eqb (key person) n) + counts key n people
counts_step key n person people = sum_by-cons (λ other. tally (eqb (key other) n)) person people

-- where all keys differ from a number, none has it
none_has : (key : Person → ℕ) (n : ℕ) (people : List Person) → AllByRecursion (λ other. n ≢ key other) people → counts key n people ≡ 0
none_has key n [] apart = refl
none_has key n (person ∷ people) apart =
    let rest = none_has key n people apart.1 in
    let here : tally (eqb (key person) n) ≡ 0 = ap tally (ne_eqb (key person) n (λ e. apart.0 (sym e))) in
    omega (arith, counts_step key n person people)

-- distinct keys: each number at most once
once_each : (key : Person → ℕ) (people : List Person) → Pairwise (λ a b. key a ≢ key b) people → (n : ℕ) → counts key n people ≤ 1
once_each key [] apart n = omega arith
once_each key (person ∷ people) apart n = elim (cases_eq (key person) n) [
  | inl same ↦
      let none = none_has key n people (subst (λ (m : ℕ). AllByRecursion (λ other. m ≢ key other) people) same apart.0) in
      let here : tally (eqb (key person) n) ≡ 1 = ap tally (eq-eqb (key person) n same) in
      omega (arith, counts_step key n person people)
  | inr differs ↦
      let rest = once_each key people apart.1 n in
      let here : tally (eqb (key person) n) ≡ 0 = ap tally (ne_eqb (key person) n differs) in
      omega (arith, counts_step key n person people)
]

-- where no key is a number, all differ from it
all_apart : (key : Person → ℕ) (n : ℕ) (people : List Person) → counts key n people ≡ 0 → AllByRecursion (λ other. n ≢ key other) people
all_apart key n [] none = tt
all_apart key n (person ∷ people) none = (
  λ same. absurd (let here : tally (eqb (key person) n) ≡ 1 = ap tally (eq-eqb (key person) n (sym same)) in omega (arith, counts_step key n person people)),
  all_apart key n people (omega (arith, counts_step key n person people)),
)

-- each number at most once: distinct keys
apart_each : (key : Person → ℕ) (people : List Person) → ((n : ℕ) → counts key n people ≤ 1) → Pairwise (λ a b. key a ≢ key b) people
apart_each key [] once = tt
apart_each key (person ∷ people) once =
    let here : tally (eqb (key person) (key person)) ≡ 1 = ap tally (eq-eqb (key person) (key person) refl) in
    let most = once (key person) in
    (all_apart key (key person) people (omega (arith, counts_step key (key person) person people)), apart_each key people (λ n. let more = once n in omega (arith, counts_step key n person people)))

-- distinct keys stay distinct in another order
pub apart_permuted : (key : Person → ℕ) (people others : List Person) → IsPermutation people others → Pairwise (λ a b. key a ≢ key b) people → Pairwise (λ a b. key a ≢ key b) others
apart_permuted key people others same apart =
    apart_each key others (λ n.
    let e = sum_by-IsPermutation (λ person. tally (eqb (key person) n)) people others same in
    let most = once_each key people apart n in
    omega arith)

-- what holds at each index holds of each element
all_at : {X : Type 0} (P : X → Type 0) (d : X) (xs : List X) → ((k : ℕ) → k < length xs → P (get_or xs k d)) → AllByRecursion P xs
all_at P d [] each = tt
all_at P d (x ∷ xs) each = (each 0 (omega arith), all_at P d xs (λ k below. each (suc k) (omega arith)))

-- and what holds of each element holds at each index
at_all : {X : Type 0} (P : X → Type 0) (d : X) (xs : List X) (k : ℕ) → AllByRecursion P xs → k < length xs → P (get_or xs k d)
at_all P d [] k all below = absurd (omega arith)
at_all P d (x ∷ xs) zero all below = all.0
at_all P d (x ∷ xs) (suc k) all below = at_all P d xs k all.1 (omega arith)

-- the two ways to say that something holds of each
all_to_all : {X : Type 0} (P : X → Type 0) (xs : List X) → AllByRecursion P xs → All P xs
all_to_all P xs all = λ k d below. at_all P d xs k all below

all_from_all : {X : Type 0} (P : X → Type 0) (xs : List X) → All P xs → AllByRecursion P xs
all_from_all P [] all = tt
all_from_all P (x ∷ xs) all = all_at P x (x ∷ xs) (λ k below. all k x below)

-- what holds of each element and every later one, of two that P holds of
pairs_from : {X : Type 0} (P : X → Type 0) (R S : X → X → Type 0) → ((a b : X) → P a → P b → R a b → S a b) → (xs : List X) → AllByRecursion P xs → Pairwise R xs → Pairwise S xs
pairs_from P R S go [] all pairs = tt
pairs_from P R S go (x ∷ xs) all pairs =
    (all_both P (R x) (S x) (λ y p r. go x y all.0 p r) xs all.1 pairs.0, pairs_from P R S go xs all.1 pairs.1)

-- no key is above a later one
rising_pairs : (key : Person → ℕ) (xs : List Person) → IsNonDecreasingBy key xs → Pairwise (λ a b. key a ≤ key b) xs
rising_pairs key [] up = tt
rising_pairs key (x ∷ xs) up = (
  all_at (λ y. key x ≤ key y) x xs (λ k below. up 0 (suc k) x (omega arith) (omega arith)),
  rising_pairs key xs (λ i j d le below. up (suc i) (suc j) d (omega arith) (omega arith)),
)

-- distinct keys that do not fall rise
strict_pairs : (key : Person → ℕ) (xs : List Person) → Pairwise (λ a b. key a ≤ key b) xs → Pairwise (λ a b. key a ≢ key b) xs → Pairwise (λ a b. key a < key b) xs
strict_pairs key [] up apart = tt
strict_pairs key (x ∷ xs) up apart =
    (all_both (λ y. key x ≤ key y) (λ y. key x ≢ key y) (λ y. key x < key y) (λ y le ne. omega arith) xs up.0 apart.0, strict_pairs key xs up.1 apart.1)

-- of two numbers that are there, the smaller is ahead
ahead_from : (a b : Option ℕ) → IsSome a → IsSome b → unwrap_or a 0 < unwrap_or b 0 → IsAhead a b
ahead_from None b here there less = absurd (both_ways false refl here)
ahead_from (Some m) None here there less = absurd (both_ways false refl there)
ahead_from (Some m) (Some n) here there less = less

-- and different numbers that are there are different
apart_from : (a b : Option ℕ) → IsSome a → IsSome b → a ≢ b → unwrap_or a 0 ≢ unwrap_or b 0
apart_from None b here there differ = absurd (both_ways false refl here)
apart_from (Some m) None here there differ = absurd (both_ways false refl there)
apart_from (Some m) (Some n) here there differ = λ e. differ (ap (λ (k : ℕ). Some k) e)

-- what holds of each person holds of each in another order
all_permuted : (P : Person → Type 0) (people others : List Person) → IsPermutation people others → AllByRecursion P people → AllByRecursion P others
all_permuted P [] others same all = all_from_all P others (All-permutation P [] others same (all_to_all P [] all))
all_permuted P (person ∷ people) others same all = all_from_all P others (All-permutation P (person ∷ people) others same (all_to_all P (person ∷ people) all))

-- the same people in merit order
pub record IsMeritOrder (list : ListId) (people ranked : List Person) : Type 0 where
  pub same : IsPermutation people ranked
  pub in_order : AreRanked list ranked

-- people who can be ranked, sorted by their places, are in merit order
pub sorted_people : (list : ListId) (people others : List Person) → CanBeRanked list people → IsPermutation people others → IsNonDecreasingBy (merit_in list) others → IsMeritOrder list people others
sorted_people list people others may same up =
    let placed = all_permuted (λ person. IsSome (number_in list person)) people others same may.placed in
    let numbers = apart_permuted (merit_in list) people others same
    (pairs_from (λ person. IsSome (number_in list person)) (λ a b. number_in list a ≢ number_in list b) (λ a b. merit_in list a ≢ merit_in list b)
    (λ a b here there differ. apart_from (number_in list a) (number_in list b) here there differ) people may.placed may.numbers) in
    let ids = apart_permuted (λ person. person.id.0) people others same
    (pairs_from (λ person. IsSome (number_in list person)) (λ a b. a.id ≢ b.id) (λ a b. a.id.0 ≢ b.id.0)
    (λ a b here there differ e. differ (ap (λ (n : ℕ). let cand : CandId = record { 0 = n } in cand) e)) people may.placed may.distinct) in
    record {
      same = same;
      in_order = record {
        traits = all_permuted (λ person. IsTraitSet person.traits) people others same may.traits;
        placed = placed;
        in_order = pairs_from (λ person. IsSome (number_in list person)) (λ a b. merit_in list a < merit_in list b) (IsBetter list)
            (λ a b here there less. ahead_from (number_in list a) (number_in list b) here there less) others placed
            (strict_pairs (merit_in list) others (rising_pairs (merit_in list) others up) numbers);
        distinct = pairs_from (λ person. IsSome (number_in list person)) (λ a b. a.id.0 ≢ b.id.0) (λ a b. a.id ≢ b.id)
            (λ a b here there differ e. differ (ap (λ (c : CandId). c.0) e)) others placed ids;
      };
    }

-- people in another order are the same persons
pub among_permuted : (people others : List Person) → IsPermutation people others → AreAmong others people
among_permuted people others same = all_permuted (λ person. AnyByRecursion (λ one. person ≡ one) people) people others same (among_itself people)

-- sorted people are the people by merit
pub sorted_in_merit : OneMeritOrder → (list : ListId) (people others : List Person) → CanBeRanked list people → IsMeritOrder list people others → others ≡ in_merit list people
sorted_in_merit one list people others may order =
    one list people others may order.in_order (among_permuted others people (IsPermutation-sym people others order.same)) (among_permuted people others order.same)
