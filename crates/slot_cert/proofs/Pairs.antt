-- How many pairs are on the positions of a trait.
use Rattle.std.proofs.Common.{◌≡◌, ◌≢◌, ℕ, ◌+◌, ◌<◌, ◌≤◌, Bool, true, false, cond, eqb, List, [], ◌∷◌, refl, sym, ⊎_elim, arith}
use Rattle.std.specs.List.{count_by, AllByRecursion}
use Rattle.std.proofs.lemmas.Bool.{both_ways, cases_lt, ne_eqb}
use Rattle.std.proofs.lemmas.List.Recursion.{is_count_by}
use Rattle.office_base.specs.Lists.{AnyByRecursion, Pairwise}
use Rattle.office_base.specs.Person.{IsTraitSet, has_trait}
use Rattle.office_base.specs.Placement.{Fills, IsPlacement, placed_on, protected}
use Rattle.office_base.specs.declared.person.Person.{Person}
use Rattle.office_base.specs.declared.step.Pair.{Pair}
use Rattle.office_base.specs.declared.step.Protections.{Protections}
use Rattle.slot_cert.proofs.Traits.{has_trait-high}

-- one more where the test holds
one_more : (b : Bool) (n : ℕ) → cond b 1 0 + n ≡ cond b (1 + n) n
one_more true n = refl
one_more false n = omega arith

-- it is the count of the pairs with this slot
pub count_by-slot : (t : ℕ) (pairs : List Pair) → count_by (λ (pair : Pair). eqb pair.slot t) pairs ≡ placed_on t pairs
count_by-slot t pairs = sym (is_count_by (placed_on t) (λ (pair : Pair). eqb pair.slot t) refl (λ pair rest. one_more (eqb pair.slot t) (placed_on t rest)) pairs)

-- a slot that one of the people holds is below 6
slot-held : (people : List Person) (pair : Pair) → AllByRecursion (λ person. IsTraitSet person.traits) people → AnyByRecursion (Fills pair) people → pair.slot < 6
slot-held [] pair traits held = absurd held
slot-held (person ∷ people) pair traits held = ⊎_elim
    (λ fills. ⊎_elim (λ low. low) (λ high. absurd (both_ways (has_trait person.traits pair.slot) (has_trait-high person.traits pair.slot traits.0 high) fills.1)) (cases_lt pair.slot 6))
    (λ later. slot-held people pair traits.1 later) held

-- held pairs are on no trait from 6 on
placed_on-high : (people : List Person) (pairs : List Pair) → AllByRecursion (λ person. IsTraitSet person.traits) people → AllByRecursion (λ pair. AnyByRecursion (Fills pair) people) pairs → (t : ℕ) → 6 ≤ t → placed_on t pairs ≡ 0
placed_on-high people [] traits held t high = refl
placed_on-high people (pair ∷ pairs) traits held t high =
    let low = slot-held people pair traits held.0 in
    let other = ne_eqb pair.slot t (λ e. omega arith) in
    let rest = placed_on-high people pairs traits held.1 t high in
    rw (other, rest) refl

-- The three tests are what a placement is.
pub IsPlacement-from_tests : (protections : Protections) (people : List Person) (pairs : List Pair) → AllByRecursion (λ person. IsTraitSet person.traits) people
    → AllByRecursion (λ pair. AnyByRecursion (Fills pair) people) pairs → Pairwise (λ a b. a.cand ≢ b.cand) pairs → ((t : ℕ) → t < 6 → placed_on t pairs ≤ protected protections t)
    → IsPlacement protections people pairs
IsPlacement-from_tests protections people pairs traits held once within = record {
  held = held;
  once = once;
  within = λ t. ⊎_elim (within t) (λ high. omega (arith, placed_on-high people pairs traits held t high)) (cases_lt t 6);
}
