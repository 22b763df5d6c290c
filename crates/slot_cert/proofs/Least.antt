-- The least bound is the greatest number of people who can be placed, and how it moves down the people.
use Rattle.std.proofs.Common.{◌≡◌, ◌≢◌, ◌<◌, ◌≤◌, ◌+◌, ◌-◌, ◌^◌, ℕ, zero, suc, true, false, List, [], ◌∷◌, length, Option, Some, None, sym, ◌∙◌, subst, ⊎_elim, arith, lit<}
use Rattle.std.proofs.lemmas.Bool.{cases_lt, cases_eq, cases_Bool, both_ways}
use Rattle.std.proofs.lemmas.List.{get_or_past, length-set}
use Rattle.std.proofs.lemmas.Nat.{or_lt, and_le_l}
use Rattle.std.proofs.lemmas.Nat.Bits.{bit_at-pow_same}
use Rattle.office_base.specs.Person.{has_trait, IsTraitSet}
use Rattle.office_base.specs.Placement.{protected}
use Rattle.office_base.specs.declared.person.Person.{Person}
use Rattle.office_base.specs.declared.person.TraitSet.{TraitSet}
use Rattle.office_base.specs.declared.step.Protections.{Protections}
use Rattle.placements.specs.Demand.{is_within}
use Rattle.placements.specs.Greatest.{one_less}
use Rattle.placements.specs.Slots.{filled, AreSlots}
use Rattle.placements.proofs.Greatest.{AreSlots-from_nowhere, AreSlots-from_somewhere}
use Rattle.placements.proofs.Hall.{either, both, one_if, one_if_true, one_if_false, has_one, has_left, has_right, within_left, within_six, alone, alone_small, none_alone, positions_modular}
use Rattle.placements.proofs.Outside.{one_or_none, outside_modular, outside_smaller, positions_one_less, counted_once, within_itself}
use Rattle.slot_cert.specs.Bounds.{bound, IsLeastBound}
use Rattle.slot_cert.specs.First.{MayTake, MustPass, IsFirstChoice}

-- a trait with a position left is one of the six
pub trait-left : (protections : Protections) (t : ℕ) → length protections.counts ≡ 6 → 0 < protected protections t → t < 6
trait-left protections t six left = ⊎_elim (λ l. l) (λ high. let e = get_or_past protections.counts t 0 (omega arith) in absurd (omega arith)) (cases_lt t 6)

-- with a position of a trait taken, a bound whose set has the trait is one less
pub bound-one_less : (set : TraitSet) (protections : Protections) (people : List Person) (t : ℕ) → length protections.counts ≡ 6 → 0 < protected protections t
    → one_if (has_trait set t) + bound set (one_less protections t) people ≡ bound set protections people
bound-one_less set protections people t six left =
    let e = positions_one_less protections t set (trait-left protections t six left) left in
    omega arith

-- no more slots are filled than a bound allows
pub filled-le_bound : (set : TraitSet) (people : List Person) (protections : Protections) (slots : List (Option ℕ)) → length protections.counts ≡ 6
    → AreSlots protections people slots → filled slots ≤ bound set protections people
filled-le_bound set [] protections [] six h = omega arith
filled-le_bound set [] protections (slot ∷ slots) six h = absurd h.held
filled-le_bound set (person ∷ people) protections [] six h = absurd h.held
filled-le_bound set (person ∷ people) protections (None ∷ slots) six h =
    let rest = filled-le_bound set people protections slots six (AreSlots-from_nowhere protections person people slots h) in
    omega arith
filled-le_bound set (person ∷ people) protections (Some t ∷ slots) six h =
    let parts = AreSlots-from_somewhere protections person people t slots h in
    let len = length-set protections.counts t (protected protections t - 1) in
    let rest = filled-le_bound set people (one_less protections t) slots (len ∙ six) parts.2 in
    let e = bound-one_less set protections people t six parts.1 in
    let once = counted_once person.traits set t parts.0 in
    omega arith

-- the union of two sets, and what is common to them, have together no larger bounds than the two
bound-modular : (a b : TraitSet) (protections : Protections) (people : List Person)
    → bound (either a b) protections people + bound (both a b) protections people ≤ bound a protections people + bound b protections people
bound-modular a b protections people =
    let p = positions_modular 6 protections a b in
    let c = outside_modular a b people in
    omega arith

-- every bound with the person is so high
abbrev AreHigh : Protections → Person → List Person → ℕ → Type 0
AreHigh protections person people most = (set : TraitSet) → set.0 < 64 → most ≤ bound set protections (person ∷ people)

-- A set whose bound without the person is too low. With two such sets their union is one. So where the person must pass
-- every trait, each for such a set, all traits of the person are in one of them: but then it counts the person nowhere.
abbrev IsCritical : Protections → List Person → ℕ → TraitSet → Type 0
IsCritical protections people most set = (set.0 < 64) × (bound set protections people < most)

-- with two sets their union is critical
critical-union : (protections : Protections) (person : Person) (people : List Person) (most : ℕ) (a b : TraitSet) → AreHigh protections person people most
    → IsCritical protections people most a → IsCritical protections people most b → IsCritical protections people most (either a b)
critical-union protections person people most a b bounds ca cb =
    let lower = and_le_l a.0 b.0 in
    let m = bound-modular a b protections people in
    let low = bounds (both a b) (omega (arith, lower, ca.0)) in
    let one = one_or_none (is_within person.traits (both a b)) in
    (or_lt 6 a.0 b.0 ca.0 cb.0, omega (arith, m, low, one, ca.1, cb.1))

-- where the person must pass a trait held, some critical set has the trait
critical-trait : (protections : Protections) (person : Person) (people : List Person) (most : ℕ) (a : TraitSet) (t : ℕ) → t < 6
    → IsCritical protections people most a → has_trait person.traits t ≡ true → MustPass protections people most person.traits t
    → (b : TraitSet) × IsCritical protections people most b × (has_trait b t ≡ true)
critical-trait protections person people most a t less ca held pass = ⊎_elim
    (λ not_held. absurd (both_ways (has_trait person.traits t) not_held held))
    (λ rest. ⊎_elim
    (λ (none : protected protections t ≡ 0).
    let m = positions_modular 6 protections a (alone t) in
    let own = none_alone 6 protections t none in
    let fewer = outside_smaller a (either a (alone t)) people (within_left a a (alone t) (within_itself a)) in
    (either a (alone t), (or_lt 6 a.0 (2 ^ t) ca.0 (alone_small t less), omega (arith, m, own, fewer, ca.1)), has_right a (alone t) t (has_one (alone t) t (bit_at-pow_same t))))
    (λ loses. (loses.0, (loses.1, loses.3), loses.2))
    rest)
    pass

-- where the person must pass every trait, some critical set has each of the first n traits that the person holds
critical-traits : (protections : Protections) (person : Person) (people : List Person) (most : ℕ) (a : TraitSet) (n : ℕ) → n ≤ 6 → AreHigh protections person people most
    → IsCritical protections people most a → ((t : ℕ) → t < 6 → MustPass protections people most person.traits t)
    → (b : TraitSet) × IsCritical protections people most b × ((t : ℕ) → t < n → has_trait person.traits t ≡ true → has_trait b t ≡ true)
critical-traits protections person people most a zero l bounds ca pass = (a, ca, λ t none. absurd (omega arith))
critical-traits protections person people most a (suc n) l bounds ca pass =
    let before = critical-traits protections person people most a n (omega arith) bounds ca pass in
    ⊎_elim
    (λ (held : has_trait person.traits n ≡ true).
    let here = critical-trait protections person people most a n (omega arith) ca held (pass n (omega arith)) in (
      either before.0 here.0,
      critical-union protections person people most before.0 here.0 bounds before.1 here.1,
      λ t m h. ⊎_elim
          (λ (e : t ≡ n). has_right before.0 here.0 t (subst (λ (k : ℕ). has_trait here.0 k ≡ true) (sym e) here.2))
          (λ (e : t ≢ n). has_left before.0 here.0 t (before.2 t (omega arith) h))
          (cases_eq t n),
    ))
    (λ (not_held : has_trait person.traits n ≡ false). (
      before.0,
      before.1,
      λ t m h. ⊎_elim
          (λ (e : t ≡ n). absurd (both_ways (has_trait person.traits n) not_held (subst (λ (k : ℕ). has_trait person.traits k ≡ true) e h)))
          (λ (e : t ≢ n). before.2 t (omega arith) h)
          (cases_eq t n),
    ))
    (cases_Bool (has_trait person.traits n))

-- where a person must pass every trait, no bound is too low without the person
pub below-without : (protections : Protections) (person : Person) (people : List Person) (most : ℕ) → IsTraitSet person.traits → AreHigh protections person people most
    → ((t : ℕ) → t < 6 → MustPass protections people most person.traits t) → (set : TraitSet) → set.0 < 64 → most ≤ bound set protections people
below-without protections person people most traits bounds pass set small = ⊎_elim
    (λ (low : bound set protections people < most).
    let b = critical-traits protections person people most set 6 (omega arith) bounds (small, low) pass in
    let high = bounds b.0 b.1.0 in
    let inside = one_if_true (is_within person.traits b.0) (within_six person.traits b.0 traits b.2) in
    let none = one_or_none (is_within person.traits b.0) in
    absurd (omega (arith, b.1.1, high, inside, none)))
    (λ enough. enough)
    (cases_lt (bound set protections people) most)

-- the least bound stays where a person must pass every trait
pub IsLeastBound-passed : (protections : Protections) (person : Person) (people : List Person) (most : ℕ) → IsTraitSet person.traits
    → IsFirstChoice protections people most person.traits None → IsLeastBound protections (person ∷ people) most → IsLeastBound protections people most
IsLeastBound-passed protections person people most traits pass least = record {
  below = below-without protections person people most traits least.below pass;
  met = (least.met.0, least.met.1, (let none = one_or_none (is_within person.traits least.met.0) in omega (arith, least.met.2)));
}

-- it is one less, and was not 0, if a person is placed on a trait without loss
pub IsLeastBound-taken : (protections : Protections) (person : Person) (people : List Person) (most t : ℕ) → length protections.counts ≡ 6 → MayTake protections people most person.traits t
    → IsLeastBound protections (person ∷ people) most → (0 < most) × IsLeastBound (one_less protections t) people (most - 1)
IsLeastBound-taken protections person people most t six take least =
    let set = least.met.0 in
    let e = bound-one_less set protections people t six take.left in
    let once = counted_once person.traits set t take.held in
    let met : suc (bound set (one_less protections t) people) ≤ most = omega (arith, least.met.2) in (
      omega arith,
      record {
        below = λ b small.
            let f = bound-one_less b protections people t six take.left in
            let low = least.below b small in
            let one = one_or_none (is_within person.traits b) in
            ⊎_elim
            (λ e. let c = one_if_true (has_trait b t) e in omega (arith, take.keeps b small e))
            (λ e. let c = one_if_false (has_trait b t) e in omega arith)
            (cases_Bool (has_trait b t));
        met = (set, least.met.1, omega arith);
      },
    )

-- nobody is placed of nobody
pub IsLeastBound-nobody : (protections : Protections) (most : ℕ) → IsLeastBound protections [] most → most ≡ 0
IsLeastBound-nobody protections most least =
    let low = least.below (record { 0 = 0 }) (lit< tt) in
    omega arith
