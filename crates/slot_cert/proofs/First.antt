-- The first slots are slots of a placement, as many as can be, and no later than any others as many.
use Rattle.std.proofs.Common.{◌≡◌, ◌<◌, ◌-◌, ℕ, suc, List, [], ◌∷◌, length, Option, Some, None, refl, sym, ◌∙◌, ap, subst, inl, inr, ⊎_elim, arith}
use Rattle.std.proofs.lemmas.Bool.{cases_order, both_ways}
use Rattle.std.proofs.lemmas.List.{length-set}
use Rattle.std.specs.List.{AllByRecursion}
use Rattle.office_base.specs.Certificate.{slots_of, AreNoLater, IsCanonical}
use Rattle.office_base.specs.Person.{has_trait, IsTraitSet}
use Rattle.office_base.specs.Placement.{protected}
use Rattle.office_base.specs.declared.person.Person.{Person}
use Rattle.office_base.specs.declared.person.TraitSet.{TraitSet}
use Rattle.office_base.specs.declared.step.Protections.{Protections}
use Rattle.placements.specs.Greatest.{one_less}
use Rattle.placements.specs.Slots.{filled, AreSlots, pairs_of}
use Rattle.placements.specs.Ranks.{AreDistinct}
use Rattle.placements.proofs.Convert.{slots-from_placement, placement-from_slots, length-pairs_of, slots_of-pairs_of, pairs_of-in_order}
use Rattle.placements.proofs.Hall.{one_if_true}
use Rattle.placements.proofs.Greatest.{AreSlots-nowhere, AreSlots-from_nowhere, AreSlots-somewhere, AreSlots-from_somewhere}
use Rattle.slot_cert.specs.Bounds.{IsLeastBound}
use Rattle.slot_cert.specs.First.{MayTake, MustPass, AreFirstSlots}
use Rattle.slot_cert.proofs.Least.{trait-left, bound-one_less, filled-le_bound, IsLeastBound-passed, IsLeastBound-taken, IsLeastBound-nobody}

-- the six counts stay six
pub six-one_less : (protections : Protections) (t : ℕ) → length protections.counts ≡ 6 → length (one_less protections t).counts ≡ 6
six-one_less protections t six = length-set protections.counts t (protected protections t - 1) ∙ six

-- the first slots are slots of a placement that fills as many as the least bound
pub AreSlots-first : (people : List Person) (protections : Protections) (most : ℕ) (slots : List (Option ℕ)) → length protections.counts ≡ 6
    → AllByRecursion (λ person. IsTraitSet person.traits) people → IsLeastBound protections people most → AreFirstSlots protections people most slots
    → AreSlots protections people slots × (filled slots ≡ most)
AreSlots-first [] protections most [] six traits least first = (record { held = tt; within = λ t. omega arith }, sym (IsLeastBound-nobody protections most least))
AreSlots-first [] protections most (slot ∷ slots) six traits least first = absurd first
AreSlots-first (person ∷ people) protections most [] six traits least first = absurd first
AreSlots-first (person ∷ people) protections most (None ∷ slots) six traits least first =
    let rest = AreSlots-first people protections most slots six traits.1 (IsLeastBound-passed protections person people most traits.0 first.0 least) first.1 in
    (AreSlots-nowhere protections person people slots rest.0, rest.1)
AreSlots-first (person ∷ people) protections most (Some t ∷ slots) six traits least first =
    let take = first.0.1 in
    let less = IsLeastBound-taken protections person people most t six take least in
    let rest = AreSlots-first people (one_less protections t) (most - 1) slots (six-one_less protections t six) traits.1 less.1 first.1 in
    (AreSlots-somewhere protections person people t slots take.held take.left rest.0, omega (arith, less.0, rest.1))

-- a slot of a placement that fills as many is one that the person may take
MayTake-from_slots : (person : Person) (people : List Person) (protections : Protections) (most t : ℕ) (slots : List (Option ℕ)) → length protections.counts ≡ 6
    → AreSlots protections (person ∷ people) (Some t ∷ slots) → suc (filled slots) ≡ most → MayTake protections people most person.traits t
MayTake-from_slots person people protections most t slots six h all =
    let parts = AreSlots-from_somewhere protections person people t slots h in
    record {
      held = parts.0;
      left = parts.1;
      keeps = λ set small e.
          let le = filled-le_bound set people (one_less protections t) slots (six-one_less protections t six) parts.2 in
          let b = bound-one_less set protections people t six parts.1 in
          let one = one_if_true (has_trait set t) e in
          omega arith;
    }

-- who must pass a trait may not take it
not-both : (protections : Protections) (people : List Person) (most : ℕ) (traits : TraitSet) (t : ℕ)
    → MustPass protections people most traits t → MayTake protections people most traits t → ⊥
not-both protections people most traits t pass take = ⊎_elim
    (λ e. both_ways (has_trait traits t) e take.held)
    (λ rest. ⊎_elim (λ (none : protected protections t ≡ 0). let left = take.left in omega arith) (λ loses. let kept = take.keeps loses.0 loses.1 loses.2 in omega (arith, loses.3)) rest)
    pass

-- the first slots are no later than those of any placement that fills as many
pub AreNoLater-first : (people : List Person) (protections : Protections) (most : ℕ) (slots others : List (Option ℕ)) → length protections.counts ≡ 6
    → AreFirstSlots protections people most slots → AreSlots protections people others → filled others ≡ most → AreNoLater slots others
AreNoLater-first [] protections most [] others six first h e = tt
AreNoLater-first [] protections most (slot ∷ slots) others six first h e = absurd first
AreNoLater-first (person ∷ people) protections most [] others six first h e = absurd first
AreNoLater-first (person ∷ people) protections most (slot ∷ slots) [] six first h e = absurd h.held
AreNoLater-first (person ∷ people) protections most (None ∷ slots) (None ∷ others) six first h e =
    inr (refl, AreNoLater-first people protections most slots others six first.1 (AreSlots-from_nowhere protections person people others h) e)
AreNoLater-first (person ∷ people) protections most (None ∷ slots) (Some s ∷ others) six first h e =
    let take = MayTake-from_slots person people protections most s others six h e in
    absurd (not-both protections people most person.traits s (first.0 s (trait-left protections s six take.left)) take)
AreNoLater-first (person ∷ people) protections most (Some t ∷ slots) (None ∷ others) six first h e = inl tt
AreNoLater-first (person ∷ people) protections most (Some t ∷ slots) (Some s ∷ others) six first h e =
    let take = MayTake-from_slots person people protections most s others six h e in
    ⊎_elim
    (λ (same : t ≡ s).
    let parts = AreSlots-from_somewhere protections person people s others h in
    let there = subst (λ (k : ℕ). AreSlots (one_less protections k) people others) (sym same) parts.2 in
    inr (ap (λ (k : ℕ). let o : Option ℕ = Some k in o) same, AreNoLater-first people (one_less protections t) (most - 1) slots others (six-one_less protections t six) first.1 there (omega arith)))
    (λ apart. ⊎_elim
    (λ (earlier : t < s). inl earlier)
    (λ (later : s < t). absurd (not-both protections people most person.traits s (first.0.2 s later) take))
    apart)
    (cases_order t s)

-- the pairs of the first slots are the certificate
pub IsCanonical-first : (protections : Protections) (people : List Person) (most : ℕ) (slots : List (Option ℕ)) → length protections.counts ≡ 6
    → AreDistinct people → AllByRecursion (λ person. IsTraitSet person.traits) people → IsLeastBound protections people most
    → AreFirstSlots protections people most slots → IsCanonical protections people (pairs_of people slots)
IsCanonical-first protections people most slots six apart traits least first =
    let stand = AreSlots-first people protections most slots six traits least first in
    let len = length-pairs_of people slots stand.0.held in
    let es = slots_of-pairs_of people slots apart stand.0.held in
    record {
      placement = placement-from_slots protections people slots apart stand.0;
      in_order = pairs_of-in_order people slots;
      longest = λ other placement.
          let os = slots-from_placement protections people other apart placement in
          let le = filled-le_bound least.met.0 people protections (slots_of other people) six os.0 in
          omega (arith, len, stand.1, os.1, least.met.2);
      first = λ other placement e.
          let os = slots-from_placement protections people other apart placement in
          rw es (AreNoLater-first people protections most slots (slots_of other people) six first os.0 (omega (arith, len, stand.1, os.1, e)));
    }
