-- The number of protections that people honour: it is there, it is one, and it is the greatest number of slots filled.
use Rattle.std.proofs.Common.{◌≡◌, ◌≢◌, ◌+◌, ◌-◌, ◌≤◌, ◌<◌, ℕ, zero, suc, max, true, false, cond, eqb, List, [], ◌∷◌, length, Option, Some, None, IsTrue, refl, sym, ◌∙◌, ap, subst, ⊎_elim, arith}
use Rattle.std.proofs.lemmas.Bool.{ne_eqb, eq-eqb, cond-true, cond-false, cases_Bool, cases_lt, cases_eq, both_ways}
use Rattle.std.proofs.lemmas.List.{get_or_past, get_or-set_same, get_or-set_other}
use Rattle.office_base.specs.Certificate.{slots_of}
use Rattle.office_base.specs.Person.{has_trait}
use Rattle.office_base.specs.Placement.{protected, IsHonoured}
use Rattle.office_base.specs.declared.person.Person.{Person}
use Rattle.office_base.specs.declared.step.Protections.{Protections}
use Rattle.placements.specs.Slots.{used, filled, AreSlots, pairs_of}
use Rattle.placements.specs.Greatest.{one_less, IsGreatest, IsGreatestBelow}
use Rattle.placements.specs.Ranks.{AreDistinct}
use Rattle.placements.proofs.Convert.{slots-from_placement, placement-from_slots, length-pairs_of}

-- a trait with a position is one of those counted
pub counted_trait : (protections : Protections) (t : ℕ) → 0 < protected protections t → t < length protections.counts
counted_trait protections t h = ⊎_elim
    (λ (l : t < length protections.counts). l)
    (λ (l : length protections.counts ≤ t). let e = get_or_past protections.counts t 0 l in absurd (omega arith))
    (cases_lt t (length protections.counts))

-- one position less of the trait
pub protected-one_less_same : (protections : Protections) (t : ℕ) → 0 < protected protections t → suc (protected (one_less protections t) t) ≡ protected protections t
protected-one_less_same protections t h =
    let e = get_or-set_same protections.counts t (protected protections t - 1) 0 (counted_trait protections t h) in
    omega arith

-- and as many of every other trait
pub protected-one_less_other : (protections : Protections) (t s : ℕ) → s ≢ t → protected (one_less protections t) s ≡ protected protections s
protected-one_less_other protections t s h = get_or-set_other protections.counts t s (protected protections t - 1) 0 h

-- a slot counts for its trait
counts_itself : (t : ℕ) → ◌≡◌ {A = ℕ} (cond (eqb t t) 1 0) 1
counts_itself t = cond-true (eqb t t) 1 0 (eq-eqb t t refl)

-- and for no other
counts_no_other : (t s : ℕ) → t ≢ s → ◌≡◌ {A = ℕ} (cond (eqb t s) 1 0) 0
counts_no_other t s h = cond-false (eqb t s) 1 0 (ne_eqb t s h)

-- one more of the people, who is placed nowhere
pub AreSlots-nowhere : (protections : Protections) (person : Person) (people : List Person) (slots : List (Option ℕ))
    → AreSlots protections people slots → AreSlots protections (person ∷ people) (None ∷ slots)
AreSlots-nowhere protections person people slots h = record { held = (tt, h.held); within = h.within }

-- and without that person
pub AreSlots-from_nowhere : (protections : Protections) (person : Person) (people : List Person) (slots : List (Option ℕ))
    → AreSlots protections (person ∷ people) (None ∷ slots) → AreSlots protections people slots
AreSlots-from_nowhere protections person people slots h = record { held = h.held.1; within = h.within }

-- one more of the people, who is placed on a position that is left
pub AreSlots-somewhere : (protections : Protections) (person : Person) (people : List Person) (t : ℕ) (slots : List (Option ℕ))
    → IsTrue (has_trait person.traits t) → 0 < protected protections t → AreSlots (one_less protections t) people slots
    → AreSlots protections (person ∷ people) (Some t ∷ slots)
AreSlots-somewhere protections person people t slots holds room h = record {
  held = (holds, h.held);
  within = λ s. ⊎_elim
      (λ (e : s ≡ t).
      let same = protected-one_less_same protections t room in
      let le : used t slots ≤ protected (one_less protections t) t = h.within t in
      let one = counts_itself t in
      subst (λ (n : ℕ). cond (eqb t n) 1 0 + used n slots ≤ protected protections n) (sym e) (omega arith))
      (λ (e : s ≢ t).
      let same = protected-one_less_other protections t s e in
      let le : used s slots ≤ protected (one_less protections t) s = h.within s in
      let none = counts_no_other t s (λ x. e (sym x)) in
      omega arith)
      (cases_eq s t);
}

-- the person at the front is placed on a trait held, whose position is not there for the others
pub AreSlots-from_somewhere : (protections : Protections) (person : Person) (people : List Person) (t : ℕ) (slots : List (Option ℕ))
    → AreSlots protections (person ∷ people) (Some t ∷ slots)
    → IsTrue (has_trait person.traits t) × (0 < protected protections t) × AreSlots (one_less protections t) people slots
AreSlots-from_somewhere protections person people t slots h =
    let one = counts_itself t in
    let here : cond (eqb t t) 1 0 + used t slots ≤ protected protections t = h.within t in
    let room : 0 < protected protections t = omega arith in (
      h.held.0,
      room,
      record {
        held = h.held.1;
        within = λ s. ⊎_elim
            (λ (e : s ≡ t).
            let same = protected-one_less_same protections t room in
            let le : used t slots ≤ protected (one_less protections t) t = omega arith in
            subst (λ (n : ℕ). used n slots ≤ protected (one_less protections t) n) (sym e) le)
            (λ (e : s ≢ t).
            let same = protected-one_less_other protections t s e in
            let there : cond (eqb t s) 1 0 + used s slots ≤ protected protections s = h.within s in
            omega arith)
            (cases_eq s t);
      },
    )

-- with nobody placed on a trait so far, the first of the people is placed nowhere
pub IsGreatestBelow-none : (protections : Protections) (person : Person) (people : List Person) (number : ℕ)
    → IsGreatest protections people number → IsGreatestBelow 0 protections person people number
IsGreatestBelow-none protections person people number h = record {
  reached = (None ∷ h.reached.0, AreSlots-nowhere protections person people h.reached.0 h.reached.1, h.reached.2);
  nowhere = h.most;
  somewhere = λ t slots l stand. absurd (omega arith);
}

-- a trait on which the first of the people may not be placed changes nothing
pub IsGreatestBelow-passed : (bound : ℕ) (protections : Protections) (person : Person) (people : List Person) (number : ℕ)
    → (IsTrue (has_trait person.traits bound) → 0 < protected protections bound → ⊥)
    → IsGreatestBelow bound protections person people number → IsGreatestBelow (suc bound) protections person people number
IsGreatestBelow-passed bound protections person people number cannot h = record {
  reached = h.reached;
  nowhere = h.nowhere;
  somewhere = λ t slots l stand. ⊎_elim
      (λ (e : t ≡ bound).
      let parts = AreSlots-from_somewhere protections person people t slots stand in
      absurd (cannot (subst (λ (n : ℕ). IsTrue (has_trait person.traits n)) e parts.0) (subst (λ (n : ℕ). 0 < protected protections n) e parts.1)))
      (λ (e : t ≢ bound). h.somewhere t slots (omega arith) stand)
      (cases_eq t bound);
}

-- what holds of both numbers holds of the larger one
max_either : (P : ℕ → Type 0) (m n : ℕ) → P m → P n → P (max m n)
max_either P m n p q = ⊎_elim
    (λ (h : m < n). let e : n ≡ max m n = omega arith in subst P e q)
    (λ (h : n ≤ m). let e : m ≡ max m n = omega arith in subst P e p)
    (cases_lt m n)

-- the first of the people may be placed on this trait, and the others on what is left
pub IsGreatestBelow-taken : (bound : ℕ) (protections : Protections) (person : Person) (people : List Person) (number others : ℕ)
    → IsTrue (has_trait person.traits bound) → 0 < protected protections bound → IsGreatest (one_less protections bound) people others
    → IsGreatestBelow bound protections person people number → IsGreatestBelow (suc bound) protections person people (max number (suc others))
IsGreatestBelow-taken bound protections person people number others holds room left h = record {
  reached = max_either (λ n. (slots : List (Option ℕ)) × AreSlots protections (person ∷ people) slots × (filled slots ≡ n)) number (suc others) h.reached
      (Some bound ∷ left.reached.0, AreSlots-somewhere protections person people bound left.reached.0 holds room left.reached.1, ap suc left.reached.2);
  nowhere = λ slots stand. let le = h.nowhere slots stand in omega arith;
  somewhere = λ t slots l stand. ⊎_elim
      (λ (e : t ≡ bound).
      let parts = AreSlots-from_somewhere protections person people t slots stand in
      let le = left.most slots (subst (λ (n : ℕ). AreSlots (one_less protections n) people slots) e parts.2) in
      omega arith)
      (λ (e : t ≢ bound). let le = h.somewhere t slots (omega arith) stand in omega arith)
      (cases_eq t bound);
}

-- with every trait that has a position behind, no slots are more than the number
most_from_below : (bound : ℕ) (protections : Protections) (person : Person) (people : List Person) (number : ℕ)
    → ((t : ℕ) → bound ≤ t → protected protections t ≡ 0) → IsGreatestBelow bound protections person people number
    → (slots : List (Option ℕ)) → AreSlots protections (person ∷ people) slots → filled slots ≤ number
most_from_below bound protections person people number behind h [] stand = absurd stand.held
most_from_below bound protections person people number behind h (None ∷ slots) stand = h.nowhere slots (AreSlots-from_nowhere protections person people slots stand)
most_from_below bound protections person people number behind h (Some t ∷ slots) stand = ⊎_elim
    (λ (l : t < bound). h.somewhere t slots l stand)
    (λ (l : bound ≤ t).
    let parts = AreSlots-from_somewhere protections person people t slots stand in
    let none = behind t l in
    let room : 0 < protected protections t = parts.1 in
    absurd (omega arith))
    (cases_lt t bound)

-- nobody fills no slot, whatever the slots
most_of_nobody : (protections : Protections) (slots : List (Option ℕ)) → AreSlots protections [] slots → filled slots ≤ 0
most_of_nobody protections [] stand = omega arith
most_of_nobody protections (slot ∷ slots) stand = absurd stand.held

-- with every trait that has a position behind, the number is the greatest
pub IsGreatest-from_below : (bound : ℕ) (protections : Protections) (person : Person) (people : List Person) (number : ℕ)
    → ((t : ℕ) → bound ≤ t → protected protections t ≡ 0) → IsGreatestBelow bound protections person people number
    → IsGreatest protections (person ∷ people) number
IsGreatest-from_below bound protections person people number behind h = record {
  reached = h.reached;
  most = most_from_below bound protections person people number behind h;
}

-- nobody fills no slot
pub IsGreatest-nobody : (protections : Protections) → IsGreatest protections [] 0
IsGreatest-nobody protections = record {
  reached = ([], record { held = tt; within = λ t. omega arith }, refl);
  most = most_of_nobody protections;
}

-- one trait more for the first of the people
one_trait_more : (protections : Protections) (person : Person) (people : List Person) (bound number others : ℕ)
    → IsGreatestBelow bound protections person people number → IsGreatest (one_less protections bound) people others
    → (m : ℕ) × IsGreatestBelow (suc bound) protections person people m
one_trait_more protections person people bound number others h left = ⊎_elim
    (λ (holds : has_trait person.traits bound ≡ true). ⊎_elim
    (λ (room : 0 < protected protections bound). (max number (suc others), IsGreatestBelow-taken bound protections person people number others holds room left h))
    (λ (full : protected protections bound ≤ 0). (number, IsGreatestBelow-passed bound protections person people number (λ _ room. omega (arith, full, room)) h))
    (cases_lt 0 (protected protections bound)))
    (λ (lacks : has_trait person.traits bound ≡ false). (number, IsGreatestBelow-passed bound protections person people number (λ holds _. both_ways _ lacks holds) h))
    (cases_Bool (has_trait person.traits bound))

-- the traits below a bound, one by one
below-exists : (protections : Protections) (person : Person) (people : List Person)
    → ((left : Protections) → (number : ℕ) × IsGreatest left people number)
    → (bound : ℕ) → (number : ℕ) × IsGreatestBelow bound protections person people number
below-exists protections person people rest zero =
    let r = rest protections in
    (r.0, IsGreatestBelow-none protections person people r.0 r.1)
below-exists protections person people rest (suc bound) =
    let r = rest (one_less protections bound) in
    let b = below-exists protections person people rest bound in
    one_trait_more protections person people bound b.0 r.0 b.1 r.1

-- the greatest number of slots on positions is there
pub greatest-exists : (people : List Person) (protections : Protections) → (number : ℕ) × IsGreatest protections people number
greatest-exists [] protections = (0, IsGreatest-nobody protections)
greatest-exists (person ∷ people) protections =
    let b = below-exists protections person people (greatest-exists people) (length protections.counts) in
    (b.0, IsGreatest-from_below (length protections.counts) protections person people b.0 (λ t h. get_or_past protections.counts t 0 h) b.1)

-- the greatest number of slots on positions is the number honoured
pub IsHonoured-from_greatest : (protections : Protections) (people : List Person) (number : ℕ) → AreDistinct people
    → IsGreatest protections people number → IsHonoured protections people number
IsHonoured-from_greatest protections people number apart h = record {
  reached = (
    pairs_of people h.reached.0,
    placement-from_slots protections people h.reached.0 apart h.reached.1,
    length-pairs_of people h.reached.0 h.reached.1.held ∙ h.reached.2,
  );
  most = λ pairs placement.
      let slots = slots-from_placement protections people pairs apart placement in
      let le = h.most (slots_of pairs people) slots.0 in
      let e : filled (slots_of pairs people) ≡ length pairs = slots.1 in
      omega arith;
}

-- the number honoured is there
pub honoured-exists : (protections : Protections) (people : List Person) → AreDistinct people
    → (number : ℕ) × IsHonoured protections people number
honoured-exists protections people apart =
    let g = greatest-exists people protections in
    (g.0, IsHonoured-from_greatest protections people g.0 apart g.1)

-- and it is one
pub honoured-one : (protections : Protections) (people : List Person) (m n : ℕ) → IsHonoured protections people m → IsHonoured protections people n → m ≡ n
honoured-one protections people m n h k =
    let below = k.most h.reached.0 h.reached.1 in
    let above = h.most k.reached.0 k.reached.1 in
    let em : length h.reached.0 ≡ m = h.reached.2 in
    let en : length k.reached.0 ≡ n = k.reached.2 in
    omega arith
