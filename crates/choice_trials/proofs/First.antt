-- The first of the longest placements, person by person.
use Rattle.std.proofs.Common.{◌≡◌, ◌≢◌, ◌-◌, ◌+◌, ◌≤◌, ◌<◌, ◌⊎◌, ℕ, suc, cond, eqb, List, [], ◌∷◌, ◌++◌, length, get_or, take, drop, Option, Some, None, IsTrue, refl, sym, le_trans, ◌∙◌, ap, subst, ⊎_elim, inl, inr, append_assoc, arith}
use Rattle.std.proofs.lemmas.Bool.{cases_eq, cases_lt, cases_order, eq-eqb, cond-true}
use Rattle.std.proofs.lemmas.List.{get_or_past}
use Rattle.office_base.specs.Certificate.{AreNoLater, IsCanonical, slots_of}
use Rattle.office_base.specs.Person.{has_trait}
use Rattle.office_base.specs.Placement.{protected}
use Rattle.office_base.specs.declared.person.Person.{Person}
use Rattle.office_base.specs.declared.step.Pair.{Pair}
use Rattle.office_base.specs.declared.step.Protections.{Protections}
use Rattle.placements.specs.Greatest.{one_less, IsGreatest}
use Rattle.placements.specs.Slots.{filled, used, AreSlots, pairs_of}
use Rattle.placements.specs.Ranks.{AreDistinct}
use Rattle.placements.proofs.Convert.{slots-from_placement, placement-from_slots, length-pairs_of, slots_of-pairs_of, pairs_of-in_order}
use Rattle.placements.proofs.Greatest.{AreSlots-from_nowhere, AreSlots-nowhere, AreSlots-from_somewhere, AreSlots-somewhere, greatest-exists}
use Rattle.choice_trials.proofs.Parts.{first_and_rest}
use Rattle.choice_trials.specs.First.{IsFirst, IsFirstStand, StandsOnNoneBelow, StandsNowhere}

-- the greatest number is one
greatest-one : (left : Protections) (people : List Person) (m n : ℕ) → IsGreatest left people m → IsGreatest left people n → m ≡ n
greatest-one left people m n h k =
    let below = k.most h.reached.0 h.reached.1 in
    let above = h.most k.reached.0 k.reached.1 in
    let em : filled h.reached.0 ≡ m = h.reached.2 in
    let en : filled k.reached.0 ≡ n = k.reached.2 in
    omega arith

-- a trait on which somebody is placed has a position
room-from_slots : (left : Protections) (people : List Person) (t : ℕ) (slots : List (Option ℕ)) → AreSlots left people (Some t ∷ slots) → 0 < protected left t
room-from_slots left people t slots stand =
    let one : ◌≡◌ {A = ℕ} (cond (eqb t t) 1 0) 1 = cond-true (eqb t t) 1 0 (eq-eqb t t refl) in
    let here : cond (eqb t t) 1 0 + used t slots ≤ protected left t = stand.within t in
    omega arith

module _ (left : Protections) (person : Person) (others : List Person) (number t : ℕ) (below : StandsOnNoneBelow t left (person ∷ others) number) where
  -- a trait on which the person may not be placed is no better
  pub StandsOnNoneBelow-passed : (IsTrue (has_trait person.traits t) → 0 < protected left t → ⊥) → StandsOnNoneBelow (suc t) left (person ∷ others) number
  StandsOnNoneBelow-passed cannot s slots l stand = ⊎_elim
      (λ (e : s ≡ t).
      let parts = AreSlots-from_somewhere left person others s slots stand in
      absurd (cannot (subst (λ (n : ℕ). IsTrue (has_trait person.traits n)) e parts.0) (subst (λ (n : ℕ). 0 < protected left n) e parts.1)))
      (λ (e : s ≢ t). below s slots (omega arith) stand)
      (cases_eq s t)

  -- nor is a trait with which the others fill too few
  pub StandsOnNoneBelow-fewer : (rest : ℕ) → IsTrue (has_trait person.traits t) → 0 < protected left t → IsGreatest (one_less left t) others rest
      → IsGreatest left (person ∷ others) number → suc rest ≢ number → StandsOnNoneBelow (suc t) left (person ∷ others) number
  StandsOnNoneBelow-fewer rest holds room greatest whole fewer s slots l stand = ⊎_elim
      (λ (e : s ≡ t).
      let parts = AreSlots-from_somewhere left person others s slots stand in
      let le = greatest.most slots (subst (λ (n : ℕ). AreSlots (one_less left n) others slots) e parts.2) in
      let reached = whole.most (Some t ∷ greatest.reached.0) (AreSlots-somewhere left person others t greatest.reached.0 holds room greatest.reached.1) in
      let er : filled greatest.reached.0 ≡ rest = greatest.reached.2 in
      omega arith)
      (λ (e : s ≢ t). below s slots (omega arith) stand)
      (cases_eq s t)

-- with all traits behind, the person is placed nowhere
pub StandsNowhere-from_below : (left : Protections) (people : List Person) (number bound : ℕ) → length left.counts ≤ bound → IsGreatest left people number
    → StandsOnNoneBelow bound left people number → StandsNowhere left people
StandsNowhere-from_below left people number bound all greatest below other t slots h stand = ⊎_elim
    (λ (l : t < bound).
    let e = greatest-one left people other number h greatest in
    let fewer = below t slots l stand in
    omega arith)
    (λ (l : bound ≤ t).
    let none = get_or_past left.counts t 0 (omega arith) in
    let room = room-from_slots left people t slots stand in
    absurd (omega arith))
    (cases_lt t bound)

-- the person on the smallest trait is placed no later than in other slots with as many on positions
first_somewhere : (left : Protections) (person : Person) (others : List Person) (t : ℕ) (slots : List (Option ℕ)) (smallest : IsFirstStand left (person ∷ others) t)
    → IsFirst (one_less left t) others slots → filled slots ≡ smallest.2.0
    → (other : List (Option ℕ)) → AreSlots left (person ∷ others) other → filled other ≡ suc (filled slots) → AreNoLater (Some t ∷ slots) other
first_somewhere left person others t slots smallest h same [] stand e = absurd stand.held
first_somewhere left person others t slots smallest h same (None ∷ other) stand e = inl tt
first_somewhere left person others t slots smallest h same (Some s ∷ other) stand e = ⊎_elim
    (λ (k : t ≡ s).
    let parts = AreSlots-from_somewhere left person others s other stand in
    let rest = subst (λ (n : ℕ). AreSlots (one_less left n) others other) (sym k) parts.2 in
    inr (ap (λ (n : ℕ). Some n) k, h.first other rest (omega arith)))
    (λ (k : (t < s) ⊎ (s < t)). ⊎_elim
    (λ (l : t < s). inl l)
    (λ (l : s < t). let fewer = smallest.2.3 s other l stand in absurd (omega arith))
    k)
    (cases_order t s)

-- the first person on the smallest trait, and the others as they are placed first on what is left
pub IsFirst-somewhere : (left : Protections) (person : Person) (others : List Person) (t : ℕ) (slots : List (Option ℕ))
    → IsFirstStand left (person ∷ others) t → IsFirst (one_less left t) others slots → IsFirst left (person ∷ others) (Some t ∷ slots)
IsFirst-somewhere left person others t slots smallest h =
    let number = smallest.2.0 in
    let rest : IsGreatest (one_less left t) others number = smallest.2.1 in
    let whole : IsGreatest left (person ∷ others) (suc number) = smallest.2.2 in
    let same : filled slots ≡ number = greatest-one (one_less left t) others _ _ (record { reached = (slots, h.stand, refl); most = h.most }) rest in
    record {
      stand = AreSlots-somewhere left person others t slots smallest.0 smallest.1 h.stand;
      most = λ other stand. let le = whole.most other stand in omega arith;
      first = first_somewhere left person others t slots smallest h same;
    }

-- if the first person is placed nowhere, the others fill as many as all
others_fill_all : (left : Protections) (person : Person) (others : List Person) (slots : List (Option ℕ)) (number : ℕ) → IsGreatest left (person ∷ others) number
    → StandsNowhere left (person ∷ others) → IsFirst left others slots
    → (other : List (Option ℕ)) → AreSlots left (person ∷ others) other → filled other ≡ number → number ≤ filled slots
others_fill_all left person others slots number greatest nowhere h [] stand e = absurd stand.held
others_fill_all left person others slots number greatest nowhere h (None ∷ other) stand e =
    let le = h.most other (AreSlots-from_nowhere left person others other stand) in
    omega arith
others_fill_all left person others slots number greatest nowhere h (Some t ∷ other) stand e =
    let fewer = nowhere number t other greatest stand in
    absurd (omega arith)

-- the person nowhere is placed no later than in other slots with as many on positions
first_nowhere : (left : Protections) (person : Person) (others : List Person) (slots : List (Option ℕ)) (number : ℕ) → IsGreatest left (person ∷ others) number
    → StandsNowhere left (person ∷ others) → IsFirst left others slots → number ≤ filled slots
    → (other : List (Option ℕ)) → AreSlots left (person ∷ others) other → filled other ≡ filled slots → AreNoLater (None ∷ slots) other
first_nowhere left person others slots number greatest nowhere h enough [] stand e = absurd stand.held
first_nowhere left person others slots number greatest nowhere h enough (None ∷ other) stand e =
    inr (refl, h.first other (AreSlots-from_nowhere left person others other stand) e)
first_nowhere left person others slots number greatest nowhere h enough (Some t ∷ other) stand e =
    let fewer = nowhere number t other greatest stand in
    absurd (omega arith)

-- the first person nowhere, and the others as they are placed first
pub IsFirst-nowhere : (left : Protections) (person : Person) (others : List Person) (slots : List (Option ℕ))
    → StandsNowhere left (person ∷ others) → IsFirst left others slots → IsFirst left (person ∷ others) (None ∷ slots)
IsFirst-nowhere left person others slots nowhere h =
    let there = greatest-exists (person ∷ others) left in
    let enough = others_fill_all left person others slots there.0 there.1 nowhere h there.1.reached.0 there.1.reached.1 there.1.reached.2 in
    record {
      stand = AreSlots-nowhere left person others slots h.stand;
      most = λ other stand. le_trans (there.1.most other stand) enough;
      first = first_nowhere left person others slots there.0 there.1 nowhere h enough;
    }

-- the pairs of the first slots are the canonical certificate
pub IsCanonical-from_first : (left : Protections) (people : List Person) (slots : List (Option ℕ)) → AreDistinct people
    → IsFirst left people slots → IsCanonical left people (pairs_of people slots)
IsCanonical-from_first left people slots apart h = record {
  placement = placement-from_slots left people slots apart h.stand;
  in_order = pairs_of-in_order people slots;
  longest = λ other placement.
      let stand = slots-from_placement left people other apart placement in
      let le = h.most (slots_of other people) stand.0 in
      let own = length-pairs_of people slots h.stand.held in
      let its : filled (slots_of other people) ≡ length other = stand.1 in
      omega arith;
  first = λ other placement same.
      let stand = slots-from_placement left people other apart placement in
      let own = length-pairs_of people slots h.stand.held in
      let its : filled (slots_of other people) ≡ length other = stand.1 in
      let e : filled (slots_of other people) ≡ filled slots = omega arith in
      subst (λ (l : List (Option ℕ)). AreNoLater l (slots_of other people)) (sym (slots_of-pairs_of people slots apart h.stand.held)) (h.first (slots_of other people) stand.0 e);
}

-- the pairs so far with those of the first slots of the people
abbrev pub HasFirst : Protections → List Person → List Pair → List Pair → Type 0
HasFirst left people before after = (slots : List (Option ℕ)) × IsFirst left people slots × (after ≡ before ++ pairs_of people slots)

-- the first person is placed nowhere, so the pairs of the others are those of all
pub HasFirst-nowhere : (left : Protections) (people : List Person) (before after : List Pair) → 0 < length people → StandsNowhere left people
    → HasFirst left (take (length people - 1) (drop 1 people)) before after → HasFirst left people before after
HasFirst-nowhere left [] before after some nowhere h = absurd (omega arith)
HasFirst-nowhere left (person ∷ people) before after some nowhere h =
    let e = first_and_rest (person ∷ people) person some in
    let others = take (length (person ∷ people) - 1) people in
    let P : List Person → Type 0 = λ l. StandsNowhere left l → HasFirst left l before after in
    subst P (sym e) (λ k. (None ∷ h.0, IsFirst-nowhere left person others h.0 k h.1, h.2)) nowhere

-- the first person's pair comes before those of the others on what is left
pub HasFirst-somewhere : (left rest : Protections) (people : List Person) (d : Person) (t : ℕ) (before between after : List Pair) → 0 < length people
    → IsFirstStand left people t → rest ≡ one_less left t → between ≡ before ++ record { cand = (get_or people 0 d).id; slot = t } ∷ []
    → HasFirst rest (take (length people - 1) (drop 1 people)) between after → HasFirst left people before after
HasFirst-somewhere left rest people d t before between after some smallest e pushed h =
    let others = take (length people - 1) (drop 1 people) in
    let person = get_or people 0 d in
    let first = subst (λ (l : Protections). IsFirst l others h.0) e h.1 in
    let P : List Person → Type 0 = λ l. IsFirstStand left l t → HasFirst left l before after in
    let pair : Pair = record { cand = person.id; slot = t } in
    let joined : after ≡ before ++ (pair ∷ pairs_of others h.0) = h.2 ∙ ap (λ (l : List Pair). l ++ pairs_of others h.0) pushed ∙ append_assoc before (pair ∷ []) (pairs_of others h.0) in
    subst P (sym (first_and_rest people d some)) (λ k. (Some t ∷ h.0, IsFirst-somewhere left person others t h.0 k first, joined)) smallest
