-- Two canonical certificates of the same people have the same slots, and the slots along the people decide the pairs.
use Rattle.std.proofs.Common.{◌≡◌, ◌≢◌, ℕ, List, [], ◌∷◌, length, map, Option, Some, None, refl, sym, ◌∙◌, ap, ap₂, subst, inl, inr, le_antisymm, arith}
use Rattle.std.specs.List.{AllByRecursion}
use Rattle.office_base.specs.Certificate.{slot_of, slots_of, IsEarlierSlot, AreNoLater}
use Rattle.office_base.specs.Lists.{IsSublist}
use Rattle.office_base.specs.declared.person.CandId.{CandId}
use Rattle.office_base.specs.declared.person.Person.{Person}
use Rattle.office_base.specs.declared.step.Pair.{Pair}
use Rattle.placements.proofs.Sublists.{AllByRecursion-sublist}
use Rattle.placements.specs.Ranks.{AreDistinct}
use Rattle.placements.specs.Slots.{pairs_of}
use Rattle.placements.proofs.Convert.{slot_of-own, slots_of-others, from_same, slot_of-none}
use Rattle.slot_cert.specs.Laws.{OneCertificate}

-- no two slots are each earlier than the other
earlier_once : (slot other : Option ℕ) → IsEarlierSlot slot other → IsEarlierSlot other slot → ⊥
earlier_once (Some s) (Some t) before after = omega arith
earlier_once (Some s) None before after = after
earlier_once None other before after = before

-- no slot is earlier than the same slot
earlier_than_same : (slot other : Option ℕ) → slot ≡ other → IsEarlierSlot slot other → ⊥
earlier_than_same slot other same before =
    let here = subst (λ (s : Option ℕ). IsEarlierSlot s other) same before in
    earlier_once other other here here

-- slots that are no later than each other are the same
AreNoLater-both : (slots others : List (Option ℕ)) → AreNoLater slots others → AreNoLater others slots → slots ≡ others
AreNoLater-both [] [] before after = refl
AreNoLater-both [] (other ∷ others) before after = absurd after
AreNoLater-both (slot ∷ slots) [] before after = absurd before
AreNoLater-both (slot ∷ slots) (other ∷ others) (inl earlier) (inl later) = absurd (earlier_once slot other earlier later)
AreNoLater-both (slot ∷ slots) (other ∷ others) (inl earlier) (inr same) = absurd (earlier_than_same slot other (sym same.0) earlier)
AreNoLater-both (slot ∷ slots) (other ∷ others) (inr same) (inl later) = absurd (earlier_than_same other slot (sym same.0) later)
AreNoLater-both (slot ∷ slots) (other ∷ others) (inr same) (inr again) =
    ap₂ (λ (s : Option ℕ) (l : List (Option ℕ)). s ∷ l) same.0 (AreNoLater-both slots others same.1 again.1)

-- who is apart from the people is apart from their candidates
apart-cands : (cand : CandId) (people : List Person) → AllByRecursion (λ person. cand ≢ person.id) people
    → AllByRecursion (λ other. cand ≢ other) (map (λ person. person.id) people)
apart-cands cand [] h = tt
apart-cands cand (person ∷ people) h = (h.0, apart-cands cand people h.1)

-- who is apart from the candidates of pairs is in none of the pairs
apart-pairs : (cand : CandId) (pairs : List Pair) → AllByRecursion (λ other. cand ≢ other) (map (λ pair. pair.cand) pairs)
    → AllByRecursion (λ pair. cand ≢ pair.cand) pairs
apart-pairs cand [] h = tt
apart-pairs cand (pair ∷ pairs) h = (h.0, apart-pairs cand pairs h.1)

-- pairs of others leave a person without a slot
slot_of-later : (cand : CandId) (people : List Person) (pairs : List Pair) → AllByRecursion (λ person. cand ≢ person.id) people
    → IsSublist (map (λ pair. pair.cand) pairs) (map (λ person. person.id) people) → slot_of pairs cand ≡ None
slot_of-later cand people pairs apart order = slot_of-none cand pairs
    (apart-pairs cand pairs (AllByRecursion-sublist (λ (other : CandId). cand ≢ other) _ _ order (apart-cands cand people apart)))

-- pairs in the order of distinct people are those of their slots
pairs_of-slots_of : (people : List Person) (pairs : List Pair) → AreDistinct people
    → IsSublist (map (λ pair. pair.cand) pairs) (map (λ person. person.id) people) → pairs_of people (slots_of pairs people) ≡ pairs
pairs_of-slots_of [] [] distinct order = refl
pairs_of-slots_of [] (pair ∷ pairs) distinct order = absurd (cc)
pairs_of-slots_of (person ∷ people) pairs distinct (inl later) =
    ap (λ (s : Option ℕ). pairs_of (person ∷ people) (s ∷ slots_of pairs people)) (slot_of-later person.id people pairs distinct.0 later)
    ∙ pairs_of-slots_of people pairs distinct.1 later
pairs_of-slots_of (person ∷ people) [] distinct (inr now) = absurd (let e = now.1 in cc)
pairs_of-slots_of (person ∷ people) (pair ∷ pairs) distinct (inr now) =
    let own : pair.cand ≡ person.id = let e = now.1 in cc in
    let same : map (λ (p : Pair). p.cand) pairs ≡ now.0 = let e = now.1 in cc in
    let order = subst (λ (cands : List CandId). IsSublist cands (map (λ (p : Person). p.id) people)) (sym same) now.2 in
    let slots = slots_of-others pair pairs people (from_same pair people person.id own distinct.0) in
    ap₂ (λ (s : Option ℕ) (l : List (Option ℕ)). pairs_of (person ∷ people) (s ∷ l)) (slot_of-own pair pairs person.id own) slots
    ∙ ap₂ (λ (c : CandId) (l : List Pair). let p : Pair = record { cand = c; slot = pair.slot } in p ∷ l) (sym own) (pairs_of-slots_of people pairs distinct.1 order)

-- distinct people have at most one canonical certificate
pub one_certificate : OneCertificate
one_certificate protections people first second distinct one two =
    let long : length first ≡ length second = le_antisymm (two.longest first one.placement) (one.longest second two.placement) in
    let slots = AreNoLater-both (slots_of first people) (slots_of second people)
    (one.first second two.placement (sym long)) (two.first first one.placement long) in
    sym (pairs_of-slots_of people first distinct one.in_order)
    ∙ (ap (λ (l : List (Option ℕ)). pairs_of people l) slots ∙ pairs_of-slots_of people second distinct two.in_order)
