-- The pairs of a placement and the slots along its people carry each other.
use Rattle.std.proofs.Common.{◌≡◌, ◌≢◌, ◌+◌, ◌≤◌, ℕ, suc, true, false, cond, eqb, List, [], ◌∷◌, length, map, Option, Some, None, refl, sym, le_trans, ◌∙◌, ap, ap₂, subst, ⊎_elim, inl, inr, arith}
use Rattle.std.proofs.lemmas.Bool.{ne_eqb, eq-eqb, eqb-true, cond-true, cond-false, cases_Bool}
use Rattle.std.specs.List.{AllZip, AllByRecursion}
use Rattle.office_base.specs.Certificate.{slot_of, slots_of}
use Rattle.office_base.specs.Lists.{AnyByRecursion, Pairwise, IsSublist}
use Rattle.office_base.specs.Placement.{Fills, placed_on, IsPlacement}
use Rattle.office_base.specs.declared.person.CandId.{CandId}
use Rattle.office_base.specs.declared.person.Person.{Person}
use Rattle.office_base.specs.declared.step.Pair.{Pair}
use Rattle.office_base.specs.declared.step.Protections.{Protections}
use Rattle.placements.proofs.Sublists.{IsSublist-nil}
use Rattle.placements.specs.Ranks.{AreDistinct}
use Rattle.placements.specs.Slots.{MayStand, used, filled, AreSlots, pairs_of}

-- Equal numbers are one candidate.
pub same_cand : (a b : CandId) → a.0 ≡ b.0 → a ≡ b
same_cand a b e = ap (λ (n : ℕ). let c : CandId = record { 0 = n } in c) e

-- candidates apart have numbers apart
apart_numbers : (a b : CandId) → a ≢ b → eqb a.0 b.0 ≡ false
apart_numbers a b h = ne_eqb a.0 b.0 (λ e. h (same_cand a b e))

-- a pair of somebody else leaves a person's slot
slot_of-other : (pair : Pair) (pairs : List Pair) (cand : CandId) → pair.cand ≢ cand → slot_of (pair ∷ pairs) cand ≡ slot_of pairs cand
slot_of-other pair pairs cand h = cond-false _ _ _ (apart_numbers pair.cand cand h)

-- a pair gives its person's slot
pub slot_of-own : (pair : Pair) (pairs : List Pair) (cand : CandId) → pair.cand ≡ cand → slot_of (pair ∷ pairs) cand ≡ Some pair.slot
slot_of-own pair pairs cand h = cond-true _ _ _ (eq-eqb pair.cand.0 cand.0 (ap (λ (c : CandId). c.0) h))

-- a pair of nobody among the people leaves all slots
pub slots_of-others : (pair : Pair) (pairs : List Pair) (people : List Person) → AllByRecursion (λ person. pair.cand ≢ person.id) people
    → slots_of (pair ∷ pairs) people ≡ slots_of pairs people
slots_of-others pair pairs [] h = refl
slots_of-others pair pairs (person ∷ people) h =
    let e = slot_of-other pair pairs person.id h.0 in
    let es = slots_of-others pair pairs people h.1 in
    cc

-- who is apart from a person is apart from the candidate of the person's pair
pub from_same : (pair : Pair) (people : List Person) (cand : CandId) → pair.cand ≡ cand → AllByRecursion (λ other. cand ≢ other.id) people
    → AllByRecursion (λ other. pair.cand ≢ other.id) people
from_same pair people cand e h = subst (λ (c : CandId). AllByRecursion (λ other. c ≢ other.id) people) (sym e) h

-- a pair of somebody further on is of another person
elsewhere : (pair : Pair) (cand : CandId) (people : List Person) → AllByRecursion (λ other. cand ≢ other.id) people
    → AnyByRecursion (Fills pair) people → pair.cand ≢ cand
elsewhere pair cand [] h fills e = absurd fills
elsewhere pair cand (person ∷ people) h (inl fills) e = h.0 (sym e ∙ fills.0)
elsewhere pair cand (person ∷ people) h (inr fills) e = elsewhere pair cand people h.1 fills e

-- a pair of one of the people keeps each of them on a trait held
MayStand-one_more : (pair : Pair) (pairs : List Pair) (people : List Person) → AreDistinct people → AnyByRecursion (Fills pair) people
    → AllZip MayStand people (slots_of pairs people) → AllZip MayStand people (slots_of (pair ∷ pairs) people)
MayStand-one_more pair pairs [] apart fills stand = absurd fills
MayStand-one_more pair pairs (person ∷ people) apart (inl fills) stand = (
  subst (MayStand person) (sym (slot_of-own pair pairs person.id fills.0)) fills.1,
  subst (AllZip MayStand people) (sym (slots_of-others pair pairs people (from_same pair people person.id fills.0 apart.0))) stand.1,
)
MayStand-one_more pair pairs (person ∷ people) apart (inr fills) stand = (
  subst (MayStand person) (sym (slot_of-other pair pairs person.id (elsewhere pair person.id people apart.0 fills))) stand.0,
  MayStand-one_more pair pairs people apart.1 fills stand.1,
)

-- a candidate of none of the pairs has no slot
pub slot_of-none : (cand : CandId) (pairs : List Pair) → AllByRecursion (λ pair. cand ≢ pair.cand) pairs → slot_of pairs cand ≡ None
slot_of-none cand [] h = refl
slot_of-none cand (pair ∷ pairs) h = slot_of-other pair pairs cand (λ e. h.0 (sym e)) ∙ slot_of-none cand pairs h.1

-- the same slot before both counts the same for both
filled_both : (slot : Option ℕ) (slots others : List (Option ℕ)) → filled slots ≡ suc (filled others) → filled (slot ∷ slots) ≡ suc (filled (slot ∷ others))
filled_both None slots others h = h
filled_both (Some t) slots others h = ap suc h

-- a slot on a position counts one, whatever its trait
filled-cons : (slot other : Option ℕ) (slots others : List (Option ℕ)) → slot ≡ other → filled slots ≡ suc (filled others)
    → filled (slot ∷ slots) ≡ suc (filled (other ∷ others))
filled-cons slot other slots others e h = subst (λ (s : Option ℕ). filled (s ∷ slots) ≡ suc (filled (other ∷ others))) (sym e) (filled_both other slots others h)

-- the pair of a person who is in no other pair fills one slot more
filled-one_more : (pair : Pair) (pairs : List Pair) (people : List Person) → AreDistinct people → AnyByRecursion (Fills pair) people
    → slot_of pairs pair.cand ≡ None → filled (slots_of (pair ∷ pairs) people) ≡ suc (filled (slots_of pairs people))
filled-one_more pair pairs [] apart fills free = absurd fills
filled-one_more pair pairs (person ∷ people) apart (inl fills) free =
    let own = slot_of-own pair pairs person.id fills.0 in
    let was : slot_of pairs person.id ≡ None = subst (λ (c : CandId). slot_of pairs c ≡ None) fills.0 free in
    let rest = slots_of-others pair pairs people (from_same pair people person.id fills.0 apart.0) in
    ap (λ (l : List (Option ℕ)). filled l) (ap₂ (λ (s : Option ℕ) (l : List (Option ℕ)). s ∷ l) own rest) ∙ sym (ap (λ (s : Option ℕ). suc (filled (s ∷ slots_of pairs people))) was)
filled-one_more pair pairs (person ∷ people) apart (inr fills) free = filled-cons _ _ _ _
    (slot_of-other pair pairs person.id (elsewhere pair person.id people apart.0 fills))
    (filled-one_more pair pairs people apart.1 fills free)

-- one slot more uses no fewer positions
used-le-cons : (t : ℕ) (slot : Option ℕ) (slots : List (Option ℕ)) → used t slots ≤ used t (slot ∷ slots)
used-le-cons t None slots = omega arith
used-le-cons t (Some s) slots = omega arith

-- the same slot before both keeps the difference
used_both : (t c : ℕ) (slot : Option ℕ) (slots others : List (Option ℕ)) → used t slots ≤ c + used t others → used t (slot ∷ slots) ≤ c + used t (slot ∷ others)
used_both t c None slots others h = h
used_both t c (Some s) slots others h = omega arith

-- a pair uses at most one position more of its trait
used-one_more : (t : ℕ) (pair : Pair) (pairs : List Pair) (people : List Person) → AreDistinct people
    → used t (slots_of (pair ∷ pairs) people) ≤ cond (eqb pair.slot t) 1 0 + used t (slots_of pairs people)
used-one_more t pair pairs [] apart = omega arith
used-one_more t pair pairs (person ∷ people) apart = ⊎_elim
    (λ (h : eqb pair.cand.0 person.id.0 ≡ true).
    let e = same_cand _ _ (eqb-true _ _ h) in
    let own = slot_of-own pair pairs person.id e in
    let rest = slots_of-others pair pairs people (from_same pair people person.id e apart.0) in
    let whole = ap₂ (λ (s : Option ℕ) (l : List (Option ℕ)). used t (s ∷ l)) own rest in
    let less = used-le-cons t (slot_of pairs person.id) (slots_of pairs people) in
    omega (arith, whole, less))
    (λ (h : eqb pair.cand.0 person.id.0 ≡ false).
    let other = cond-false _ (Some pair.slot) (slot_of pairs person.id) h in
    let rest = used-one_more t pair pairs people apart.1 in
    subst (λ (s : Option ℕ). used t (s ∷ slots_of (pair ∷ pairs) people) ≤ cond (eqb pair.slot t) 1 0 + used t (slot_of pairs person.id ∷ slots_of pairs people)) (sym other)
    (used_both t _ (slot_of pairs person.id) _ _ rest))
    (cases_Bool (eqb pair.cand.0 person.id.0))

-- without pairs nobody has a slot
filled-no_pairs : (people : List Person) → filled (slots_of [] people) ≡ 0
filled-no_pairs [] = refl
filled-no_pairs (person ∷ people) = filled-no_pairs people

-- without pairs no position is used
used-no_pairs : (t : ℕ) (people : List Person) → used t (slots_of [] people) ≡ 0
used-no_pairs t [] = refl
used-no_pairs t (person ∷ people) = used-no_pairs t people

-- without pairs everybody is placed nowhere
MayStand-no_pairs : (people : List Person) → AllZip MayStand people (slots_of [] people)
MayStand-no_pairs [] = tt
MayStand-no_pairs (person ∷ people) = (tt, MayStand-no_pairs people)

-- the slots of pairs use no more positions than the pairs
used-le-placed_on : (t : ℕ) (people : List Person) (pairs : List Pair) → AreDistinct people → used t (slots_of pairs people) ≤ placed_on t pairs
used-le-placed_on t people [] apart = omega (arith, used-no_pairs t people)
used-le-placed_on t people (pair ∷ pairs) apart =
    let one = used-one_more t pair pairs people apart in
    let rest = used-le-placed_on t people pairs apart in
    omega arith

-- each of the people is placed on a trait held, if each pair is of one of them
MayStand-slots_of : (people : List Person) (pairs : List Pair) → AreDistinct people → AllByRecursion (λ pair. AnyByRecursion (Fills pair) people) pairs
    → AllZip MayStand people (slots_of pairs people)
MayStand-slots_of people [] apart held = MayStand-no_pairs people
MayStand-slots_of people (pair ∷ pairs) apart held = MayStand-one_more pair pairs people apart held.0 (MayStand-slots_of people pairs apart held.1)

-- as many slots as pairs, if each pair is of one of the people and nobody is in two
filled-slots_of : (people : List Person) (pairs : List Pair) → AreDistinct people → AllByRecursion (λ pair. AnyByRecursion (Fills pair) people) pairs
    → Pairwise (λ a b. a.cand ≢ b.cand) pairs → filled (slots_of pairs people) ≡ length pairs
filled-slots_of people [] apart held once = filled-no_pairs people
filled-slots_of people (pair ∷ pairs) apart held once =
    filled-one_more pair pairs people apart held.0 (slot_of-none pair.cand pairs once.0)
    ∙ ap suc (filled-slots_of people pairs apart held.1 once.1)

-- the slots along the people of a placement are slots of one, as many as it has pairs
pub slots-from_placement : (protections : Protections) (people : List Person) (pairs : List Pair)
    → AreDistinct people → IsPlacement protections people pairs
    → AreSlots protections people (slots_of pairs people) × (filled (slots_of pairs people) ≡ length pairs)
slots-from_placement protections people pairs apart placement = (
  record {
    held = MayStand-slots_of people pairs apart placement.held;
    within = λ t. le_trans (used-le-placed_on t people pairs apart) (placement.within t);
  },
  filled-slots_of people pairs apart placement.held placement.once,
)

-- what holds of the people's candidates holds of those of the pairs
all_cands : (P : CandId → Type 0) (people : List Person) (slots : List (Option ℕ)) → AllByRecursion (λ person. P person.id) people
    → AllByRecursion (λ pair. P pair.cand) (pairs_of people slots)
all_cands P [] slots h = tt
all_cands P (person ∷ people) [] h = tt
all_cands P (person ∷ people) (None ∷ slots) h = all_cands P people slots h.1
all_cands P (person ∷ people) (Some t ∷ slots) h = (h.0, all_cands P people slots h.1)

-- who fills a pair among some people fills it among one more
fills_later : (person : Person) (people : List Person) (pairs : List Pair) → AllByRecursion (λ pair. AnyByRecursion (Fills pair) people) pairs
    → AllByRecursion (λ pair. AnyByRecursion (Fills pair) (person ∷ people)) pairs
fills_later person people [] h = tt
fills_later person people (pair ∷ pairs) h = (inr h.0, fills_later person people pairs h.1)

-- each pair of the slots is of one of the people, who holds its trait
held-pairs_of : (people : List Person) (slots : List (Option ℕ)) → AllZip MayStand people slots
    → AllByRecursion (λ pair. AnyByRecursion (Fills pair) people) (pairs_of people slots)
held-pairs_of [] slots h = tt
held-pairs_of (person ∷ people) [] h = tt
held-pairs_of (person ∷ people) (None ∷ slots) h = fills_later person people (pairs_of people slots) (held-pairs_of people slots h.1)
held-pairs_of (person ∷ people) (Some t ∷ slots) h = (inl (refl, h.0), fills_later person people (pairs_of people slots) (held-pairs_of people slots h.1))

-- nobody is in two of the pairs of the slots
once-pairs_of : (people : List Person) (slots : List (Option ℕ)) → AreDistinct people → Pairwise (λ a b. a.cand ≢ b.cand) (pairs_of people slots)
once-pairs_of [] slots apart = tt
once-pairs_of (person ∷ people) [] apart = tt
once-pairs_of (person ∷ people) (None ∷ slots) apart = once-pairs_of people slots apart.1
once-pairs_of (person ∷ people) (Some t ∷ slots) apart = (all_cands (λ cand. person.id ≢ cand) people slots apart.0, once-pairs_of people slots apart.1)

-- the pairs of the slots are on no more positions than the slots use
placed_on-le-used : (t : ℕ) (people : List Person) (slots : List (Option ℕ)) → placed_on t (pairs_of people slots) ≤ used t slots
placed_on-le-used t [] slots = omega arith
placed_on-le-used t (person ∷ people) [] = omega arith
placed_on-le-used t (person ∷ people) (None ∷ slots) = placed_on-le-used t people slots
placed_on-le-used t (person ∷ people) (Some s ∷ slots) = omega (arith, placed_on-le-used t people slots)

-- the pairs of slots are a placement
pub placement-from_slots : (protections : Protections) (people : List Person) (slots : List (Option ℕ))
    → AreDistinct people → AreSlots protections people slots
    → IsPlacement protections people (pairs_of people slots)
placement-from_slots protections people slots apart stand = record {
  held = held-pairs_of people slots stand.held;
  once = once-pairs_of people slots apart;
  within = λ t. le_trans (placed_on-le-used t people slots) (stand.within t);
}

-- as many pairs as slots on positions
pub length-pairs_of : (people : List Person) (slots : List (Option ℕ)) → AllZip MayStand people slots → length (pairs_of people slots) ≡ filled slots
length-pairs_of [] [] h = refl
length-pairs_of [] (slot ∷ slots) h = absurd h
length-pairs_of (person ∷ people) [] h = absurd h
length-pairs_of (person ∷ people) (None ∷ slots) h = length-pairs_of people slots h.1
length-pairs_of (person ∷ people) (Some t ∷ slots) h = ap suc (length-pairs_of people slots h.1)

-- the slots of the pairs are the slots again
pub slots_of-pairs_of : (people : List Person) (slots : List (Option ℕ)) → AreDistinct people
    → AllZip MayStand people slots → slots_of (pairs_of people slots) people ≡ slots
slots_of-pairs_of [] [] apart h = refl
slots_of-pairs_of [] (slot ∷ slots) apart h = absurd h
slots_of-pairs_of (person ∷ people) [] apart h = absurd h
slots_of-pairs_of (person ∷ people) (None ∷ slots) apart h = ap₂ (λ (s : Option ℕ) (l : List (Option ℕ)). s ∷ l)
    (slot_of-none person.id (pairs_of people slots) (all_cands (λ cand. person.id ≢ cand) people slots apart.0))
    (slots_of-pairs_of people slots apart.1 h.1)
slots_of-pairs_of (person ∷ people) (Some t ∷ slots) apart h =
    let pair : Pair = record { cand = person.id; slot = t } in
    ap₂ (λ (s : Option ℕ) (l : List (Option ℕ)). s ∷ l)
    (slot_of-own pair (pairs_of people slots) person.id refl)
    (slots_of-others pair (pairs_of people slots) people apart.0 ∙ slots_of-pairs_of people slots apart.1 h.1)

-- the pairs of the slots are in the order of the people
pub pairs_of-in_order : (people : List Person) (slots : List (Option ℕ))
    → IsSublist (map (λ pair. pair.cand) (pairs_of people slots)) (map (λ person. person.id) people)
pairs_of-in_order [] slots = refl
pairs_of-in_order (person ∷ people) [] = inl (IsSublist-nil (map (λ (p : Person). p.id) people))
pairs_of-in_order (person ∷ people) (None ∷ slots) = inl (pairs_of-in_order people slots)
pairs_of-in_order (person ∷ people) (Some t ∷ slots) = inr (map (λ (pair : Pair). pair.cand) (pairs_of people slots), refl, pairs_of-in_order people slots)
