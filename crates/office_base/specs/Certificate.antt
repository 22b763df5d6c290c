-- What shows which protections a list of persons fills.
use Rattle.std.specs.Prelude.{◌≡◌, ◌<◌, ◌≤◌, ◌⊎◌, ℕ, List, [], ◌∷◌, Option, Some, None, length, map, ◌==◌, if◌then◌else◌}
use Rattle.office_base.specs.Lists.{IsSublist}
use Rattle.office_base.specs.Placement.{IsPlacement}
use Rattle.office_base.specs.declared.person.CandId.{CandId}
use Rattle.office_base.specs.declared.person.Person.{Person}
use Rattle.office_base.specs.declared.step.Pair.{Pair}
use Rattle.office_base.specs.declared.step.Protections.{Protections}

-- the trait on which the pairs place a candidate, or None
abbrev pub slot_of : List Pair → CandId → Option ℕ
slot_of [] cand = None
slot_of (pair ∷ pairs) cand = if pair.cand.0 == cand.0 then Some pair.slot else slot_of pairs cand

-- the slots of persons, in their order
abbrev pub slots_of : List Pair → List Person → List (Option ℕ)
slots_of pairs people = map (λ person. slot_of pairs person.id) people

-- a smaller trait number comes before a larger one, and no trait comes last
abbrev pub IsEarlierSlot : Option ℕ → Option ℕ → Type 0
IsEarlierSlot (Some s) (Some t) = s < t
IsEarlierSlot (Some s) None = Unit {0}
IsEarlierSlot None _ = ⊥

-- The first slots are the second ones, or have the earlier slot where they first differ.
abbrev pub AreNoLater : List (Option ℕ) → List (Option ℕ) → Type 0
AreNoLater [] others = Unit {0}
AreNoLater (slot ∷ slots) [] = ⊥
AreNoLater (slot ∷ slots) (other ∷ others) = IsEarlierSlot slot other ⊎ ((slot ≡ other) × AreNoLater slots others)

-- The pairs are the first of the longest placements, down the merit order of the people.
pub record IsCanonical (protections : Protections) (people : List Person) (pairs : List Pair) : Type 0 where
  pub placement : IsPlacement protections people pairs
  -- the pairs are in the order of the people
  pub in_order : IsSublist (map (λ pair. pair.cand) pairs) (map (λ person. person.id) people)
  pub longest : (other : List Pair) → IsPlacement protections people other → length other ≤ length pairs
  pub first : (other : List Pair) → IsPlacement protections people other → length other ≡ length pairs → AreNoLater (slots_of pairs people) (slots_of other people)
