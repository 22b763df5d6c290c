-- Who overtakes somebody listed, by those of the listed whom the protections need.
use Rattle.std.specs.Prelude.{◌≡◌, ◌<◌, ◌⊎◌, ◌↔◌, ℕ, List, ◌∷◌, ◌++◌, Option, Some, None, length, slice_index_or, true}
use Rattle.std.specs.List.{AllByRecursion}
use Rattle.office_base.specs.declared.person.CandId.{CandId}
use Rattle.office_base.specs.Lists.{AnyByRecursion, IsAmong, IsSublist}
use Rattle.office_base.specs.Person.{IsBetter}
use Rattle.office_base.specs.Placement.{IsHonoured}
use Rattle.office_base.specs.StepChoice.{AreRanked}
use Rattle.office_base.specs.declared.person.ListId.{ListId}
use Rattle.office_base.specs.declared.person.Person.{Person}
use Rattle.office_base.specs.declared.person.TraitSet.{TraitSet}
use Rattle.office_base.specs.declared.step.Protections.{Protections}
use Rattle.placements.specs.Demand.{is_within}
use Rattle.placements.specs.Ranks.{CanBePlaced, without}
use Rattle.slot_matching.specs.Kept.{Kept}
use Rattle.merit_choice.specs.Needed.{AreNeeded}
use Rattle.axiom_laws.specs.Exchanges.{Overtakes}

-- The person is better than one of the listed who is not needed, or than one of the needed in whose place the person can be placed.
abbrev pub IsAhead : ListId → Protections → List Person → List Person → Person → Type 0
IsAhead list protections listed needed person =
    ((free : Person) × IsAmong free listed × (IsAmong free needed → ⊥) × IsBetter list person free)
    ⊎ ((worse : Person) × IsAmong worse needed × IsBetter list person worse × CanBePlaced protections (person ∷ without worse.id needed))

-- If all people honour no more than those listed, a person who is not listed overtakes one of them exactly when
-- `IsAhead` holds for the person.
abbrev pub Reckoned : Type 0
Reckoned = (list : ListId) (protections : Protections) (people listed needed : List Person) (person : Person) → AreRanked list people → IsSublist listed people
    → AreNeeded list protections listed needed → IsHonoured protections people (length needed) → IsAmong person people → (IsAmong person listed → ⊥)
    → ((worse : Person) × Overtakes list protections people listed person worse) ↔ IsAhead list protections listed needed person

-- the worst of the listed who is not needed; None where all are
abbrev pub IsWorstFree : ListId → List Person → List Person → Option Person → Type 0
IsWorstFree list listed needed None = (person : Person) → IsAmong person listed → (IsAmong person needed → ⊥) → ⊥
IsWorstFree list listed needed (Some free) = IsAmong free listed × (IsAmong free needed → ⊥)
    × ((other : Person) → IsAmong other listed → (IsAmong other needed → ⊥) → (other ≡ free) ⊎ IsBetter list other free)

-- The matching has the needed of those listed, and `free` is the worst of the others.
pub record IsReckoned (list : ListId) (protections : Protections) (listed : List Person) (kept : Kept) (free : Option Person) : Type 0 where
  pub same_list : kept.list ≡ list
  pub same_protections : kept.protections ≡ protections
  pub needs : AreNeeded list protections listed kept.members
  pub worst : IsWorstFree list listed kept.members free

-- the person is better than this one, where there is one
abbrev pub IsBetterThan : ListId → Person → Option Person → Type 0
IsBetterThan list person None = ⊥
IsBetterThan list person (Some other) = IsBetter list person other

-- The worst of the members who hold no trait outside the set. A person is better than this one if and only if the
-- person is better than one of them.
abbrev pub IsWorstWithin : ListId → TraitSet → List Person → Option Person → Type 0
IsWorstWithin list set members worst =
    (person : Person) → IsBetterThan list person worst ↔ AnyByRecursion (λ member. (is_within member.traits set ≡ true) × IsBetter list person member) members

-- one for each of the 64 sets of traits, by its number
abbrev pub AreWorst : ListId → List Person → List (Option Person) → Type 0
AreWorst list members worst = (n : ℕ) → n < 64 → IsWorstWithin list (record { 0 = n }) members (slice_index_or worst n None)

-- the first of some people who is ahead of somebody listed; None where nobody is
abbrev pub IsFirstAhead : ListId → Protections → List Person → List Person → List Person → Option CandId → Type 0
IsFirstAhead list protections listed needed people None = AllByRecursion (λ person. IsAhead list protections listed needed person → ⊥) people
IsFirstAhead list protections listed needed people (Some cand) =
    (before : List Person) × (person : Person) × (after : List Person) × (people ≡ before ++ person ∷ after) × (person.id ≡ cand)
    × IsAhead list protections listed needed person × AllByRecursion (λ other. IsAhead list protections listed needed other → ⊥) before
