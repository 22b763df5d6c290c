-- The last of those held who can make place.
use Rattle.std.specs.Prelude.{◌≡◌, ◌⊎◌, ℕ, List, Bool, Option, Some, None, true}
use Rattle.std.specs.List.{AllZip}
use Rattle.office_base.specs.Lists.{IsAmong}
use Rattle.office_base.specs.Person.{IsBetter, number_in}
use Rattle.office_base.specs.declared.person.ListId.{ListId}
use Rattle.office_base.specs.declared.person.Person.{Person}
use Rattle.office_base.specs.declared.person.TraitSet.{TraitSet}
use Rattle.office_base.specs.declared.step.Protections.{Protections}
use Rattle.placements.specs.Demand.{is_within}
use Rattle.slot_matching.specs.Kept.{Kept}
use Rattle.merit_choice.specs.Needed.{AreNeeded, Tells}
use Rattle.merit_choice.specs.State.{StepKept}

-- seats of a list with their protections, and whom they hold
abbrev pub holding : ListId → ℕ → Protections → List Person → StepKept
holding list seats protections held = record { list = list; seats = seats; protections = protections; held = held }

-- the person is none of the needed, or holds no trait outside the set
abbrev pub IsSpare : List Person → TraitSet → Person → Type 0
IsSpare needed set person = (IsAmong person needed → ⊥) ⊎ (is_within person.traits set ≡ true)

-- this one of those held is spare, at this place in the list, and nobody who is worse is
pub record IsLastSpare (list : ListId) (held needed : List Person) (set : TraitSet) (number : ℕ) : Type 0 where
  pub worst : Person
  pub there : IsAmong worst held
  pub spare : IsSpare needed set worst
  pub place : number_in list worst ≡ Some number
  pub later : (other : Person) → IsAmong other held → IsSpare needed set other → IsBetter list worst other → ⊥

-- the place of that one, if there is one
abbrev pub IsLastPlace : ListId → List Person → List Person → TraitSet → Option ℕ → Type 0
IsLastPlace list held needed set None = (other : Person) → IsAmong other held → IsSpare needed set other → ⊥
IsLastPlace list held needed set (Some number) = IsLastSpare list held needed set number

-- The matching has those whom the protections need of those held. Each of those held is marked as needed or not.
pub record IsNeededOf (list : ListId) (protections : Protections) (held : List Person) (matching : Kept) (marks : List Bool) : Type 0 where
  pub same_list : matching.list ≡ list
  pub same_protections : matching.protections ≡ protections
  pub needs : AreNeeded list protections held matching.members
  pub told : AllZip (Tells matching.members) held marks
