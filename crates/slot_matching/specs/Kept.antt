-- What a matching keeps, as contracts see it, and what one person more makes of it.
use Rattle.std.specs.Prelude.{◌≡◌, ◌≢◌, ◌≤◌, ◌<◌, ◌+◌, ℕ, List, [], ◌∷◌, ◌++◌, length, sum, slice_index, IsSome}
use Rattle.std.specs.List.{AllByRecursion}
use Rattle.office_base.specs.Lists.{Pairwise}
use Rattle.office_base.specs.Person.{IsList, IsTraitSet, number_in}
use Rattle.office_base.specs.declared.person.CandId.{CandId}
use Rattle.office_base.specs.declared.person.ListId.{ListId}
use Rattle.office_base.specs.declared.person.Person.{Person}
use Rattle.office_base.specs.declared.person.TraitSet.{TraitSet}
use Rattle.office_base.specs.declared.step.Protections.{Protections}
use Rattle.placements.specs.Demand.{asking, positions}
use Rattle.placements.specs.Ranks.{AreDistinct, CanBePlaced, without}

-- the positions that are protected, the merit list, and the members in the order in which they came
pub record Kept : Type 0 where
  pub protections : Protections
  pub list : ListId
  pub members : List Person

-- The person is none of the members, and has a place in the list that no member has.
pub record MayJoin (kept : Kept) (person : Person) : Type 0 where
  pub traits : IsTraitSet person.traits
  pub placed : IsSome (number_in kept.list person)
  pub distinct : AllByRecursion (λ member. person.id ≢ member.id) kept.members
  pub apart : AllByRecursion (λ member. number_in kept.list person ≢ number_in kept.list member) kept.members

-- The members are distinct persons with places of their own in the list, who can all be placed at once.
pub record IsKept (kept : Kept) : Type 0 where
  pub list : IsList kept.list
  pub traits : AllByRecursion (λ member. IsTraitSet member.traits) kept.members
  pub placed : AllByRecursion (λ member. IsSome (number_in kept.list member)) kept.members
  pub distinct : AreDistinct kept.members
  pub apart : Pairwise (λ a b. number_in kept.list a ≢ number_in kept.list b) kept.members
  pub all : CanBePlaced kept.protections kept.members

-- the matching with one member more
abbrev pub with_member : Kept → Person → Kept
with_member kept person = record { protections = kept.protections; list = kept.list; members = kept.members ++ person ∷ [] }

-- the matching without the member of this number
abbrev pub without_member : Kept → CandId → Kept
without_member kept out = record { protections = kept.protections; list = kept.list; members = without out kept.members }

-- What each set of traits has to spare, with the members who hold no trait outside it, makes up its positions.
pub record IsSpare (protections : Protections) (members : List Person) (spare : List ℕ) : Type 0 where
  pub sets : length spare ≡ 64
  pub left : (m : ℕ) → m < 64 → slice_index spare m + asking (record { 0 = m }) members ≡ positions protections (record { 0 = m })

-- the set of all six traits
abbrev pub all_traits : TraitSet
all_traits = record { 0 = 63 }

-- what the matching keeps true of its members, of what is to spare and of the room for members
pub record IsCounted (kept : Kept) (spare : List ℕ) (size : ℕ) : Type 0 where
  pub list : IsList kept.list
  pub traits : AllByRecursion (λ member. IsTraitSet member.traits) kept.members
  pub placed : AllByRecursion (λ member. IsSome (number_in kept.list member)) kept.members
  pub distinct : AreDistinct kept.members
  pub apart : Pairwise (λ a b. number_in kept.list a ≢ number_in kept.list b) kept.members
  pub left : IsSpare kept.protections kept.members spare
  pub few : sum kept.protections.counts ≤ 65535
  pub room : positions kept.protections all_traits ≤ size
