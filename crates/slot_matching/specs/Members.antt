-- The worst of those members who hold no trait outside a set.
use Rattle.std.specs.Prelude.{◌≡◌, List, Option, Some, None, false, true}
use Rattle.std.specs.List.{AllByRecursion}
use Rattle.office_base.specs.Lists.{IsAmong}
use Rattle.office_base.specs.Person.{IsBetter}
use Rattle.office_base.specs.declared.person.CandId.{CandId}
use Rattle.office_base.specs.declared.person.ListId.{ListId}
use Rattle.office_base.specs.declared.person.Person.{Person}
use Rattle.office_base.specs.declared.person.TraitSet.{TraitSet}
use Rattle.placements.specs.Demand.{is_within}

-- none of them is worse than this one
abbrev pub IsWorstWithin : ListId → TraitSet → List Person → Option Person → Type 0
IsWorstWithin list set members None = AllByRecursion (λ member. is_within member.traits set ≡ false) members
IsWorstWithin list set members (Some worst) = IsAmong worst members × (is_within worst.traits set ≡ true)
    × AllByRecursion (λ member. is_within member.traits set ≡ true → ¬ IsBetter list worst member) members

-- the number of the person who was found, if there is one
abbrev pub id_of : Option Person → Option CandId
id_of None = None
id_of (Some person) = Some person.id
