-- In whose place a person can be kept.
use Rattle.std.specs.Prelude.{◌≡◌, ◌↔◌, Option, Some, None, true}
use Rattle.std.specs.List.{AllByRecursion}
use Rattle.office_base.specs.declared.person.Person.{Person}
use Rattle.office_base.specs.declared.person.TraitSet.{TraitSet}
use Rattle.placements.specs.Demand.{is_within}
use Rattle.placements.specs.Ranks.{CanBePlaced}
use Rattle.slot_matching.specs.Augmented.{CanReplace}
use Rattle.slot_matching.specs.Kept.{Kept, with_member}

-- None where the members can all be placed with the person. Else they cannot, and the person can replace just those who hold no trait
-- outside the set.
abbrev pub IsReplaceable : Kept → Person → Option TraitSet → Type 0
IsReplaceable kept person None = CanBePlaced kept.protections (with_member kept person).members
IsReplaceable kept person (Some set) = (¬ CanBePlaced kept.protections (with_member kept person).members)
    × AllByRecursion (λ member. CanReplace kept person member ↔ (is_within member.traits set ≡ true)) kept.members
