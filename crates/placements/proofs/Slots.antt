-- The slots of a placement are numbers of traits.
use Rattle.std.proofs.Common.{◌<◌, inl, inr, List, [], ◌∷◌}
use Rattle.std.specs.List.{AllByRecursion}
use Rattle.office_base.specs.Lists.{AnyByRecursion}
use Rattle.office_base.specs.Person.{IsTraitSet}
use Rattle.office_base.specs.Placement.{Fills}
use Rattle.office_base.specs.declared.person.Person.{Person}
use Rattle.office_base.specs.declared.step.Pair.{Pair}
use Rattle.placements.proofs.Hall.{small_trait}

-- a slot that one of the people fills is below 6
small_slot : (pair : Pair) (people : List Person) → AllByRecursion (λ person. IsTraitSet person.traits) people → AnyByRecursion (Fills pair) people → pair.slot < 6
small_slot pair [] sets fills = absurd fills
small_slot pair (person ∷ people) sets fills =
    elim fills [
      | inl here ↦ small_trait person.traits pair.slot sets.0 here.1
      | inr later ↦ small_slot pair people sets.1 later
    ]

-- so is each slot of pairs that the people fill
pub small_slots : (people : List Person) (pairs : List Pair) → AllByRecursion (λ person. IsTraitSet person.traits) people → AllByRecursion (λ pair. AnyByRecursion (Fills pair) people) pairs → AllByRecursion (λ pair. pair.slot < 6) pairs
small_slots people [] sets held = tt
small_slots people (pair ∷ pairs) sets held = (small_slot pair people sets held.0, small_slots people pairs sets held.1)
