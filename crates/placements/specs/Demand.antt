-- How many people ask for positions of certain traits alone, and how many positions those have (Hall, J. London Math. Soc. 1935).
use Rattle.std.specs.Prelude.{◌+◌, ℕ, suc, zero, List, [], ◌∷◌, Bool, nat_eq, bit_and, if◌then◌else◌}
use Rattle.office_base.specs.Person.{has_trait}
use Rattle.office_base.specs.Placement.{protected}
use Rattle.office_base.specs.declared.person.TraitSet.{TraitSet}
use Rattle.office_base.specs.declared.person.Person.{Person}
use Rattle.office_base.specs.declared.step.Protections.{Protections}

-- each trait of the first set is in the second
abbrev pub is_within : TraitSet → TraitSet → Bool
is_within traits set = nat_eq (bit_and traits.0 set.0) traits.0

-- how many of the people hold no trait outside the set
abbrev pub asking : TraitSet → List Person → ℕ
asking set [] = 0
asking set (person ∷ people) = (if is_within person.traits set then 1 else 0) + asking set people

-- how many of the people hold a trait outside the set
abbrev pub asking_outside : TraitSet → List Person → ℕ
asking_outside set [] = 0
asking_outside set (person ∷ people) = (if is_within person.traits set then 0 else 1) + asking_outside set people

-- how many positions are protected for the traits of the set with numbers below n
abbrev pub positions_below : ℕ → Protections → TraitSet → ℕ
positions_below zero protections set = 0
positions_below (suc n) protections set = (if has_trait set n then protected protections n else 0) + positions_below n protections set

-- how many positions are protected for the traits of the set
abbrev pub positions : Protections → TraitSet → ℕ
positions protections set = positions_below 6 protections set
