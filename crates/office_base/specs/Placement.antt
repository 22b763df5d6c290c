-- Persons on protected positions, one to one (Sönmez and Yenmez, Econometrica 2022: one-to-one matching convention).
use Rattle.std.specs.Prelude.{◌≡◌, ◌≢◌, ◌≤◌, ◌+◌, ℕ, List, [], ◌∷◌, length, slice_index, ◌==◌, if◌then◌else◌, IsTrue}
use Rattle.std.specs.List.{AllByRecursion}
use Rattle.office_base.specs.Lists.{AnyByRecursion, Pairwise}
use Rattle.office_base.specs.Person.{has_trait}
use Rattle.office_base.specs.declared.person.Person.{Person}
use Rattle.office_base.specs.declared.step.Pair.{Pair}
use Rattle.office_base.specs.declared.step.Protections.{Protections}

-- how many positions are protected for a trait
abbrev pub protected : Protections → ℕ → ℕ
protected protections t = slice_index protections.counts t

-- the pair is of this person, who holds its trait
abbrev pub Fills : Pair → Person → Type 0
Fills pair person = (pair.cand ≡ person.id) × IsTrue (has_trait person.traits pair.slot)

-- how many pairs are on positions of a trait
abbrev pub placed_on : ℕ → List Pair → ℕ
placed_on t [] = 0
placed_on t (pair ∷ pairs) = (if pair.slot == t then 1 else 0) + placed_on t pairs

-- The pairs place some of the people on protected positions.
pub record IsPlacement (protections : Protections) (people : List Person) (pairs : List Pair) : Type 0 where
  -- each pair is of one of the people, who holds its trait
  pub held : AllByRecursion (λ pair. AnyByRecursion (Fills pair) people) pairs
  -- nobody is in two pairs
  pub once : Pairwise (λ a b. a.cand ≢ b.cand) pairs
  -- no trait is in more pairs than it has positions
  pub within : (t : ℕ) → placed_on t pairs ≤ protected protections t

-- This is the number of protections that the people honour: that many of them can be placed, and no more.
pub record IsHonoured (protections : Protections) (people : List Person) (number : ℕ) : Type 0 where
  pub reached : (pairs : List Pair) × IsPlacement protections people pairs × (length pairs ≡ number)
  pub most : (pairs : List Pair) → IsPlacement protections people pairs → length pairs ≤ number
