-- The choice of a step (Sönmez and Yenmez, Econometrica 2022: the two-step meritorious horizontal choice rule).
use Rattle.std.specs.Prelude.{◌≡◌, ◌≢◌, ◌≤◌, ◌⊎◌, ℕ, List, [], ◌∷◌, length, sum, IsSome}
use Rattle.std.specs.List.{AllByRecursion}
use Rattle.office_base.specs.Lists.{IsSublist, Pairwise}
use Rattle.office_base.specs.Person.{IsList, IsTraitSet, IsBetter, number_in}
use Rattle.office_base.specs.Placement.{IsHonoured}
use Rattle.office_base.specs.declared.person.ListId.{ListId}
use Rattle.office_base.specs.declared.person.Person.{Person}
use Rattle.office_base.specs.declared.step.Step.{Step}

-- the people are distinct persons with a place in the list, each better than all who follow
pub record AreRanked (list : ListId) (people : List Person) : Type 0 where
  pub traits : AllByRecursion (λ person. IsTraitSet person.traits) people
  pub placed : AllByRecursion (λ person. IsSome (number_in list person)) people
  pub in_order : Pairwise (IsBetter list) people
  pub distinct : Pairwise (λ a b. a.id ≢ b.id) people

-- what every step satisfies
pub record IsStep (step : Step) : Type 0 where
  pub list : IsList step.list
  pub people : AreRanked step.list step.people
  -- the protected positions are among the seats
  pub protections : sum step.protections.counts ≤ step.seats

-- a set of the step's people, in merit order, that the seats can hold
pub record MayAdmit (step : Step) (set : List Person) : Type 0 where
  pub people : IsSublist set step.people
  pub seats : length set ≤ step.seats

-- At every merit place where the second list has a person, the first has the same person or a better one.
abbrev pub IsNoWorse : ListId → List Person → List Person → Type 0
IsNoWorse list people [] = Unit {0}
IsNoWorse list [] (other ∷ others) = ⊥
IsNoWorse list (person ∷ people) (other ∷ others) = ((person ≡ other) ⊎ IsBetter list person other) × IsNoWorse list people others

-- The chosen are what the step admits.
pub record IsStepChoice (step : Step) (chosen : List Person) : Type 0 where
  pub may : MayAdmit step chosen
  -- no set within the seats honours more
  pub most : (other : List Person) (m n : ℕ) → MayAdmit step other → IsHonoured step.protections other m → IsHonoured step.protections chosen n → m ≤ n
  -- of those that honour as many, it is the same or better at every merit place
  pub best : (other : List Person) (m : ℕ) → MayAdmit step other → IsHonoured step.protections other m → IsHonoured step.protections chosen m → IsNoWorse step.list chosen other
