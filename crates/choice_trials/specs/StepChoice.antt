-- A set of a step's people held against another.
use Rattle.std.specs.Prelude.{◌≤◌, ℕ, List, length}
use Rattle.office_base.specs.Placement.{IsHonoured}
use Rattle.office_base.specs.StepChoice.{IsNoWorse}
use Rattle.office_base.specs.declared.person.Person.{Person}
use Rattle.office_base.specs.declared.step.Step.{Step}

-- It honours as many as the other at least, and where both honour as many it is the same or better at every merit place.
pub record IsAsGood (step : Step) (set other : List Person) : Type 0 where
  pub most : (m n : ℕ) → IsHonoured step.protections other m → IsHonoured step.protections set n → m ≤ n
  pub best : (m : ℕ) → IsHonoured step.protections other m → IsHonoured step.protections set m → IsNoWorse step.list set other

-- It is as good as the other, where the seats can hold the other.
abbrev pub StandsAgainst : Step → List Person → List Person → Type 0
StandsAgainst step set other = length other ≤ step.seats → IsAsGood step set other
