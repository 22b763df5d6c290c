-- One protected seat more for one trait of a step.
use Rattle.std.specs.Prelude.{◌≡◌, ◌≢◌, ℕ, suc, List, IsTrue}
use Rattle.office_base.specs.Lists.{IsAmong}
use Rattle.office_base.specs.Person.{has_trait}
use Rattle.office_base.specs.Placement.{protected}
use Rattle.office_base.specs.StepChoice.{IsStep, IsStepChoice}
use Rattle.office_base.specs.declared.person.Person.{Person}
use Rattle.office_base.specs.declared.step.Step.{Step}

-- The two steps have the same people and seats, and the second has one seat more that is protected for the trait.
pub record HasOneMore (t : ℕ) (step more : Step) : Type 0 where
  pub is_step : IsStep step
  pub more_is_step : IsStep more
  pub seats : more.seats ≡ step.seats
  pub people : more.people ≡ step.people
  pub one_more : protected more.protections t ≡ suc (protected step.protections t)
  pub others : (s : ℕ) → s ≢ t → protected more.protections s ≡ protected step.protections s

-- One protected seat more never costs a chosen holder of its trait the seat, at this step and with the same seats.
abbrev pub OneMoreKeepsItsHolders : Type 0
OneMoreKeepsItsHolders = (step more : Step) (chosen others : List Person) (person : Person) (t : ℕ) → HasOneMore t step more → IsStepChoice step chosen → IsStepChoice more others
    → IsAmong person chosen → IsTrue (has_trait person.traits t) → IsAmong person others
