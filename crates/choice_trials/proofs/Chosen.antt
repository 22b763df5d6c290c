-- Whom a step chooses is in the order of its people.
use Rattle.std.proofs.Common.{◌≡◌, List, Option, Some, None, sym, subst}
use Rattle.std.specs.Prelude.{MatchOption}
use Rattle.office_base.specs.Lists.{IsSublist}
use Rattle.office_base.specs.StepChoice.{AreRanked, IsStep, IsStepChoice}
use Rattle.office_base.specs.declared.person.Person.{Person}
use Rattle.office_base.specs.declared.step.Step.{Step}
use Rattle.placements.proofs.Ranks.{ranked_sublist}

pub chosen_ranked : (step : Step) (found : Option (List Person)) (set shown : List Person) → IsStep step → found ≡ Some set
    → MatchOption found ((other : List Person) → IsStepChoice step other → ⊥) (λ other. IsStepChoice step other) → shown ≡ set → AreRanked step.list shown
chosen_ranked step None set shown is found choice same = absurd (cc found)
chosen_ranked step (Some other) set shown is found choice same =
    ranked_sublist step.list shown step.people is.people (subst (λ s. IsSublist s step.people) (sym (cc (same, found))) choice.may.people)
