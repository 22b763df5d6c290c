-- One set held against another, by the numbers that they honour.
use Rattle.std.proofs.Common.{◌≡◌, ◌≤◌, ℕ, List, subst, arith, All}
use Rattle.std.proofs.lemmas.List.Elements.{All-weaker, recursion_from_All}
use Rattle.office_base.specs.Lists.{IsSublist}
use Rattle.office_base.specs.Placement.{IsHonoured}
use Rattle.office_base.specs.StepChoice.{IsNoWorse, IsStepChoice, MayAdmit}
use Rattle.office_base.specs.declared.person.Person.{Person}
use Rattle.office_base.specs.declared.step.Step.{Step}
use Rattle.placements.proofs.Greatest.{honoured-one}
use Rattle.choice_trials.specs.StepChoice.{IsAsGood, StandsAgainst}
use Rattle.choice_trials.specs.Sublists.{sublists_of}
use Rattle.choice_trials.proofs.EachSublist.{sublists_of-only, sublists_of-each}

module _ (step : Step) (set other : List Person) (number others_number : ℕ)
    (honours : IsHonoured step.protections set number) (other_honours : IsHonoured step.protections other others_number) where
  -- a set that honours as many is as good where it is no worse
  pub IsAsGood-from_no_worse : others_number ≡ number → IsNoWorse step.list set other → IsAsGood step set other
  IsAsGood-from_no_worse same no_worse = record {
    most = λ m n h k.
        let em = honoured-one _ _ m others_number h other_honours in
        let en = honoured-one _ _ n number k honours in
        omega arith;
    best = λ m h k. no_worse;
  }

  -- and only there
  pub IsNoWorse-from_as_good : others_number ≡ number → IsAsGood step set other → IsNoWorse step.list set other
  IsNoWorse-from_as_good same good = good.best number (subst (λ (n : ℕ). IsHonoured step.protections other n) same other_honours) honours

  -- a set that honours fewer is not as good
  pub honours_no_fewer : IsAsGood step set other → others_number ≤ number
  honours_no_fewer good = good.most others_number number other_honours honours

-- a set that holds against every set of the people is the choice
pub IsStepChoice-from_all : (step : Step) (set : List Person) → MayAdmit step set → All (StandsAgainst step set) (sublists_of step.people) → IsStepChoice step set
IsStepChoice-from_all step set may all =
    let each = sublists_of-each step.people (StandsAgainst step set) (recursion_from_All (StandsAgainst step set) (sublists_of step.people) all) in
    record {
      may = may;
      most = λ other m n admitted h k. (each other admitted.people admitted.seats).most m n h k;
      best = λ other m admitted h k. (each other admitted.people admitted.seats).best m h k;
    }

-- the choice holds against every set of the people
pub stands-from_choice : (step : Step) (set : List Person) → IsStepChoice step set → All (StandsAgainst step set) (sublists_of step.people)
stands-from_choice step set choice = All-weaker (λ other. IsSublist other step.people) (StandsAgainst step set)
    (λ other people seats.
    let admitted : MayAdmit step other = record { people = people; seats = seats } in
    record { most = λ m n h k. choice.most other m n admitted h k; best = λ m h k. choice.best other m admitted h k })
    (sublists_of step.people) (sublists_of-only step.people)

-- where no set of the people is the choice, no set is
pub none-from_sublists : (step : Step) → All (λ set. ¬ IsStepChoice step set) (sublists_of step.people) → (set : List Person) → ¬ IsStepChoice step set
none-from_sublists step none set choice =
    sublists_of-each step.people (λ other. ¬ IsStepChoice step other) (recursion_from_All (λ other. ¬ IsStepChoice step other) (sublists_of step.people) none) set choice.may.people choice
