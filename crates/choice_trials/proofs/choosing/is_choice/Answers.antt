use Rattle.std.proofs.Common.{◌≡◌, List, All, sym, subst, ap, ◌∙◌}
use Rattle.office_base.specs.Lists.{IsSublist}
use Rattle.office_base.specs.declared.person.Person.{Person}
use Rattle.choice_trials.specs.StepChoice.{StandsAgainst}
use Rattle.choice_trials.specs.Sublists.{sublists_of}
use Rattle.choice_trials.proofs.Against.{IsStepChoice-from_all, stands-from_choice}
use Rattle.choice_trials.proofs.EachSublist.{sublists_of-only}
use Rattle.choice_trials.proofs.choosing.is_choice.Goals as goal

pub stands_against_all-requires-clause-others : goal.stands_against_all-requires-clause-others
stands_against_all-requires-clause-others c =
    let e : c.deref.result.now ≡ sublists_of c.args.step.now.people = c.deref.ensures.value ∙ c.in_ok-others.ensures ∙ ap sublists_of c.as_slice.ensures in
    subst (λ (sets : List (List Person)). All (λ set. IsSublist set c.args.step.now.people) sets) (sym e) (sublists_of-only c.args.step.now.people)

pub returns : goal.returns
returns c =
    let e : c.deref.result.now ≡ sublists_of c.args.step.now.people = c.deref.ensures.value ∙ c.in_ok-others.ensures ∙ ap sublists_of c.as_slice.ensures in
    let StandAll : List (List Person) → Type 0 = λ sets. All (StandsAgainst c.args.step.now c.args.chosen.now) sets in (
      λ yes. IsStepChoice-from_all _ _ (c.may_admit.ensures.0 c.if-not-may_admit.false) (subst StandAll e (c.stands_against_all.ensures.0 yes)),
      λ choice. c.stands_against_all.ensures.1 (subst StandAll (sym e) (stands-from_choice _ _ choice)),
    )
