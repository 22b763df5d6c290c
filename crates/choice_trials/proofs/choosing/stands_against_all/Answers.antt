use Rattle.std.proofs.Common.{All, ◌∙◌, subst, refl, arith, take_all}
use Rattle.std.proofs.lemmas.List.Elements.{All-more}
use Rattle.choice_trials.specs.StepChoice.{StandsAgainst}
use Rattle.choice_trials.proofs.choosing.stands_against_all.Goals as goal

pub loop-other-preserved : goal.loop-other-preserved
loop-other-preserved c =
    let stands = c.stands_against.ensures.0 c.if-not-stands_against.false in
    All-more (StandsAgainst c.args.step.now c.args.set.now) c.args.others.now c.loop-other.other-index c.other-item.result (omega arith) c.loop-other.invariant
    (subst (StandsAgainst c.args.step.now c.args.set.now) (c.as_slice.ensures ∙ c.other-item.is) stands)

pub returns : goal.returns
returns c = (
  λ _. subst (All (StandsAgainst c.args.step.now c.args.set.now)) (take_all c.loop-other.other-index c.args.others.now (omega arith)) c.loop-other.invariant,
  λ _. refl,
)
