use Rattle.std.proofs.Common.{◌≡◌, List, All, map-id, sym, ap, ◌∙◌, subst, arith}
use Rattle.std.proofs.lemmas.Iterator.Consumers.{YieldsList-end}
use Rattle.std.proofs.lemmas.Iterator.Adapters.{YieldsList-from_vec}
use Rattle.office_base.specs.StepChoice.{IsStepChoice}
use Rattle.office_base.specs.declared.person.Person.{Person}
use Rattle.choice_trials.specs.Sublists.{sublists_of}
use Rattle.choice_trials.proofs.Against.{none-from_sublists}
use Rattle.choice_trials.proofs.choosing.choice.Goals as goal

pub returns : goal.returns
returns c =
    let sets = c.in_ok-set-items.set-items in
    let ended = YieldsList-end (YieldsList-from_vec sets.items c.into_iter-set-iterator.ensures.into_iter_gives.0 (omega (arith, c.into_iter-set-iterator.ensures.into_iter_gives.1)))
    c.loop-set.yielded _ c.loop-set.yielded_by c.next.result c.next.new.self c.in-None.is c.next.ensures.steps in
    let all : c.loop-set.yielded ≡ sublists_of c.args.step.now.people = sym (map-id c.loop-set.yielded) ∙ ended.0 ∙ c.in_ok-set-items.ensures ∙ ap sublists_of c.as_slice.ensures in
    none-from_sublists c.args.step.now (subst (λ (l : List (List Person)). All (λ set. ¬ IsStepChoice c.args.step.now set) l) all c.loop-set.invariant)
