use Rattle.std.proofs.Common.{refl}
use Rattle.choice_trials.proofs.Chosen.{chosen_ranked}
use Rattle.choice_trials.proofs.listing.list_of.Goals as goal

pub canonical-requires-clause-distinct : goal.canonical-requires-clause-distinct
canonical-requires-clause-distinct c =
    (chosen_ranked c.args.step.now c.in_ok-admitted.field-0 c.in-Some.admitted c.as_slice.result.now (c.if-not-is_step.ensures.0 refl) c.in-Some.is c.in_ok-admitted.ensures c.as_slice.ensures).distinct

pub canonical-requires-clause-traits : goal.canonical-requires-clause-traits
canonical-requires-clause-traits c =
    (chosen_ranked c.args.step.now c.in_ok-admitted.field-0 c.in-Some.admitted c.as_slice.result.now (c.if-not-is_step.ensures.0 refl) c.in-Some.is c.in_ok-admitted.ensures c.as_slice.ensures).traits
