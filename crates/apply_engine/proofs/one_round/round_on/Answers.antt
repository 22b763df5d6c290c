use Rattle.std.proofs.Common.{◌+◌, ◌∙◌, ap}
use Rattle.std.proofs.lemmas.Result.{IfOk-weaker}
use Rattle.apply_engine.proofs.one_round.round_on.Goals as goal

pub returns-clause-counted : goal.returns-clause-counted
returns-clause-counted g c = IfOk-weaker c.finish.result _ _ (λ round all. c.in_ok-applied.ensures.counted ∙ ap (λ n. c.args.steps.now + n) all) c.finish.ensures.counted
