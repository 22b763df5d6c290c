use Rattle.std.proofs.Common.{arith}
use Rattle.std.proofs.lemmas.Result.{on_ok_weaker}
use Rattle.choice_trials.proofs.First.{HasFirst-nowhere, HasFirst-somewhere}
use Rattle.choice_trials.proofs.certifying.+push_first.Goals as goal

pub returns-in-None : goal.returns-in-None
returns-in-None t c = on_ok_weaker c.push_first.result (HasFirst-nowhere c.args.left c.args.people.now c.args.pairs.now c.push_first.new.pairs (omega arith) c.in-None.ensures.nowhere) c.push_first.ensures

pub returns-in_ok-push-in-Some : goal.returns-in_ok-push-in-Some
returns-in_ok-push-in-Some t c = on_ok_weaker c.push_first-in-Some.result
    (HasFirst-somewhere c.args.left c.in-Some.rest c.args.people.now _ c.in-Some.slot c.args.pairs.now c.push.new.self c.push_first-in-Some.new.pairs (omega arith)
    c.in-Some.ensures.first c.in-Some.ensures.rest c.in_ok-push-in-Some.ensures.ok)
    c.push_first-in-Some.ensures
