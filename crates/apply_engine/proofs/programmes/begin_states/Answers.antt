use Rattle.std.proofs.Common.{arith}
use Rattle.apply_engine.proofs.Pushing.{begun_all, begun_more, begun_none}
use Rattle.apply_engine.proofs.programmes.begin_states.Goals as goal

pub loop-prog-init : goal.loop-prog-init
loop-prog-init c = begun_none _ _ _ c.in_ok-states.ensures.items

pub loop-prog-preserved : goal.loop-prog-preserved
loop-prog-preserved c = begun_more _ _ _ _ _ _ c.loop-prog.invariant c.in_ok-push.ensures.items c.in_ok-state.ensures

pub returns : goal.returns
returns c = begun_all _ _ _ _ c.loop-prog.invariant (omega (arith, c.loop-prog-test.false, c.loop-prog.auto.prog-end, c.count-count.ensures.count))
