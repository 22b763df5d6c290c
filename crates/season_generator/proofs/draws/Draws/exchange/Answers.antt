use Rattle.std.proofs.Common.{arith}
use Rattle.season_generator.proofs.DrawLemmas.{draws_end, draws_go_on, exchange_ends, exchange_goes_on}
use Rattle.season_generator.proofs.draws.Draws.exchange.Goals as goal

pub loop-last-preserved : goal.loop-last-preserved
loop-last-preserved c = record {
  within = omega arith;
  places = exchange_goes_on _ _ _ _ _ _ c.loop-last-test.true c.draw-other.ensures.state (rw c.draw-other.ensures.number at c.swap.ensures.after) c.loop-last.invariant.places;
  state = draws_go_on _ _ _ _ c.loop-last-test.true c.draw-other.ensures.state c.loop-last.invariant.state;
}

pub returns-clause-places : goal.returns-clause-places
returns-clause-places c = exchange_ends _ _ _ _ c.loop-last-test.false c.loop-last.invariant.places

pub returns-clause-state : goal.returns-clause-state
returns-clause-state c = draws_end _ _ _ c.loop-last-test.false c.loop-last.invariant.state
