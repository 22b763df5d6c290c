use Rattle.std.proofs.Common.{rules}
use Rattle.season_generator.proofs.RowLemmas.{range_goes_on}
use Rattle.season_generator.proofs.places.in_order.Goals as goal

pub loop-before-preserved : goal.loop-before-preserved
loop-before-preserved c = record {
  items = range_goes_on 1 c.loop-before.before _ _ c.loop-before.invariant.items c.in_ok-push.ensures.items;
  len = search rules;
}
