use Rattle.std.proofs.Common.{arith}
use Rattle.keeper_mem.proofs.BatchLemmas.{put_next}
use Rattle.keeper_mem.proofs.memory.push_all.Goals as goal

pub loop-row-preserved : goal.loop-row-preserved
loop-row-preserved c = record {
  tables = λ text allots cuts. put_next c.args.rows.now c.loop-row.row-index _ _ _ _ c.loop-row-test.true (c.push_one.ensures.tables text allots cuts) (c.loop-row.invariant.tables text allots cuts);
  room = omega (arith, c.loop-row.invariant.room, c.push_one.ensures.more, c.push_one.ensures.capacity);
  raise_room = omega (arith, c.loop-row.invariant.raise_room, c.push_one.ensures.more_raises, c.push_one.ensures.raise_capacity);
  more = omega (arith, c.loop-row.invariant.more, c.push_one.ensures.more);
  capacity = omega (arith, c.loop-row.invariant.capacity, c.push_one.ensures.capacity);
}
