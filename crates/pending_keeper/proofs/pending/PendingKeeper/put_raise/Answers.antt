use Rattle.keeper_mem.specs.declared.batch.Put.TheVariants.{Raise}
use Rattle.pending_keeper.proofs.Putting.{put_waits}
use Rattle.pending_keeper.proofs.pending.PendingKeeper.put_raise.Goals as goal

pub returns : goal.returns
returns g c = put_waits g.K.Keeper.seen (Raise c.args.row) 0 c.args.self.now c.wait.new.self c.wait.result c.wait.ensures.keeper c.wait.ensures.ok c.wait.ensures.err c.wait.ensures.fault
