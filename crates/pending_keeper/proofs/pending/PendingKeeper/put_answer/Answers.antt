use Rattle.keeper_mem.specs.declared.batch.Put.TheVariants.{Answer}
use Rattle.pending_keeper.proofs.Putting.{put_waits}
use Rattle.pending_keeper.proofs.pending.PendingKeeper.put_answer.Goals as goal

pub returns-clause-put : goal.returns-clause-put
returns-clause-put g c = put_waits g.K.Keeper.seen (Answer c.args.row) 1 c.args.self.now c.wait.new.self c.wait.result c.wait.ensures.keeper c.wait.ensures.ok c.wait.ensures.err c.wait.ensures.fault
