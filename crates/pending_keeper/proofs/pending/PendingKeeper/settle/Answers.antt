use Rattle.std.proofs.Common.{rules}
use Rattle.pending_keeper.proofs.Putting.{still_wait}
use Rattle.pending_keeper.proofs.pending.PendingKeeper.settle.Goals as goal

pub returns-in_err-put-clause-look : goal.returns-in_err-put-clause-look
returns-in_err-put-clause-look g c =
    rw (← c.self.view_is) (still_wait g.K.Keeper.seen c.self.inside.rows.items _ _ c.self.inside.keeper c.put_all-put.new.self c.put_all-put.result c.from_residual.result c.in_err-put.field-0.0 (search rules) (search rules) c.put_all-put.ensures (c.keeps_at_once.ensures.kept) (c.keeps_at_once-2.ensures.kept))
