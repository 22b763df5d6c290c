use Rattle.keeper_sqlite.proofs.LookLemmas.{loaded_if}
use Rattle.keeper_sqlite.proofs.keeper.SqliteKeeperKeeper.load.Goals as goal

pub returns-clause-ok : goal.returns-clause-ok
returns-clause-ok g c =
    let new = c.look.new.self.connection in
    loaded_if g.S.Store c.args.self.now.connection new c.look.result (g.met.S.Store.shut_if_dirty new.store) c.look.ensures.stays c.look.ensures.found
