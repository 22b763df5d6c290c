use Rattle.keeper_sqlite.proofs.LookLemmas.{found_if}
use Rattle.keeper_sqlite.proofs.keeper.SqliteKeeperKeeper.has_season.Goals as goal

pub returns-clause-ok : goal.returns-clause-ok
returns-clause-ok g c =
    let new = c.look.new.self.connection in
    found_if g.S.Store c.args.self.now.connection new c.look.result (g.met.S.Store.shut_if_dirty new.store) c.look.ensures.stays c.look.ensures.found
