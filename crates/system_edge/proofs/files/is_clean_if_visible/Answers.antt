use Rattle.system_edge.proofs.Opened.{told_clean}
use Rattle.system_edge.proofs.files.is_clean_if_visible.Goals as goal

pub returns : goal.returns
returns g c = told_clean g.A.Store c.args.keeper.now.connection (g.met.A.Store.shut_if_dirty c.args.keeper.now.connection.store)
