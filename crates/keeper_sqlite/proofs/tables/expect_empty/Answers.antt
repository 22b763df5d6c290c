use Rattle.keeper_sqlite.proofs.MeaningLemmas.{none_stand}
use Rattle.keeper_sqlite.proofs.tables.expect_empty.Goals as goal

pub returns-clause-none : goal.returns-clause-none
returns-clause-none g c = λ strict clean has. none_stand g.S.Store strict c.args.tx.now.conn.now c.perform.new.tx.conn.now c.perform.result has c.perform.ensures.acts.done clean
