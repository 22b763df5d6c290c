use Rattle.keeper_sqlite.proofs.MeaningLemmas.{tables_stand}
use Rattle.keeper_sqlite.proofs.tables.create.Goals as goal

pub returns-clause-stands : goal.returns-clause-stands
returns-clause-stands g c = λ strict clean has. tables_stand g.S.Store strict c.args.tx.now.conn.now c.perform.new.tx.conn.now c.perform.result has c.perform.ensures.acts.done clean
