use Rattle.keeper_sqlite.proofs.ActLemmas.{same_values}
use Rattle.keeper_sqlite.proofs.MeaningLemmas.{part_put_in}
use Rattle.keeper_sqlite.specs.Kept.{part_values}
use Rattle.keeper_sqlite.specs.Kept.Call.{Runs}
use Rattle.std.proofs.Common.{rules}
use Rattle.keeper_sqlite.proofs.season.insert_part.Goals as goal

pub returns-clause-acts : goal.returns-clause-acts
returns-clause-acts g c = same_values g.S.Store (Runs c.args.insert.now.text) _ (part_values c.args.number c.args.part.now) c.args.tx.now.conn c.run_ready.new.tx.conn c.run_ready.result (search rules) c.run_ready.ensures.acts

pub returns-clause-put : goal.returns-clause-put
returns-clause-put g c = λ strict clean has is.
    let acts = same_values g.S.Store (Runs c.args.insert.now.text) _ (part_values c.args.number c.args.part.now) c.args.tx.now.conn c.run_ready.new.tx.conn c.run_ready.result (search rules) c.run_ready.ensures.acts in
    part_put_in g.S.Store strict c.args.insert.now.text c.args.number c.args.part.now c.args.tx.now.conn.now c.run_ready.new.tx.conn.now c.run_ready.result is has acts.done clean
