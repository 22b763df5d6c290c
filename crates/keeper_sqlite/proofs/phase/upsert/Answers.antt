use Rattle.keeper_sqlite.proofs.ActLemmas.{same_values}
use Rattle.keeper_sqlite.proofs.MeaningLemmas.{cuts_put}
use Rattle.keeper_sqlite.specs.Kept.{cuts_text, cuts_values}
use Rattle.keeper_sqlite.specs.Kept.Call.{Runs}
use Rattle.std.proofs.Common.{rules}
use Rattle.keeper_sqlite.proofs.phase.upsert.Goals as goal

pub returns-clause-acts : goal.returns-clause-acts
returns-clause-acts g c = same_values g.S.Store (Runs cuts_text) _ (cuts_values c.args.cuts) c.args.tx.now.conn c.perform_one.new.tx.conn c.perform_one.result (search rules) c.perform_one.ensures.acts

pub returns-clause-put : goal.returns-clause-put
returns-clause-put g c = λ strict clean has n stood.
    let acts = same_values g.S.Store (Runs cuts_text) _ (cuts_values c.args.cuts) c.args.tx.now.conn c.perform_one.new.tx.conn c.perform_one.result (search rules) c.perform_one.ensures.acts in
    cuts_put g.S.Store strict n c.args.cuts c.args.tx.now.conn.now c.perform_one.new.tx.conn.now c.perform_one.result (search rules) has stood acts.done clean
