use Rattle.keeper_sqlite.proofs.ActLemmas.{same_values}
use Rattle.keeper_sqlite.proofs.MeaningLemmas.{phase_opened}
use Rattle.keeper_sqlite.specs.Kept.{opening_text, opening_values}
use Rattle.keeper_sqlite.specs.Kept.Call.{Places}
use Rattle.std.proofs.Common.{rules}
use Rattle.keeper_sqlite.proofs.phase.insert.Goals as goal

pub returns-clause-acts : goal.returns-clause-acts
returns-clause-acts g c = same_values g.S.Store (Places opening_text) _ (opening_values) c.args.tx.now.conn c.perform_one.new.tx.conn c.perform_one.result (search rules) c.perform_one.ensures.acts

pub returns-clause-put : goal.returns-clause-put
returns-clause-put g c = λ strict clean has.
    let acts = same_values g.S.Store (Places opening_text) _ (opening_values) c.args.tx.now.conn c.perform_one.new.tx.conn c.perform_one.result (search rules) c.perform_one.ensures.acts in
    phase_opened g.S.Store strict c.args.tx.now.conn.now c.perform_one.new.tx.conn.now c.perform_one.result has acts.done clean
