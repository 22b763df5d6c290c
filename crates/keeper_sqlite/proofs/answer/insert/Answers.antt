use Rattle.keeper_sqlite.proofs.ActLemmas.{same_values}
use Rattle.keeper_sqlite.proofs.MeaningLemmas.{ran_alone, answer_put}
use Rattle.keeper_sqlite.specs.Kept.{answer_text, answer_values}
use Rattle.keeper_sqlite.specs.Kept.Call.{Runs}
use Rattle.std.proofs.Common.{rules}
use Rattle.keeper_sqlite.proofs.answer.insert.Goals as goal

pub returns-clause-acts : goal.returns-clause-acts
returns-clause-acts g c =
    let acts = same_values g.S.Store (Runs answer_text) _ (answer_values c.args.row) c.args.tx.now.conn c.perform_one.new.tx.conn c.perform_one.result (search rules) c.perform_one.ensures.acts in
    record { done = ran_alone g.S.Store answer_text (answer_values c.args.row) c.args.tx.now.conn.now c.perform_one.new.tx.conn.now c.perform_one.result acts.done; lost = acts.lost }

pub returns-clause-put : goal.returns-clause-put
returns-clause-put g c = λ strict clean has.
    let acts = same_values g.S.Store (Runs answer_text) _ (answer_values c.args.row) c.args.tx.now.conn c.perform_one.new.tx.conn c.perform_one.result (search rules) c.perform_one.ensures.acts in
    answer_put g.S.Store strict c.args.row c.args.tx.now.conn.now c.perform_one.new.tx.conn.now c.perform_one.result (record { window = search rules; cand = search rules; turn = search rules }) has acts.done clean
