use Rattle.keeper_sqlite.proofs.ActLemmas.{acts_broken}
use Rattle.keeper_sqlite.proofs.StopLemmas.{season_unasked, season_acts}
use Rattle.keeper_sqlite.proofs.transactions.write_season.Goals as goal

pub returns-clause-acts : goal.returns-clause-acts
returns-clause-acts g c = season_acts g.S.Store c.args.text.now c.args.tx.now.conn c.expect_empty.new.tx.conn c.insert_text.new.tx.conn c.insert.new.tx.conn c.insert.result c.insert_text.ensures.inside.1 c.insert.ensures.inside.1
    c.in_ok-expect_empty.ensures.acts.done c.in_ok-insert_text.ensures.acts.done c.insert.ensures.acts

pub returns-in_err-expect_empty-clause-acts : goal.returns-in_err-expect_empty-clause-acts
returns-in_err-expect_empty-clause-acts g c = acts_broken g.S.Store _ _ c.from_residual.result _ c.from_residual.ensures.1 (λ clean. season_unasked g.S.Store c.args.text.now _ c.args.tx.now.conn.now c.expect_empty.new.tx.conn.now (c.in_err-expect_empty.ensures.acts.lost clean))
