use Rattle.keeper_sqlite.proofs.StopLemmas.{text_acts}
use Rattle.keeper_sqlite.proofs.season.insert_text.Goals as goal

pub returns-clause-acts : goal.returns-clause-acts
returns-clause-acts g c = text_acts g.S.Store _ c.args.text.now c.args.tx.now.conn c.make_ready.new.tx.conn c.insert_parts.new.tx.conn c.insert_parts.result c.insert_parts.ensures.inside.1 c.in_ok-insert.ensures.acts.done c.insert_parts.ensures.acts
