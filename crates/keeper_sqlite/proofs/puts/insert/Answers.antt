use Rattle.std.proofs.Common.{[], ◌∷◌, subst, sym}
use Rattle.keeper_mem.specs.declared.batch.Put.{Put}
use Rattle.keeper_sqlite.specs.Inside.{Performs}
use Rattle.keeper_sqlite.specs.Kept.{answer_text, answer_values, raise_text, raise_values, put_call}
use Rattle.keeper_sqlite.proofs.PutLemmas.{did_alone}
use Rattle.keeper_sqlite.proofs.puts.insert.Goals as goal

pub returns-in-Answer-clause-acts : goal.returns-in-Answer-clause-acts
returns-in-Answer-clause-acts g c =
    subst (λ (put : Put). Performs g.S.Store (put_call put ∷ []) c.args.tx.now.conn c.insert.new.tx.conn c.insert.result) (sym c.in-Answer.is)
    (did_alone g.S.Store answer_text (answer_values c.in-Answer.row) c.args.tx.now.conn c.insert.new.tx.conn c.insert.result c.insert.ensures.acts)

pub returns-in-Raise-clause-acts : goal.returns-in-Raise-clause-acts
returns-in-Raise-clause-acts g c =
    subst (λ (put : Put). Performs g.S.Store (put_call put ∷ []) c.args.tx.now.conn c.insert-in-Raise.new.tx.conn c.insert-in-Raise.result) (sym c.in-Raise.is)
    (did_alone g.S.Store raise_text (raise_values c.in-Raise.row) c.args.tx.now.conn c.insert-in-Raise.new.tx.conn c.insert-in-Raise.result c.insert-in-Raise.ensures.acts)
