use Rattle.keeper_sqlite.proofs.ActLemmas.{acts_broken}
use Rattle.keeper_sqlite.proofs.CommitLemmas.{nothing_then, was_clean}
use Rattle.keeper_sqlite.proofs.LossLemmas.{made_none, order_below, cut_unordered, cut_unseated, cut_acts}
use Rattle.keeper_sqlite.proofs.StopLemmas.{stops_more, performs_then}
use Rattle.keeper_sqlite.specs.Inside.{Performs}
use Rattle.keeper_sqlite.specs.Kept.{allot_text, allot_calls, cuts_text, cuts_values}
use Rattle.keeper_sqlite.specs.Kept.Call.{Runs, Readies}
use Rattle.std.proofs.Common.{◌≡◌, ◌+◌, ℕ, [], ◌∷◌, inl, inr, refl, rules, subst}
use Rattle.keeper_sqlite.proofs.transactions.write_cut.Goals as goal

pub returns-in_err-made-clause-acts : goal.returns-in_err-made-clause-acts
returns-in_err-made-clause-acts g c = acts_broken g.S.Store _ _ c.from_residual-in_err-made.result _ c.from_residual-in_err-made.ensures.1
    (λ clean. inl (made_none g.S.Store c.in_ok-read.field-0 _ c.args.tx.now.conn.now c.read.new.tx.conn.now (search rules) (search rules) (c.in_ok-read.ensures.acts.done clean)))

pub returns-in_err-last_key-clause-acts : goal.returns-in_err-last_key-clause-acts
returns-in_err-last_key-clause-acts g c = acts_broken g.S.Store _ _ c.from_residual-in_err-last_key.result _ c.from_residual-in_err-last_key.ensures.1
    (λ clean. cut_unordered g.S.Store c.args.rows.now c.in_ok-made.made c.in_ok-read.field-0 _ c.args.tx.now.conn.now c.read.new.tx.conn.now c.last_key.new.tx.conn.now (search rules) c.last_key.ensures.inside.1 c.in_ok-read.ensures.acts.done clean (inl (c.in_err-last_key.ensures.acts.lost clean)))

pub returns-then-not-are_rising-clause-acts : goal.returns-then-not-are_rising-clause-acts
returns-then-not-are_rising-clause-acts g c = record {
  done = λ _. tt;
  lost = λ clean. cut_unordered g.S.Store c.args.rows.now c.in_ok-made.made c.in_ok-read.field-0 _ c.args.tx.now.conn.now c.read.new.tx.conn.now c.last_key.new.tx.conn.now (search rules) c.last_key.ensures.inside.1 c.in_ok-read.ensures.acts.done clean
      (order_below g.S.Store c.args.rows.now c.in_ok-last_key.field-0 _ _ (search rules) (c.in_ok-last_key.ensures.acts.done clean));
}

pub returns-in_err-cuts-clause-acts : goal.returns-in_err-cuts-clause-acts
returns-in_err-cuts-clause-acts g c = acts_broken g.S.Store _ _ c.from_residual-in_err-cuts.result _ c.from_residual-in_err-cuts.ensures.1
    (λ clean. cut_unseated g.S.Store c.args.rows.now c.in_ok-made.made c.in_ok-read.field-0 c.in_ok-last_key.field-0 _ c.args.tx.now.conn.now c.read.new.tx.conn.now c.last_key.new.tx.conn.now c.last_key.new.tx.conn.now (search rules) (search rules) c.last_key.ensures.inside.1
    c.in_ok-read.ensures.acts.done c.in_ok-last_key.ensures.acts.done clean (inl (search rules, search rules, refl)))

pub returns-in_err-insert_all-clause-acts : goal.returns-in_err-insert_all-clause-acts
returns-in_err-insert_all-clause-acts g c = acts_broken g.S.Store _ _ c.from_residual-in_err-insert_all.result _ c.from_residual-in_err-insert_all.ensures.1
    (λ clean. cut_unseated g.S.Store c.args.rows.now c.in_ok-made.made c.in_ok-read.field-0 c.in_ok-last_key.field-0 _ c.args.tx.now.conn.now c.read.new.tx.conn.now c.last_key.new.tx.conn.now c.insert_all.new.tx.conn.now (search rules) (search rules) c.last_key.ensures.inside.1
    c.in_ok-read.ensures.acts.done c.in_ok-last_key.ensures.acts.done (was_clean c.insert_all.ensures.inside.1 clean)
    (inr (stops_more g.S.Store (Readies allot_text ∷ allot_calls allot_text c.args.rows.now) (Runs cuts_text (cuts_values (c.in_ok-made.made + 1)) ∷ []) _ c.last_key.new.tx.conn.now c.insert_all.new.tx.conn.now (c.in_err-insert_all.ensures.acts.lost clean))))

pub returns-clause-acts : goal.returns-clause-acts
returns-clause-acts g c =
    let more : c.in_ok-cuts.cuts ≡ c.in_ok-made.made + 1 = search rules in
    let two = c.last_key.new.tx.conn in
    let written = subst (λ (cuts : ℕ). Performs g.S.Store (Runs cuts_text (cuts_values cuts) ∷ []) c.insert_all.new.tx.conn c.upsert.new.tx.conn c.upsert.result) more c.upsert.ensures.acts in
    cut_acts g.S.Store c.args.rows.now c.in_ok-made.made c.in_ok-read.field-0 c.in_ok-last_key.field-0 c.args.tx.now.conn c.read.new.tx.conn two c.upsert.new.tx.conn c.upsert.result (search rules) (search rules) c.last_key.ensures.inside.1
    (nothing_then _ _ _ c.insert_all.ensures.inside.1 c.upsert.ensures.inside.1) c.in_ok-read.ensures.acts.done c.in_ok-last_key.ensures.acts.done c.in_ok-insert_all.ensures.fit (search rules)
    (performs_then g.S.Store (Readies allot_text ∷ allot_calls allot_text c.args.rows.now) (Runs cuts_text (cuts_values (c.in_ok-made.made + 1)) ∷ []) two c.insert_all.new.tx.conn c.upsert.new.tx.conn c.upsert.result c.upsert.ensures.inside.1 c.in_ok-insert_all.ensures.acts.done written)
