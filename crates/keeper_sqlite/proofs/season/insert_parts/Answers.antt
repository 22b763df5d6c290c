use Rattle.keeper_sqlite.proofs.ActLemmas.{acts_broken}
use Rattle.keeper_sqlite.proofs.StopLemmas.{part_stop, part_lost, parts_many}
use Rattle.std.proofs.Common.{◌≡◌, ◌∙◌, length, arith, rules}
use Rattle.std.proofs.lemmas.List.{nil_from_length}
use Rattle.keeper_sqlite.proofs.CallLemmas.{part_put, text_put}
use Rattle.keeper_sqlite.proofs.CommitLemmas.{nothing_then}
use Rattle.keeper_sqlite.proofs.season.insert_parts.Goals as goal

pub parts-preserved : goal.parts-preserved
parts-preserved g c = (
  c.insert_part.ensures.inside.0 ∙ c.parts.invariant.0,
  nothing_then _ _ _ c.parts.invariant.1 c.insert_part.ensures.inside.1,
  part_put g.S.Store c.args.insert.now.text c.args.text.now c.parts.rest.now c.split_at.result.0.now c.split_at.result.1.now c.parts.number c.in_ok-number.number c.args.tx.now.conn.now c.parts.tx.conn.now c.insert_part.new.tx.conn.now
      c.split_at.ensures.by_index.0 (omega (arith, c.split_at.ensures.front_len, c.min.ensures)) c.in_ok-number.ensures.ok c.insert_part.ensures.inside.1 c.parts.invariant.2 c.in_ok-insert_part.ensures.acts.done,
  part_stop g.S.Store c.args.insert.now.text c.args.text.now c.parts.rest.now c.split_at.result.0.now c.split_at.result.1.now c.parts.number c.in_ok-number.number c.args.tx.now.conn.now c.parts.tx.conn.now c.insert_part.new.tx.conn.now
      c.split_at.ensures.by_index.0 (omega (arith, c.split_at.ensures.front_len, c.min.ensures)) c.in_ok-number.ensures.ok c.insert_part.ensures.inside.1 c.parts.invariant.3 c.in_ok-insert_part.ensures.acts.done,
)

pub returns-clause-acts : goal.returns-clause-acts
returns-clause-acts g c = record {
  done = let none : length c.parts.rest.now ≡ 0 = search rules in
      text_put g.S.Store c.args.insert.now.text c.args.text.now c.parts.rest.now c.parts.number c.args.tx.now.conn.now c.parts.tx.conn.now (nil_from_length c.parts.rest.now none) c.parts.invariant.2;
  lost = λ _. tt;
}

pub returns-in_err-insert_part-clause-acts : goal.returns-in_err-insert_part-clause-acts
returns-in_err-insert_part-clause-acts g c = acts_broken g.S.Store _ _ c.from_residual.result _ c.from_residual.ensures.1 (λ clean. (part_lost g.S.Store c.args.insert.now.text c.args.text.now c.parts.rest.now c.split_at.result.0.now c.split_at.result.1.now c.parts.number _ c.args.tx.now.conn.now c.parts.tx.conn.now c.insert_part.new.tx.conn.now
    c.split_at.ensures.by_index.0 (omega (arith, c.split_at.ensures.front_len, c.min.ensures)) c.insert_part.ensures.inside.1 c.parts.invariant.3 clean (c.in_err-insert_part.ensures.acts.lost clean)))

pub returns-in_err-number-clause-acts : goal.returns-in_err-number-clause-acts
returns-in_err-number-clause-acts g c = acts_broken g.S.Store _ _ c.from_residual-in_err-number.result _ c.from_residual-in_err-number.ensures.1 (λ clean. (parts_many g.S.Store c.args.insert.now.text c.args.text.now c.parts.rest.now c.split_at.result.0.now c.split_at.result.1.now c.parts.number _ c.args.tx.now.conn.now c.parts.tx.conn.now c.insert_part.new.tx.conn.now
    c.split_at.ensures.by_index.0 (omega (arith, c.split_at.ensures.front_len, c.min.ensures)) c.insert_part.ensures.inside.1 c.parts.invariant.3 clean c.in_err-number.ensures.err))
