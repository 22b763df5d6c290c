use Rattle.std.proofs.Common.{◌∙◌}
use Rattle.std.proofs.lemmas.Result.{on_ok_weaker}
use Rattle.reply_bodies.proofs.Pieces.{same_count, state_more}
use Rattle.reply_bodies.proofs.spelled.put_state.Goals as goal

pub returns : goal.returns
returns c =
    let text = state_more c.args.out.now c.put_count.new.out c.put_count-2.new.out c.put_count-3.new.out c.args.now c.args.rounds c.args.published
    (same_count _ _ _ _ c.from.ensures c.in_ok-put_count.ensures) (same_count _ _ _ _ c.from-2.ensures c.in_ok-put_count-2.ensures) (same_count _ _ _ _ c.from-3.ensures c.in_ok-put_count-3.ensures) in
    on_ok_weaker c.extend_from_slice.result (λ e. e ∙ text) c.extend_from_slice.ensures.ok
