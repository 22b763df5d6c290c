use Rattle.std.proofs.Common.{◌∙◌}
use Rattle.std.proofs.lemmas.Result.{on_ok_weaker}
use Rattle.reply_texts.proofs.LineLemmas.{state_more}
use Rattle.reply_texts.proofs.receipts.push_state.Goals as goal

pub returns : goal.returns
returns c =
    let line = state_more c.args.out.now c.push_numbered.new.out c.push_numbered-2.new.out c.push_numbered-3.new.out c.args.window c.args.rounds c.args.published c.in_ok-push_numbered.ensures
    c.in_ok-push_numbered-2.ensures c.in_ok-push_numbered-3.ensures in
    on_ok_weaker c.extend_from_slice.result (λ e. e ∙ line) c.extend_from_slice.ensures.ok
