use Rattle.std.proofs.Common.{◌∙◌}
use Rattle.std.proofs.lemmas.Result.{on_ok_weaker}
use Rattle.reply_texts.proofs.LineLemmas.{final_more}
use Rattle.reply_texts.proofs.receipts.push_final.Goals as goal

pub returns : goal.returns
returns c =
    on_ok_weaker c.extend_from_slice.result (λ e. e ∙ final_more c.args.out.now c.push_numbered.new.out c.args.admitted c.in_ok-push_numbered.ensures) c.extend_from_slice.ensures.ok
