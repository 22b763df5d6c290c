use Rattle.std.proofs.Common.{◌∙◌}
use Rattle.std.proofs.lemmas.Result.{on_ok_weaker}
use Rattle.reply_bodies.proofs.Pieces.{string_put}
use Rattle.reply_bodies.proofs.spelled.put_quoted.Goals as goal

pub returns : goal.returns
returns c =
    let text = string_put c.args.out.now c.args.before.now c.args.code.now c.extend_from_slice.new.self c.extend_from_slice-2.new.self c.extend_from_slice-3.new.self c.requires
    c.in_ok-extend_from_slice.ensures.ok c.in_ok-extend_from_slice-2.ensures.ok c.in_ok-extend_from_slice-3.ensures.ok in
    on_ok_weaker c.extend_from_slice-4.result (λ e. e ∙ text) c.extend_from_slice-4.ensures.ok
