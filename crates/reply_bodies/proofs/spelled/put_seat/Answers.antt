use Rattle.std.proofs.Common.{◌≡◌, ◌++◌, List, ℕ, codes, subst, ◌∙◌}
use Rattle.std.proofs.lemmas.Result.{on_ok_weaker}
use Rattle.serde_json.specs.Data.{string}
use Rattle.serde_json.specs.Written.{compact_text}
use Rattle.reply_bodies.proofs.Pieces.{same_count, seat_more}
use Rattle.reply_bodies.proofs.spelled.put_seat.Goals as goal

pub returns : goal.returns
returns c =
    let word = subst (λ (name : List ℕ). c.put_quoted.new.out ≡ (c.put_count-2.new.out ++ codes ",\"standing\":") ++ compact_text (string name)) (c.as_bytes.ensures.value ∙ c.standing_name.ensures) c.in_ok-put_quoted.ensures in
    let text = seat_more c.args.out.now c.put_count.new.out c.put_programme.new.out c.put_count-2.new.out c.put_quoted.new.out c.put_step.new.out c.args.matrix.now c.args.cand.0 c.args.round c.args.standing c.args.seat
    c.in_ok-put_count.ensures c.in_ok-put_programme.ensures (same_count _ _ _ _ c.from.ensures c.in_ok-put_count-2.ensures) word c.in_ok-put_step.ensures in
    on_ok_weaker c.extend_from_slice.result (λ e. e ∙ text) c.extend_from_slice.ensures.ok
