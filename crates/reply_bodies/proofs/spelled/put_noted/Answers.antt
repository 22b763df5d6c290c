use Rattle.std.proofs.Common.{◌≡◌, ◌++◌, List, ℕ, codes, subst, ◌∙◌}
use Rattle.std.proofs.lemmas.Result.{on_ok_weaker}
use Rattle.serde_json.specs.Data.{string}
use Rattle.serde_json.specs.Written.{compact_text}
use Rattle.reply_bodies.proofs.Pieces.{noted_more, same_count}
use Rattle.reply_bodies.proofs.spelled.put_noted.Goals as goal

pub returns : goal.returns
returns c =
    let word = subst (λ (name : List ℕ). c.put_quoted.new.out ≡ (c.put_count.new.out ++ codes ",\"choice\":") ++ compact_text (string name)) (c.as_bytes.ensures.value ∙ c.choice_name.ensures) c.in_ok-put_quoted.ensures in
    let text = noted_more c.args.out.now c.put_count.new.out c.put_quoted.new.out c.put_count-2.new.out c.put_count-3.new.out c.args.cand.0 c.args.window c.args.turn c.args.choice
    c.in_ok-put_count.ensures word (same_count _ _ _ _ c.from.ensures c.in_ok-put_count-2.ensures) (same_count _ _ _ _ c.from-2.ensures c.in_ok-put_count-3.ensures) in
    on_ok_weaker c.extend_from_slice.result (λ e. e ∙ text) c.extend_from_slice.ensures.ok
