use Rattle.std.proofs.Common.{◌≡◌, ◌++◌, suc, sym, ap, ◌∙◌, subst, append_assoc, add-one}
use Rattle.reply_texts.specs.Replies.{letter_if, letters_below}
use Rattle.reply_texts.proofs.register.push_traits.Goals as goal

pub loop-t-preserved : goal.loop-t-preserved
loop-t-preserved c =
    let traits = c.args.traits in
    let before = c.args.out.now in
    let t = c.loop-t.t in
    let next : c.push_letter.new.out ≡ before ++ letters_below traits (suc t) =
    c.in_ok-push_letter.ensures ∙ (ap (λ z. z ++ letter_if traits t) c.loop-t.invariant ∙ append_assoc before (letters_below traits t) (letter_if traits t)) in
    subst (λ n. c.push_letter.new.out ≡ before ++ letters_below traits n) (sym (add-one t)) next
