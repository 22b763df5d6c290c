use Rattle.std.proofs.Common.{◌≡◌, ◌++◌}
use Rattle.reply_texts.specs.Replies.{letters_below}
use Rattle.reply_texts.proofs.register.push_traits.Given as goal

abbrev pub invariant-loop-t : goal.invariant-loop-t
invariant-loop-t l = l.out ≡ l.initial.out ++ letters_below l.traits l.t
