use Rattle.std.proofs.Common.{◌≡◌, ◌++◌, take}
use Rattle.std.specs.List.{flat_map}
use Rattle.reply_texts.specs.Replies.{cutoff_line}
use Rattle.reply_texts.proofs.cutoffs.cutoffs_text.Given as goal

abbrev pub invariant-loop-line : goal.invariant-loop-line
invariant-loop-line l = l.out ≡ l.initial.out ++ flat_map cutoff_line (take l.line-index l.lines)
