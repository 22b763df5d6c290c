use Rattle.std.proofs.Common.{map}
use Rattle.command_words.proofs.Lines.{IsDone}
use Rattle.command_words.proofs.words.line_of.Given as goal

abbrev pub invariant-loop-at : goal.invariant-loop-at
invariant-loop-at l = IsDone l.words (map (λ word. word.now) l.line.items) l.at
