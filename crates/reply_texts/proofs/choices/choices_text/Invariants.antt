use Rattle.std.proofs.Common.{◌≡◌, ◌++◌, ◌<◌, drop, length, take}
use Rattle.std.specs.List.{AllByRecursion, flat_map}
use Rattle.reply_texts.specs.Replies.{choice_word}
use Rattle.reply_texts.proofs.choices.choices_text.Given as goal

abbrev pub invariant-loop-prog : goal.invariant-loop-prog
invariant-loop-prog l = record {
  written : l.out ≡ l.initial.out ++ flat_map (choice_word l.matrix) (take l.prog-index l.progs);
  programmes : AllByRecursion (λ prog. prog.0 < length l.matrix.programmes) (drop l.prog-index l.progs);
}
