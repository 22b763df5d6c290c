use Rattle.special_command.specs.Texts.{special_text}
use Rattle.special_command.proofs.Listed.{AreFirst}
use Rattle.special_command.proofs.lists.with_lists.Given as goal

abbrev pub invariant-loop-prog : goal.invariant-loop-prog
invariant-loop-prog l = AreFirst l.special.season.matrix l.special.round l.prog (special_text l.special) l.out
