use Rattle.std.proofs.Common.{◌≡◌}
use Rattle.dossier_file.specs.Due.{due}
use Rattle.dossier_file.proofs.due.due_texts.Given as goal

abbrev pub invariant-loop-window : goal.invariant-loop-window
invariant-loop-window l = l.dues ≡ due l.rounds l.programmes l.window
