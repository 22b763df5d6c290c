use Rattle.std.proofs.Common.{◌≡◌, ◌+◌, ◌∷◌, ◌++◌}
use Rattle.dossier_file.specs.Due.{lists_due}
use Rattle.dossier_file.specs.declared.due.Due.TheVariants.{Round as RoundDue}
use Rattle.dossier_file.proofs.due.push_published.Given as goal

abbrev pub invariant-loop-prog : goal.invariant-loop-prog
invariant-loop-prog l = l.dues ≡ l.fn.dues ++ RoundDue (l.window + 1) ∷ lists_due (l.window + 1) l.prog
