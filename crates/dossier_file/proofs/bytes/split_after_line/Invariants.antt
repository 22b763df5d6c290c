use Rattle.std.proofs.Common.{length}
use Rattle.dossier_file.proofs.EndLemmas.{IsPassed}
use Rattle.dossier_file.proofs.bytes.split_after_line.Given as goal

abbrev pub invariant-lines : goal.invariant-lines
invariant-lines l = IsPassed l.ending l.bytes l.rest

abbrev pub decreases-lines : goal.decreases-lines
decreases-lines l = length l.rest
