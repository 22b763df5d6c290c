use Rattle.std.proofs.Common.{◌≡◌, ◌≤◌, drop, length}
use Rattle.dossier_file.specs.Split.{BeginsLine}
use Rattle.dossier_file.proofs.SplitLemmas.{NoTitle}
use Rattle.dossier_file.proofs.splitting.find_title.Given as goal

abbrev pub invariant-lines : goal.invariant-lines
invariant-lines l = record {
  rest : l.rest ≡ drop l.at l.fn.text;
  within : l.at ≤ length l.fn.text;
  begins : BeginsLine l.fn.text l.at;
  none : NoTitle l.fn.name l.fn.text l.at;
}

abbrev pub decreases-lines : goal.decreases-lines
decreases-lines l = length l.rest
