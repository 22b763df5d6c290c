use Rattle.best_audit.proofs.OneBest.{one_best}
use Rattle.best_audit.proofs.laws.one_best_verdict.Goals as goal

pub returns : goal.returns
returns c = one_best
