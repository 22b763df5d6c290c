use Rattle.best_audit.proofs.OneBest.{best_exactly}
use Rattle.best_audit.proofs.laws.best_if_and_only_if.Goals as goal

pub returns : goal.returns
returns c = best_exactly
