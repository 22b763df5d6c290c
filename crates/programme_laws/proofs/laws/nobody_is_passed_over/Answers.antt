use Rattle.programme_laws.proofs.PassedOver as passed
use Rattle.programme_laws.proofs.laws.nobody_is_passed_over.Goals as goal

pub returns : goal.returns
returns c = passed.nobody_is_passed_over c.in_merit_ranks.ensures c.nobody_passed_over.ensures
