use Rattle.programme_laws.proofs.BetterOff as better
use Rattle.programme_laws.proofs.laws.being_better_off_never_hurts.Goals as goal

pub returns : goal.returns
returns c = better.being_better_off_never_hurts c.choice_exists.ensures c.leaving_out_refused.ensures
