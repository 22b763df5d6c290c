use Rattle.published_rounds.proofs.OutsideCutoffs as Refused
use Rattle.published_rounds.proofs.laws.refusals_are_outside.Goals as goal

pub returns : goal.returns
returns c = Refused.refusals_are_outside c.orderly.ensures c.choose_well.ensures c.cutoffs_decide_admissions.ensures c.lines_tell_cutoffs.ensures
