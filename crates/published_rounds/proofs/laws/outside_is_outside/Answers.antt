use Rattle.published_rounds.proofs.Newcomers as Newcomers
use Rattle.published_rounds.proofs.laws.outside_is_outside.Goals as goal

pub returns : goal.returns
returns c = Newcomers.outside_is_outside c.orderly.ensures c.choose_well.ensures c.admit_no_fewer.ensures c.cutoffs_decide_admissions.ensures c.lines_tell_cutoffs.ensures
