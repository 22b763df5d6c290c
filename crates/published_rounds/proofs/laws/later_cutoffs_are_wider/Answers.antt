use Rattle.published_rounds.proofs.LaterCutoffs as Later
use Rattle.published_rounds.proofs.laws.later_cutoffs_are_wider.Goals as goal

pub returns : goal.returns
returns c = Later.later_cutoffs_are_wider c.orderly.ensures c.choose_well.ensures c.grow.ensures c.who_meets_still_meets.ensures c.lines_tell_cutoffs.ensures c.one_programme_choice.ensures
