use Rattle.published_rounds.proofs.OutsideCutoffs as Refused
use Rattle.published_rounds.proofs.laws.seats_are_the_first.Goals as goal

pub returns : goal.returns
returns c = Refused.seats_are_the_first c.orderly.ensures c.choose_well.ensures c.cutoffs_decide_steps.ensures c.cutoffs_decide_admissions.ensures c.lines_tell_cutoffs.ensures
    c.one_programme_choice.ensures
