use Rattle.programme_cutoffs.proofs.Reading
use Rattle.programme_cutoffs.proofs.laws.lists_are_kept.Goals as goal

pub returns : goal.returns
returns c = Reading.lists_are_kept c.steps_are_kept.ensures
