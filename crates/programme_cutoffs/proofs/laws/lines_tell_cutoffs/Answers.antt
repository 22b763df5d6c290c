use Rattle.programme_cutoffs.proofs.Reading
use Rattle.programme_cutoffs.proofs.laws.lines_tell_cutoffs.Goals as goal

pub returns : goal.returns
returns c = Reading.lines_tell_cutoffs c.one_cutoff.ensures c.steps_are_kept.ensures
