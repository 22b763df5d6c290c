use Rattle.list_cutoffs.proofs.Joining
use Rattle.list_cutoffs.proofs.laws.cutoffs_exist.Goals as goal

pub returns : goal.returns
returns c = Joining.cutoffs_exist c.lines_exist.ensures
