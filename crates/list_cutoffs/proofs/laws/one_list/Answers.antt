use Rattle.list_cutoffs.proofs.Joining
use Rattle.list_cutoffs.proofs.laws.one_list.Goals as goal

pub returns : goal.returns
returns c = Joining.one_list c.one_lines.ensures
