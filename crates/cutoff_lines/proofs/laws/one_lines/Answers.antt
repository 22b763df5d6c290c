use Rattle.cutoff_lines.proofs.Single
use Rattle.cutoff_lines.proofs.laws.one_lines.Goals as goal

pub returns : goal.returns
returns c = Single.one_lines c.one_cutoff.ensures
