use Rattle.cutoff_lines.proofs.Building
use Rattle.cutoff_lines.proofs.laws.lines_exist.Goals as goal

pub returns : goal.returns
returns c = Building.lines_exist c.cutoff_exists.ensures c.more_traits_widen.ensures
