use Rattle.std.proofs.Common.{length}
use Rattle.office_text.proofs.traits.+read_from.Given as goal

abbrev pub decreases-read_from : goal.decreases-read_from
decreases-read_from l = length l.allowed.now
