use Rattle.std.proofs.Common.{length, ◌+◌, ◌*◌}
use Rattle.door_crews.proofs.row.+row.Given as goal

abbrev pub decreases-work_all : goal.decreases-work_all
decreases-work_all g l = 3 * length l.doors.now

abbrev pub decreases-both : goal.decreases-both
decreases-both g l = 3 * length l.doors.now + 2

abbrev pub decreases-both-rest : goal.decreases-both-rest
decreases-both-rest g l = 3 * length l.doors.now + 1
