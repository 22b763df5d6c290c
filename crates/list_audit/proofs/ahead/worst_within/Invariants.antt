use Rattle.std.proofs.Common.{take}
use Rattle.list_audit.specs.Reckoning.{IsWorstWithin}
use Rattle.list_audit.proofs.ahead.worst_within.Given as goal

abbrev pub invariant-loop-member : goal.invariant-loop-member
invariant-loop-member l = IsWorstWithin l.list l.set (take l.member-index l.members) l.worst
