use Rattle.std.proofs.Common.{take}
use Rattle.slot_matching.specs.Members.{IsWorstWithin}
use Rattle.slot_matching.proofs.members.worst_within.Given as goal

abbrev pub invariant-loop-member : goal.invariant-loop-member
invariant-loop-member l = IsWorstWithin l.list l.set (take l.member-index l.members) l.worst
