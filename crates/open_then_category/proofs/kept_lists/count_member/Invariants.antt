use Rattle.std.proofs.Common.{◌≡◌, ◌<◌, ◌++◌, drop, length, take}
use Rattle.std.specs.List.{AllByRecursion}
use Rattle.open_then_category.specs.Tried.{with_member}
use Rattle.open_then_category.proofs.kept_lists.count_member.Given as goal

abbrev pub invariant-loop-i : goal.invariant-loop-i
invariant-loop-i l = record {
  size : length l.members ≡ length l.rows;
  few : AllByRecursion (λ count. count < 4294967295) (drop l.i l.members);
  whole : take l.i l.members ++ with_member l.person (drop l.i l.rows) (drop l.i l.members) ≡ with_member l.person l.rows l.fn.members;
}
