use Rattle.std.proofs.Common.{◌≡◌, ◌≤◌, length, take}
use Rattle.std.specs.List.{filter}
use Rattle.programme_lists.specs.Programme.{is_of}
use Rattle.open_then_category.proofs.kept_lists.count_members.Given as goal

abbrev pub invariant-loop-person : goal.invariant-loop-person
invariant-loop-person l = record {
  count : l.count ≡ length (filter (is_of l.category) (take l.person-index l.people));
  few : l.count ≤ l.person-index;
}
