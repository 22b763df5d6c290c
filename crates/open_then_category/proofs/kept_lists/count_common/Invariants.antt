use Rattle.std.proofs.Common.{◌≡◌, ◌≤◌, length, take}
use Rattle.std.specs.List.{filter}
use Rattle.office_base.specs.Person.{is_common}
use Rattle.open_then_category.proofs.kept_lists.count_common.Given as goal

abbrev pub invariant-loop-person : goal.invariant-loop-person
invariant-loop-person l = record {
  count : l.count ≡ length (filter (is_common l.list) (take l.person-index l.people));
  few : l.count ≤ l.person-index;
}
