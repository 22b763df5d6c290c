use Rattle.std.proofs.Common.{◌≡◌, take}
use Rattle.std.specs.List.{filter}
use Rattle.programme_lists.specs.Programme.{is_of}
use Rattle.open_then_category.proofs.filters.members.Given as goal

abbrev pub invariant-loop-person : goal.invariant-loop-person
invariant-loop-person l = l.members ≡ filter (is_of l.category) (take l.person-index l.people)
