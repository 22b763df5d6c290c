use Rattle.std.proofs.Common.{◌≡◌, take}
use Rattle.std.specs.List.{filter}
use Rattle.office_base.specs.Person.{is_common}
use Rattle.dereserve.proofs.people.commons.Given as goal

abbrev pub invariant-loop-person : goal.invariant-loop-person
invariant-loop-person l = l.commons ≡ filter (is_common l.list) (take l.person-index l.people)
