use Rattle.std.proofs.Common.{◌≡◌, ◌≤◌, ◌+◌, length, drop}
use Rattle.std.specs.BTreeSet.{contains}
use Rattle.std.specs.Ordering.{nat_cmp}
use Rattle.step_command.specs.Reading.{AreRead, rest_rows, rest_numbers}
use Rattle.step_command.proofs.sheet.candidates.Given as goal

abbrev pub invariant-loop-at : goal.invariant-loop-at
invariant-loop-at l = record {
  read : AreRead (rest_rows l.bytes) l.people (contains nat_cmp l.known);
  left : drop (length l.people) (rest_rows l.bytes) ≡ rest_rows l.rest;
  numbers : drop (length l.people) (rest_numbers l.number l.bytes) ≡ rest_numbers l.next l.rest;
  within : l.next + length l.rest ≤ l.number + length l.bytes;
}

abbrev pub decreases-loop-at : goal.decreases-loop-at
decreases-loop-at l = length l.rest
