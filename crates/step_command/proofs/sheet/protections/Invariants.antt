use Rattle.std.proofs.Common.{◌≡◌, ◌≤◌, ◌+◌, length}
use Rattle.step_command.specs.Reading.{AreNamed, rest_rows, rest_numbers}
use Rattle.step_command.specs.Sheet.{total}
use Rattle.step_command.proofs.sheet.protections.Given as goal

abbrev pub invariant-loop-at : goal.invariant-loop-at
invariant-loop-at l = record {
  read : AreNamed l.seats (rest_rows l.bytes) (rest_numbers l.number l.bytes) l.named (rest_rows l.rest) (rest_numbers l.next l.rest);
  seats : total l.named + l.left ≡ l.seats;
  size : length l.named ≡ 6;
  within : l.next + length l.rest ≤ l.number + length l.bytes;
}

abbrev pub decreases-loop-at : goal.decreases-loop-at
decreases-loop-at l = length l.rest
