use Rattle.std.proofs.Common.{◌≡◌, ◌≤◌, ◌+◌, length}
use Rattle.step_command.specs.Reading.{rest_rows, rest_numbers}
use Rattle.step_command.proofs.row.row_or_end.Given as goal

abbrev pub invariant-loop-line : goal.invariant-loop-line
invariant-loop-line l = record {
  rows : rest_rows l.rest ≡ rest_rows l.bytes;
  numbers : rest_numbers l.at l.rest ≡ rest_numbers l.number l.bytes;
  within : l.at + length l.rest ≤ l.number + length l.bytes;
  shorter : length l.rest ≤ length l.bytes;
}

abbrev pub decreases-loop-line : goal.decreases-loop-line
decreases-loop-line l = length l.rest
