use Rattle.std.proofs.Common.{◌≡◌, length, map, take}
use Rattle.step_command.specs.Sheet.{count_of}
use Rattle.step_command.proofs.sheet.protections_of.Given as goal

abbrev pub invariant-loop-t : goal.invariant-loop-t
invariant-loop-t l = record {
  size : length l.counts ≡ 6;
  made : take l.t l.counts ≡ map count_of (take l.t l.named);
}
