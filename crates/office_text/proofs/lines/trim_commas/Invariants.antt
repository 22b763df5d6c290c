use Rattle.std.proofs.Common.{◌≡◌, ◌≤◌, length}
use Rattle.office_text.specs.Lines.{trimmed}
use Rattle.office_text.proofs.lines.trim_commas.Given as goal

abbrev pub invariant-loop-kept : goal.invariant-loop-kept
invariant-loop-kept l = record {
  same : trimmed l.kept ≡ trimmed l.line;
  within : length l.kept ≤ length l.line;
}

abbrev pub decreases-loop-kept : goal.decreases-loop-kept
decreases-loop-kept l = length l.kept
