use Rattle.std.proofs.Common.{◌≡◌, ◌≤◌, ◌+◌, length}
use Rattle.office_text.specs.Lines.{lines_of}
use Rattle.season_file.proofs.splitting.line_count.Given as goal

abbrev pub invariant-lines : goal.invariant-lines
invariant-lines l = record {
  value : length (lines_of l.fn.text) ≡ l.count + length (lines_of l.rest);
  within : l.count + length l.rest ≤ length l.fn.text;
}

abbrev pub decreases-lines : goal.decreases-lines
decreases-lines l = length l.rest
