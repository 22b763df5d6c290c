use Rattle.std.proofs.Common.{◌≡◌, ◌≤◌, ◌+◌, length}
use Rattle.text_readers.specs.Reading.{lines_in}
use Rattle.dossier_file.proofs.bytes.line_count.Given as goal

abbrev pub invariant-lines : goal.invariant-lines
invariant-lines l = record {
  value : lines_in l.fn.bytes ≡ l.count + lines_in l.rest;
  within : l.count + length l.rest ≤ length l.fn.bytes;
}

abbrev pub decreases-lines : goal.decreases-lines
decreases-lines l = length l.rest
