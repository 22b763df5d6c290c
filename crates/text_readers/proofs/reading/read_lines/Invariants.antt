use Rattle.std.proofs.Common.{◌≤◌, ◌+◌, length}
use Rattle.text_readers.proofs.ReadLemmas.{IsReadTo}
use Rattle.text_readers.proofs.reading.read_lines.Given as goal

abbrev pub invariant-loop-line : goal.invariant-loop-line
invariant-loop-line g l = record {
  read : IsReadTo (g.L.LineReader.grammar l.fn.lines) (g.L.LineReader.grammar l.lines) l.fn.text l.rest l.number;
  keeps : g.L.LineReader.keeps l.lines;
  few : l.number + g.L.LineReader.left l.lines ≤ 1 + g.L.LineReader.left l.fn.lines;
}

abbrev pub decreases-loop-line : goal.decreases-loop-line
decreases-loop-line g l = length l.rest
