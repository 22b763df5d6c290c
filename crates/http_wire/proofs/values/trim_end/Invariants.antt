use Rattle.std.proofs.Common.{◌≡◌, length}
use Rattle.std.specs.Prelude.{reverse}
use Rattle.httparse.specs.Grammar.{skip_ows}
use Rattle.http_wire.proofs.values.trim_end.Given as goal

abbrev pub invariant-loop-kept : goal.invariant-loop-kept
invariant-loop-kept l = reverse (skip_ows (reverse l.kept)) ≡ reverse (skip_ows (reverse l.text))

abbrev pub decreases-loop-kept : goal.decreases-loop-kept
decreases-loop-kept l = length l.kept
