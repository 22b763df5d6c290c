-- The values of the fields of one name, one field after another.
use Rattle.std.proofs.Common.{ℕ, List, [], map}
use Rattle.httparse.specs.Spans.{header_bytes}
use Rattle.httparse.specs.declared.spans.HeaderSpan.{HeaderSpan}
use Rattle.http_wire.specs.Fields.{values}

-- the values of the fields at those places
abbrev pub values_at : List ℕ → List ℕ → List HeaderSpan → List (List ℕ)
values_at name head spans = values name (map (header_bytes head) spans)
