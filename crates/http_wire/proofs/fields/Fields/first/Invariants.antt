use Rattle.std.proofs.Common.{◌≡◌, drop}
use Rattle.http_wire.specs.Fields.{first_of}
use Rattle.http_wire.proofs.FieldsLemmas.{values_at}
use Rattle.http_wire.proofs.fields.Fields.first.Given as goal

abbrev pub invariant-loop-span : goal.invariant-loop-span
invariant-loop-span l = first_of (values_at l.name l.self.head.now (drop l.span-index l.self.spans.now)) ≡ first_of (values_at l.name l.self.head.now l.self.spans.now)
