use Rattle.std.proofs.Common.{◌≡◌, drop, codes}
use Rattle.std.specs.List.{list_any}
use Rattle.http_wire.specs.Fields.{lists_close}
use Rattle.http_wire.proofs.FieldsLemmas.{values_at}
use Rattle.http_wire.proofs.fields.Fields.lists_close.Given as goal

abbrev pub invariant-loop-span : goal.invariant-loop-span
invariant-loop-span l = list_any lists_close (values_at (codes "connection") l.self.head.now (drop l.span-index l.self.spans.now)) ≡ list_any lists_close (values_at (codes "connection") l.self.head.now l.self.spans.now)
