use Rattle.std.proofs.Common.{◌≡◌, drop, codes}
use Rattle.std.specs.List.{list_all}
use Rattle.http_wire.specs.Fields.{is_length_of}
use Rattle.http_wire.proofs.FieldsLemmas.{values_at}
use Rattle.http_wire.proofs.fields.Fields.all_spell.Given as goal

abbrev pub invariant-loop-span : goal.invariant-loop-span
invariant-loop-span l = list_all (is_length_of l.len) (values_at (codes "content-length") l.self.head.now (drop l.span-index l.self.spans.now)) ≡ list_all (is_length_of l.len) (values_at (codes "content-length") l.self.head.now l.self.spans.now)
