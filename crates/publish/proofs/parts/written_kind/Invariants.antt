use Rattle.std.proofs.Common.{◌≡◌, drop}
use Rattle.std.specs.Prelude.{bytes_eq, find}
use Rattle.office_base.specs.SeatKinds.{all_seat_kinds}
use Rattle.step_lines.specs.Lines.{seat_kind_name}
use Rattle.publish.specs.Rows.{written_kind}
use Rattle.publish.proofs.parts.written_kind.Given as goal

abbrev pub invariant-loop-kind : goal.invariant-loop-kind
invariant-loop-kind l = record {
  rows : l.kind-items ≡ all_seat_kinds;
  rest : find (λ kind. bytes_eq l.text (seat_kind_name kind)) (drop l.kind-index all_seat_kinds) ≡ written_kind l.text;
}
