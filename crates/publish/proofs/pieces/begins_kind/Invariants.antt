use Rattle.std.proofs.Common.{◌≡◌, ◌∷◌, ◌++◌, [], drop}
use Rattle.std.specs.Prelude.{find}
use Rattle.office_base.specs.SeatKinds.{all_seat_kinds}
use Rattle.step_lines.specs.Lines.{seat_kind_name}
use Rattle.text_readers.specs.Parts.{is_prefix}
use Rattle.publish.proofs.pieces.begins_kind.Given as goal

abbrev pub invariant-loop-kind : goal.invariant-loop-kind
invariant-loop-kind l = record {
  rows : l.kind-items ≡ all_seat_kinds;
  rest : find (λ kind. is_prefix l.piece (seat_kind_name kind ++ 10 ∷ [])) (drop l.kind-index all_seat_kinds) ≡ find (λ kind. is_prefix l.piece (seat_kind_name kind ++ 10 ∷ [])) all_seat_kinds;
}
