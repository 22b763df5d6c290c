use Rattle.std.proofs.Common.{◌≡◌, ◌≤◌, ◌∷◌, ◌++◌, [], None, length, ap, sym, ◌∙◌, subst}
use Rattle.std.proofs.lemmas.Bool.{false≢true}
use Rattle.std.proofs.lemmas.List.{drop_all}
use Rattle.std.specs.Prelude.{find}
use Rattle.office_base.specs.SeatKinds.{all_seat_kinds}
use Rattle.office_base.specs.declared.seat.SeatKind.{SeatKind}
use Rattle.office_base.proofs.SeatKinds.{no_kind}
use Rattle.step_lines.specs.Lines.{seat_kind_name}
use Rattle.text_readers.specs.Parts.{is_prefix}
use Rattle.publish.proofs.pieces.begins_kind.Goals as goal

pub returns : goal.returns
returns c =
    let test = λ (kind : SeatKind). is_prefix c.args.piece.now (seat_kind_name kind ++ 10 ∷ []) in
    let past = subst (λ xs. length xs ≤ c.loop-kind.kind-index) c.loop-kind.invariant.rows c.loop-kind-test.false in
    let none : find test all_seat_kinds ≡ None = sym c.loop-kind.invariant.rest ∙ ap (find test) (drop_all c.loop-kind.kind-index all_seat_kinds past) in (
      λ t. absurd (false≢true t),
      λ b. absurd (false≢true (sym (no_kind test none b.0) ∙ b.1)),
    )
