use Rattle.std.proofs.Common.{ap, sym, subst, ◌∙◌, ◌+◌, ◌∷◌, ◌++◌, [], Some, arith}
use Rattle.atomic_table.specs.Table.{opening}
use Rattle.office_desk.specs.Turning.{InTurn, whole_view}
use Rattle.office_desk.proofs.Ending.{opens}
use Rattle.office_desk.proofs.handles.Desk.begin.Goals as goal

pub new-requires : goal.new-requires
new-requires g c =
    let about = c.of-about.result in
    let n = c.last_number-first.result + 1 in
    let last = c.last_number-first.ensures.last in
    let small = c.requires in
    let items = c.push_reserved.ensures.items ∙ ap (λ l. l ++ Some c.args.value ∷ []) c.in-Ok.ensures.items in
    subst (λ l. InTurn g.V.Booked.basis g.V.Booked.entries g.V.Booked.number g.V.Booked.count g.V.Keeps.kept about (opening (n ∷ n ∷ []) l (whole_view g.V.Booked.entries g.V.Booked.count g.V.Keeps.kept about))) (sym items)
    (opens g.V.Booked.basis g.V.Booked.entries g.V.Booked.number g.V.Booked.count g.V.Keeps.kept about c.args.value n c.of-about.ensures (ap (λ k. k + 1) last) (omega (arith, last, small)) c.last_number-first.ensures.rising)
