use Rattle.std.proofs.Common.{List, Option, [], subst}
use Rattle.std.proofs.lemmas.List.{drop_all, drop_more}
use Rattle.kept_rows.specs.declared.rows.AllotRow.{AllotRow}
use Rattle.replays.specs.Differences.{IsStranger}
use Rattle.replays.proofs.Seats.{outside_none, outside_some}
use Rattle.replays.proofs.compare.difference_outside.Goals as goal

pub loop-row-preserved : goal.loop-row-preserved
loop-row-preserved c =
    c.next_stranger-best.ensures c.args.rows.now _ (subst (λ rest. IsStranger c.args.number c.args.register.now.people c.args.rows.now rest c.loop-row.best) (drop_more c.args.rows.now c.loop-row.row-index _ c.loop-row-test.true) c.loop-row.invariant)

pub returns-in_err-row : goal.returns-in_err-row
returns-in_err-row c =
    let rows = c.args.rows.now in
    let first = subst (λ (rest : List AllotRow). IsStranger c.args.number c.args.register.now.people rows rest c.loop-row.best) (drop_all c.loop-row.row-index rows c.loop-row-test.false) c.loop-row.invariant in
    rw c.from_residual.ensures (λ seats. outside_none c.args.number c.args.register.now.people rows seats
    (subst (λ (best : Option AllotRow). IsStranger c.args.number c.args.register.now.people rows [] best) c.in_err-row.was first))

pub returns : goal.returns
returns c =
    let rows = c.args.rows.now in
    let first = subst (λ (rest : List AllotRow). IsStranger c.args.number c.args.register.now.people rows rest c.loop-row.best) (drop_all c.loop-row.row-index rows c.loop-row-test.false) c.loop-row.invariant in
    λ seats. outside_some c.args.number c.args.register.now.people rows seats c.in_ok-row.row
    (subst (λ (best : Option AllotRow). IsStranger c.args.number c.args.register.now.people rows [] best) c.in_ok-row.was first)
