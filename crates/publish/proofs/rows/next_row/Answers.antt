use Rattle.std.proofs.Common.{◌-◌, sym, subst, arith}
use Rattle.publish.specs.Rows.{IsNoRow, IsRow}
use Rattle.publish.proofs.RowsLemmas.{cand-refused, few-refused, row-leads, row-refused}
use Rattle.publish.proofs.TailLemmas.{after-short, after-small}
use Rattle.publish.proofs.rows.next_row.Goals as goal

pub returns-in-None-clause-none : goal.returns-in-None-clause-none
returns-in-None-clause-none c = λ number rows.
    row-refused c.args.sort c.args.matrix.now c.args.people.now number rows c.requires.spelled c.requires.small c.args.left (c.args.left - 1) (omega (arith, c.requires.some)) c.args.line.now c.requires.line
    (subst (λ z. IsNoRow z c.args.matrix.now c.args.line.now) c.row_word.ensures c.in-None.ensures.none)

pub returns-then-left-next-clause-some : goal.returns-then-left-next-clause-some
returns-then-left-next-clause-some c = λ number rows.
    row-leads c.args.sort c.args.matrix.now c.args.people.now number rows c.requires.spelled c.requires.small c.args.left (c.args.left - 1) (omega (arith, c.requires.some)) c.args.line.now c.requires.line
    c.in-Some.row.cand.0 c.in-Some.row.prog.0 c.in-Some.row.step c.in-Some.ensures.small
    (subst (λ z. IsRow z c.args.matrix.now c.args.line.now c.in-Some.row.cand.0 c.in-Some.row.prog.0 c.in-Some.row.step) c.row_word.ensures c.in-Some.ensures.some)
    c.in-Some-people_after.next.now (sym c.in-Some-people_after.ensures) (omega (arith, c.if-left-next.true))

pub returns-then-left-next-clause-small : goal.returns-then-left-next-clause-small
returns-then-left-next-clause-small c =
    after-small c.in-Some.row.cand.0 c.args.people.now c.in-Some-people_after.next.now c.requires.small (sym c.in-Some-people_after.ensures)

pub returns-then-left-next-clause-few : goal.returns-then-left-next-clause-few
returns-then-left-next-clause-few c = after-short c.in-Some.row.cand.0 c.args.people.now c.in-Some-people_after.next.now (sym c.in-Some-people_after.ensures)

pub returns-else-left-next-clause-none : goal.returns-else-left-next-clause-none
returns-else-left-next-clause-none c = λ number rows.
    few-refused c.args.sort c.args.matrix.now c.args.people.now number rows c.requires.spelled c.requires.small c.args.left (c.args.left - 1) (omega (arith, c.requires.some)) c.args.line.now c.requires.line
    c.in-Some.row.cand.0 c.in-Some.row.prog.0 c.in-Some.row.step c.in-Some.ensures.small
    (subst (λ z. IsRow z c.args.matrix.now c.args.line.now c.in-Some.row.cand.0 c.in-Some.row.prog.0 c.in-Some.row.step) c.row_word.ensures c.in-Some.ensures.some)
    c.in-Some-people_after.next.now (sym c.in-Some-people_after.ensures) (omega (arith, c.if-left-next.false, c.requires.some))

pub returns-in-None-people_after-clause-none : goal.returns-in-None-people_after-clause-none
returns-in-None-people_after-clause-none c = λ number rows.
    cand-refused c.args.sort c.args.matrix.now c.args.people.now number rows c.requires.spelled c.requires.small c.args.left (c.args.left - 1) (omega (arith, c.requires.some)) c.args.line.now c.requires.line
    c.in-Some.row.cand.0 c.in-Some.row.prog.0 c.in-Some.row.step c.in-Some.ensures.small
    (subst (λ z. IsRow z c.args.matrix.now c.args.line.now c.in-Some.row.cand.0 c.in-Some.row.prog.0 c.in-Some.row.step) c.row_word.ensures c.in-Some.ensures.some)
    (sym c.in-None-people_after.ensures)
