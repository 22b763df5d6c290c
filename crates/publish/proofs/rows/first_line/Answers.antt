use Rattle.std.proofs.Common.{arith, rules}
use Rattle.publish.proofs.HeadLemmas.{first-leads, first-refused, many-refused}
use Rattle.publish.proofs.rows.first_line.Goals as goal

pub returns-then-head-most_rows-clause-some : goal.returns-then-head-most_rows-clause-some
returns-then-head-most_rows-clause-some c =
    first-leads c.args.sort c.args.matrix.now c.args.people.now c.args.known c.ranges.known.fits (omega (arith, c.requires.few)) c.args.line.now c.requires.line c.in-Some.head.number c.in-Some.head.count
    c.in-Some.ensures.number c.in-Some.ensures.small c.in-Some.ensures.some (c.most_rows.ensures.few c.in-Some.head.count (search (rules, c.if-head-most_rows.true)))

pub returns-else-head-most_rows-clause-none : goal.returns-else-head-most_rows-clause-none
returns-else-head-most_rows-clause-none c =
    many-refused c.args.sort c.args.matrix.now c.args.people.now c.args.known c.ranges.known.fits (omega (arith, c.requires.few)) c.args.line.now c.requires.line c.in-Some.head.number c.in-Some.head.count
    c.in-Some.ensures.number c.in-Some.ensures.small c.in-Some.ensures.some (λ can. absurd (omega (arith, c.most_rows.ensures.all c.in-Some.head.count can, c.if-head-most_rows.false)))

pub returns-in-None-clause-none : goal.returns-in-None-clause-none
returns-in-None-clause-none c =
    first-refused c.args.sort c.args.matrix.now c.args.people.now c.args.known c.ranges.known.fits (omega (arith, c.requires.few)) c.args.line.now c.requires.line c.in-None.ensures.none
