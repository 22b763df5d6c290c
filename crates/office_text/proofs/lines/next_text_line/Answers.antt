use Rattle.std.proofs.Common.{arith, add-one, eq-eqb}
use Rattle.std.proofs.lemmas.Bool.{eqb-true}
use Rattle.std.proofs.lemmas.List.{take_rest}
use Rattle.office_text.proofs.LinesLemmas.{lines_of-first, lines_of-last}
use Rattle.office_text.proofs.lines.next_text_line.Goals as goal

pub returns-in-Some-clause-some : goal.returns-in-Some-clause-some
returns-in-Some-clause-some c =
    let found = c.in-Some.ensures in
    rw (c.drop_cr.ensures.value, take_rest, add-one) (lines_of-first c.args.bytes.now c.in-Some.end found.0.high (eqb-true _ _ found.1) (λ k below is. found.0.before k (omega arith) below (eq-eqb _ _ is)))

pub returns-in-None-clause-none : goal.returns-in-None-clause-none
returns-in-None-clause-none c =
    let whole = lines_of-last c.args.bytes.now (λ k below is. c.in-None.ensures k (omega arith) below (eq-eqb _ _ is)) in
    rw whole c.last_line.ensures.none

pub returns-in-None-clause-some : goal.returns-in-None-clause-some
returns-in-None-clause-some c =
    let whole = lines_of-last c.args.bytes.now (λ k below is. c.in-None.ensures k (omega arith) below (eq-eqb _ _ is)) in
    rw whole c.last_line.ensures.some
