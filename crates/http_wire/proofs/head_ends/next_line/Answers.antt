use Rattle.std.proofs.Common.{arith, add-one, eq-eqb}
use Rattle.std.proofs.lemmas.Bool.{eqb-true}
use Rattle.std.proofs.lemmas.List.{take_rest}
use Rattle.http_wire.proofs.HeadEndsLemmas.{closed_lines-first, closed_lines-none}
use Rattle.http_wire.proofs.head_ends.next_line.Goals as goal

pub returns-in-Some-clause-some : goal.returns-in-Some-clause-some
returns-in-Some-clause-some c =
    let found = c.in-Some.ensures in
    rw (take_rest, add-one) (closed_lines-first c.args.bytes.now c.in-Some.end found.0.high (eqb-true _ _ found.1) (λ k below is. found.0.before k (omega arith) below (eq-eqb _ _ is)))

pub returns-in-None-clause-none : goal.returns-in-None-clause-none
returns-in-None-clause-none c =
    closed_lines-none c.args.bytes.now (λ k below is. c.in-None.ensures k (omega arith) below (eq-eqb _ _ is))
