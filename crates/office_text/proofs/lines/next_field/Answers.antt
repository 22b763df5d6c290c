use Rattle.std.proofs.Common.{arith, add-one, eq-eqb}
use Rattle.std.proofs.lemmas.Bool.{eqb-true}
use Rattle.std.proofs.lemmas.List.{take_rest}
use Rattle.office_text.proofs.LinesLemmas.{split_at_each-first, split_at_each-whole}
use Rattle.office_text.proofs.lines.next_field.Goals as goal

pub returns-in-Some-clause-more : goal.returns-in-Some-clause-more
returns-in-Some-clause-more c =
    let found = c.in-Some.ensures in
    rw (take_rest, add-one) (split_at_each-first 44 c.args.line.now c.in-Some.end found.0.high (eqb-true _ _ found.1) (λ k below is. found.0.before k (omega arith) below (eq-eqb _ _ is)))

pub returns-in-None-clause-last : goal.returns-in-None-clause-last
returns-in-None-clause-last c =
    split_at_each-whole 44 c.args.line.now (λ k below is. c.in-None.ensures k (omega arith) below (eq-eqb _ _ is))
