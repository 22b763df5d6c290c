use Rattle.std.proofs.Common.{arith, add-one, eq-eqb}
use Rattle.std.proofs.lemmas.Bool.{eqb-true}
use Rattle.std.proofs.lemmas.List.{take_rest}
use Rattle.text_readers.proofs.LineLemmas.{cut-first, none-before, none-at-all}
use Rattle.text_readers.proofs.parts.split_at_byte.Goals as goal

pub returns-in-Some-clause-some : goal.returns-in-Some-clause-some
returns-in-Some-clause-some c =
    let found = c.in-Some.ensures in
    rw (take_rest, add-one) (cut-first c.args.byte c.args.bytes.now c.in-Some.end found.0.high (eqb-true _ _ found.1))

pub returns-in-Some-clause-first : goal.returns-in-Some-clause-first
returns-in-Some-clause-first c =
    let found = c.in-Some.ensures in
    none-before c.args.byte c.args.bytes.now c.in-Some.end (omega (arith, found.0.high)) (λ k below is. found.0.before k (omega arith) below (eq-eqb _ _ is))

pub returns-in-None-clause-none : goal.returns-in-None-clause-none
returns-in-None-clause-none c =
    none-at-all c.args.byte c.args.bytes.now (λ k below is. c.in-None.ensures k (omega arith) below (eq-eqb _ _ is))
