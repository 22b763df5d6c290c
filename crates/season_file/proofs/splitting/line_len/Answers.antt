use Rattle.std.proofs.Common.{arith, eq-eqb}
use Rattle.std.proofs.lemmas.Bool.{eqb-true}
use Rattle.season_file.proofs.BundleLines.{line_len-first, line_len-whole}
use Rattle.season_file.proofs.splitting.line_len.Goals as goal

pub returns-in-Some-clause-value : goal.returns-in-Some-clause-value
returns-in-Some-clause-value c =
    let found = c.in-Some.ensures in
    line_len-first c.args.bytes.now c.in-Some.end found.0.high (eqb-true _ _ found.1) (λ k below is. found.0.before k (omega arith) below (eq-eqb _ _ is))

pub returns-in-None-clause-value : goal.returns-in-None-clause-value
returns-in-None-clause-value c = line_len-whole c.args.bytes.now (λ k below is. c.in-None.ensures k (omega arith) below (eq-eqb _ _ is))
