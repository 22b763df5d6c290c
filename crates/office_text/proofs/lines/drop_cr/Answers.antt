use Rattle.std.proofs.Common.{arith}
use Rattle.office_text.proofs.LinesLemmas.{drop_cr-end, drop_cr-other}
use Rattle.office_text.proofs.lines.drop_cr.Goals as goal

pub returns-in-13-clause-value : goal.returns-in-13-clause-value
returns-in-13-clause-value c = drop_cr-end c.args.line.now c.in-13.len_at_least (omega arith)

pub returns-in_default-2-clause-value : goal.returns-in_default-2-clause-value
returns-in_default-2-clause-value c = drop_cr-other c.args.line.now c.in_default.len_at_least (λ is. omega arith)
