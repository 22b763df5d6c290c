use Rattle.std.proofs.Common.{◌∙◌, arith}
use Rattle.std.proofs.lemmas.Grind.{common_steps}
use Rattle.office_text.proofs.LinesLemmas.{trimmed-end, trimmed-other}
use Rattle.office_text.proofs.lines.trim_commas.Goals as goal

pub loop-kept-preserved : goal.loop-kept-preserved
loop-kept-preserved c = record {
  same = trimmed-end c.loop-kept.kept.now c.in-44.len_at_least (omega arith) ∙ c.loop-kept.invariant.same;
  within = grind (arith, common_steps);
}

pub returns-in_default-2-clause-value : goal.returns-in_default-2-clause-value
returns-in_default-2-clause-value c = trimmed-other c.loop-kept.kept.now c.in_default.len_at_least (λ is. omega arith) ∙ c.loop-kept.invariant.same
