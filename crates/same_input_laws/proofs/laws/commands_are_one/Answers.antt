use Rattle.std.proofs.Common.{true}
use Rattle.same_input_laws.proofs.RunEnds as ends
use Rattle.same_input_laws.proofs.laws.commands_are_one.Goals as goal

pub returns : goal.returns
returns c = record {
  checks = ends.checks_are_one c.one_answer.ensures;
  runs = ends.runs_are_one (c.one_bundle_answer.ensures true) c.one_output.ensures;
  generated = ends.generated_runs_are_one c.one_tally.ensures;
}
