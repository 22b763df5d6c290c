use Rattle.std.proofs.Common.{true}
use Rattle.units_command.proofs.OneUnits.{one_units_answer}
use Rattle.units_command.proofs.laws.one_units_answer.Goals as goal

pub returns : goal.returns
returns c = one_units_answer (c.one_bundle_answer.ensures true)
