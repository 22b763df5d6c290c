use Rattle.same_input_laws.proofs.UnitEnds as ends
use Rattle.same_input_laws.proofs.laws.units_are_one.Goals as goal

pub returns : goal.returns
returns c = ends.units_are_one c.one_units_answer.ensures c.commands_are_one.ensures.runs
