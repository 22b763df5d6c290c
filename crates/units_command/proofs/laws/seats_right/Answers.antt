use Rattle.units_command.proofs.SeatedLiving.{seats_right}
use Rattle.units_command.proofs.laws.seats_right.Goals as goal

pub returns : goal.returns
returns c = seats_right c.one_reading.ensures c.runs_its_course.ensures
