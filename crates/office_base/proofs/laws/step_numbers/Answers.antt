use Rattle.office_base.proofs.StepNumbers.{kind_at, number_at}
use Rattle.office_base.proofs.laws.step_numbers.Goals as goal

pub returns : goal.returns
returns c = (kind_at, number_at)
