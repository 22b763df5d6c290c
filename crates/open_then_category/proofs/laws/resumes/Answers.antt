use Rattle.open_then_category.proofs.SetLaws
use Rattle.open_then_category.proofs.laws.resumes.Goals as goal

pub returns : goal.returns
returns c = SetLaws.resumes c.step_laws.ensures
