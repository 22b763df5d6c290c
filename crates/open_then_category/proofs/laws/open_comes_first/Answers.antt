use Rattle.open_then_category.proofs.Axioms
use Rattle.open_then_category.proofs.laws.open_comes_first.Goals as goal

pub returns : goal.returns
returns c = Axioms.open_comes_first c.step_laws.ensures
