use Rattle.open_then_category.proofs.Axioms
use Rattle.open_then_category.proofs.laws.choices_meet_axioms.Goals as goal

pub returns : goal.returns
returns c = Axioms.choices_meet_axioms c.step_laws.ensures
