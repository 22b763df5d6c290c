use Rattle.axiom_laws.proofs.One as one
use Rattle.axiom_laws.proofs.laws.one_meets_the_axioms_of_a_step.Goals as goal

pub returns : goal.returns
returns c = one.one_at_a_step c.single_exchanges.ensures c.ranked_part.ensures
