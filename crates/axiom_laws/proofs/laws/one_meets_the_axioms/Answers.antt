use Rattle.axiom_laws.proofs.One as one
use Rattle.axiom_laws.proofs.laws.one_meets_the_axioms.Goals as goal

pub returns : goal.returns
returns c = one.one_at_all_steps c.one_meets_the_axioms_of_a_step.ensures c.in_merit_ranks.ensures c.ranked_part.ensures
