use Rattle.axiom_laws.proofs.Both as both
use Rattle.axiom_laws.proofs.laws.axioms_are_the_rule.Goals as goal

pub returns : goal.returns
returns c = both.axioms_are_the_rule c.in_merit_ranks.ensures c.choices_meet_axioms.ensures c.one_meets_the_axioms.ensures
