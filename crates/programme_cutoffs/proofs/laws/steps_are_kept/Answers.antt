use Rattle.programme_cutoffs.proofs.Last.{last_step_chooses}
use Rattle.programme_cutoffs.proofs.Standing
use Rattle.programme_cutoffs.proofs.laws.steps_are_kept.Goals as goal

pub returns : goal.returns
returns c = Standing.steps_are_kept (last_step_chooses c.choices_meet_axioms.ensures c.one_meets_the_axioms_of_a_step.ensures)
