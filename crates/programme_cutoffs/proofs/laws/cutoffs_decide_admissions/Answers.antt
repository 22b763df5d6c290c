use Rattle.programme_cutoffs.proofs.Deciding
use Rattle.programme_cutoffs.proofs.Last.{last_step_chooses}
use Rattle.programme_cutoffs.proofs.laws.cutoffs_decide_admissions.Goals as goal

pub returns : goal.returns
returns c = Deciding.cutoffs_decide_admissions c.cutoffs_decide.ensures c.cutoff_exists.ensures c.leaving_out_refused.ensures
    (last_step_chooses c.choices_meet_axioms.ensures c.one_meets_the_axioms_of_a_step.ensures) c.one_step.ensures
