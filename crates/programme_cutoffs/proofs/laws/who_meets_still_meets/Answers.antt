use Rattle.programme_cutoffs.proofs.Last.{last_step_chooses}
use Rattle.programme_cutoffs.proofs.Widening
use Rattle.programme_cutoffs.proofs.laws.who_meets_still_meets.Goals as goal

pub returns : goal.returns
returns c = Widening.who_meets_still_meets (last_step_chooses c.choices_meet_axioms.ensures c.one_meets_the_axioms_of_a_step.ensures) c.admitted_stay.ensures c.choice_size.ensures
    c.cutoff_exists.ensures c.eased_is_wider.ensures
