use Rattle.season_laws.proofs.Looks.{cutoffs_look}
use Rattle.season_laws.proofs.laws.cutoffs_look_at_the_round.Goals as goal

pub returns : goal.returns
returns c = cutoffs_look c.lists_hold_choices.ensures c.one_list.ensures
