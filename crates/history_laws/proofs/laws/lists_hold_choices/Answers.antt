use Rattle.history_laws.proofs.Listed.{lists_hold_choices}
use Rattle.history_laws.proofs.laws.lists_hold_choices.Goals as goal

pub returns : goal.returns
returns c = lists_hold_choices c.choose_well.ensures c.lists_are_kept.ensures
