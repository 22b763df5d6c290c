use Rattle.special_command.proofs.Listed.{can_be_listed}
use Rattle.special_command.proofs.laws.special_rounds_can_be_listed.Goals as goal

pub returns : goal.returns
returns c = can_be_listed c.choose_well.ensures c.slots_are_traits.ensures c.lists_are_kept.ensures
