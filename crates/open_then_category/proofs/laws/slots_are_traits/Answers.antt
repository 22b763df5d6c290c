use Rattle.open_then_category.proofs.SetLaws
use Rattle.open_then_category.proofs.laws.slots_are_traits.Goals as goal

pub returns : goal.returns
returns c = SetLaws.slots_are_traits c.step_laws.ensures
