use Rattle.placements.proofs.Slots.{small_slots}
use Rattle.slot_cert.proofs.laws.slots_are_traits.Goals as goal

pub returns : goal.returns
returns c = λ protections people pairs sets placed. small_slots people pairs sets placed.held
