use Rattle.std.proofs.Common.{refl}
use Rattle.list_texts.proofs.laws.lists_are_read.Goals as goal

pub returns : goal.returns
returns c = λ table people number prog programme small within are. record { number = small; programme = within; steps = are; same = refl }
