use Rattle.special_command.proofs.OneSpecial.{one_special}
use Rattle.special_command.proofs.laws.one_special_answer.Goals as goal

pub returns : goal.returns
returns c facts state bytes = one_special facts state bytes (c.one_remaining.ensures facts state bytes)
