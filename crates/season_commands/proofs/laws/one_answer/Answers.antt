use Rattle.std.proofs.Common.{true}
use Rattle.season_commands.proofs.OneAnswer.{one_check_answer}
use Rattle.season_commands.proofs.laws.one_answer.Goals as goal

pub returns : goal.returns
returns c bytes = one_check_answer (c.one_reading.ensures true) bytes
