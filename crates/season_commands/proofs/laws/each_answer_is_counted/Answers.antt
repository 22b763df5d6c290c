use Rattle.season_commands.proofs.Counted.{each_answer}
use Rattle.season_commands.proofs.laws.each_answer_is_counted.Goals as goal

pub returns : goal.returns
returns c = λ facts. each_answer facts
