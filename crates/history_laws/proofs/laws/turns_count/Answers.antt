use Rattle.history_laws.proofs.Turns.{are_answers}
use Rattle.history_laws.proofs.laws.turns_count.Goals as goal

pub returns : goal.returns
returns c = are_answers
