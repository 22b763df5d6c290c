use Rattle.season_commands.proofs.OneAnswer.{one_bundle_answer}
use Rattle.season_commands.proofs.laws.one_bundle_answer.Goals as goal

pub returns : goal.returns
returns c requests bytes = one_bundle_answer requests bytes (c.one_reading.ensures requests bytes)
