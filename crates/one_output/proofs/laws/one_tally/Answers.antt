use Rattle.one_output.proofs.Outputs as outputs
use Rattle.one_output.proofs.laws.one_tally.Goals as goal

pub returns : goal.returns
returns c = outputs.one_tally c.one_season.ensures c.one_tally.ensures
