use Rattle.one_output.proofs.Outputs as outputs
use Rattle.one_output.proofs.laws.one_output.Goals as goal

pub returns : goal.returns
returns c = outputs.one_output c.one_season.ensures c.one_run.ensures
