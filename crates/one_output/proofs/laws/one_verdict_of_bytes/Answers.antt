use Rattle.one_output.proofs.Verdicts as verdicts
use Rattle.one_output.proofs.laws.one_verdict_of_bytes.Goals as goal

pub returns : goal.returns
returns c = verdicts.one_verdict_of_bytes c.one_dossier_of_bytes.ensures c.one_verdict.ensures
