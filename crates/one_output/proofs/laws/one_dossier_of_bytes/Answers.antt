use Rattle.one_output.proofs.Verdicts as verdicts
use Rattle.one_output.proofs.laws.one_dossier_of_bytes.Goals as goal

pub returns : goal.returns
returns c = verdicts.one_dossier_of_bytes c.one_season.ensures.kept c.one_dossier.ensures c.texts_are_one.ensures
