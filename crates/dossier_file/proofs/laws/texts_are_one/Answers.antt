use Rattle.dossier_file.proofs.OneLemmas.{texts_one}
use Rattle.dossier_file.proofs.laws.texts_are_one.Goals as goal

pub returns : goal.returns
returns c = texts_one c.rounds_are_one.ensures c.lists_are_one.ensures c.finals_are_one.ensures
