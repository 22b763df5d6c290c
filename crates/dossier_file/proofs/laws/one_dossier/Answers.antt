use Rattle.dossier_file.proofs.LawLemmas.{one_dossier_of}
use Rattle.dossier_file.proofs.laws.one_dossier.Goals as goal

pub returns : goal.returns
returns c = λ bytes. one_dossier_of c.one_reading.ensures bytes
