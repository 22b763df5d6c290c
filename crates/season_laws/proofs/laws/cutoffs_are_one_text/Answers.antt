use Rattle.season_laws.proofs.OneText.{cutoffs-one}
use Rattle.season_laws.proofs.laws.cutoffs_are_one_text.Goals as goal

pub returns : goal.returns
returns c = cutoffs-one
