use Rattle.season_laws.proofs.OneText.{entries-one}
use Rattle.season_laws.proofs.laws.entries_are_one_text.Goals as goal

pub returns : goal.returns
returns c = entries-one
