use Rattle.season_laws.proofs.OneText.{answers-one}
use Rattle.season_laws.proofs.laws.answers_are_one_text.Goals as goal

pub returns : goal.returns
returns c = answers-one
