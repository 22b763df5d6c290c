use Rattle.season_file.proofs.TitleLemmas.{cut_at_titles}
use Rattle.season_file.proofs.laws.sections_stand_between_titles.Goals as goal

pub returns : goal.returns
returns c = cut_at_titles
