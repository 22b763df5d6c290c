use Rattle.season_generator.proofs.PlaceLemmas.{places_once}
use Rattle.season_generator.proofs.laws.each_place_once.Goals as goal

pub returns : goal.returns
returns c = places_once
