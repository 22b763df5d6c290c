use Rattle.season_generator.proofs.Whole.{is-bundle}
use Rattle.season_generator.proofs.laws.generated_is_bundle.Goals as goal

pub returns : goal.returns
returns c = is-bundle (record {
  inverse = c.numbers_are_inverse.ensures;
  once = c.each_place_once.ensures;
  ranks = c.one_reading.ensures;
  table = c.one_reading-2.ensures;
  lists = c.one_reading-3.ensures;
})
