use Rattle.season_laws.proofs.ReadBack.{published_is_read}
use Rattle.season_laws.proofs.laws.published_is_read.Goals as goal

pub returns : goal.returns
returns c = published_is_read (record {
  well = c.choose_well.ensures;
  once = c.admitted_once.ensures;
  slots = c.slots_are_traits.ensures;
  merit = c.in_merit_ranks.ensures;
  rounds_read = c.rounds_are_read.ensures;
  finals_read = c.finals_are_read.ensures;
  lists_told = c.lists_are_told.ensures;
  lists_read = c.lists_are_read.ensures;
})
