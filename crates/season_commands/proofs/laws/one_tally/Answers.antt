use Rattle.season_commands.proofs.OneTally.{one_tally}
use Rattle.season_commands.proofs.laws.one_tally.Goals as goal

pub returns : goal.returns
returns c = λ facts. one_tally facts (record {
  grows = c.history_grows.ensures facts;
  orderly = c.orderly.ensures facts;
  one_round = c.one_next_round.ensures facts;
  one_cutoffs = c.cutoffs_are_one.ensures facts;
  one_reply = c.one_reply.ensures facts;
})
