use Rattle.season_commands.proofs.OneRun.{one_run}
use Rattle.season_commands.proofs.laws.one_run.Goals as goal

pub returns : goal.returns
returns c = λ facts. one_run facts (record {
  grows = c.history_grows.ensures facts;
  orderly = c.orderly.ensures facts;
  one_round = c.one_next_round.ensures facts;
  one_cutoffs = c.cutoffs_are_one.ensures facts;
  one_reply = c.one_reply.ensures facts;
})
