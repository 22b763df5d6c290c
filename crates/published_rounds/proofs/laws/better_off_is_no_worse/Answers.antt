use Rattle.published_rounds.proofs.RegisterRounds as rounds
use Rattle.published_rounds.proofs.laws.better_off_is_no_worse.Goals as goal

pub returns : goal.returns
returns c = rounds.better_off_is_no_worse (record {
  well = c.choose_well.ensures;
  no_fewer = c.admit_no_fewer.ensures;
  never_hurts = c.being_better_off_never_hurts.ensures;
  exists = c.programme_choice_exists.ensures;
})
