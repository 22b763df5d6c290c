use Rattle.published_rounds.proofs.MovingUp as moving_up
use Rattle.published_rounds.proofs.laws.moving_up_never_hurts.Goals as goal

pub returns : goal.returns
returns c = moving_up.moving_up_never_hurts (record {
  order = c.only_the_order_counts.ensures;
  no_worse = c.better_off_is_no_worse.ensures;
  exists = c.programme_choice_exists.ensures;
  one = c.one_programme_choice.ensures;
  well = c.choose_well.ensures;
})
