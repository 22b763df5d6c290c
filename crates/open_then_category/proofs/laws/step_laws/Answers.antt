use Rattle.open_then_category.proofs.laws.step_laws.Goals as goal

pub returns : goal.returns
returns c = record {
  choice_exists = c.choice_exists.ensures;
  choice_size = c.choice_size.ensures;
  refused_stays_refused = c.refused_stays_refused.ensures;
  no_fewer = c.no_fewer.ensures;
  leaving_out_refused = c.leaving_out_refused.ensures;
  more_seats = c.more_seats.ensures;
  in_merit_ranks = c.in_merit_ranks.ensures;
  part_in_merit = c.part_in_merit.ensures;
  part_can_be_ranked = c.part_can_be_ranked.ensures;
  refused_before = c.refused_before.ensures;
  one_merit_order = c.one_merit_order.ensures;
  ranked_in_merit = c.ranked_in_merit.ensures;
  with_person_ranks = c.with_person_ranks.ensures;
  seats_for_all = c.seats_for_all.ensures;
  honours_as_all = c.honours_as_all.ensures;
  no_justified_envy = c.no_justified_envy.ensures;
}
