use Rattle.published_rounds.proofs.People as people
use Rattle.published_rounds.proofs.laws.fair_seats_are_justified.Goals as goal

pub returns : goal.returns
returns c = people.fair_seats_are_justified (record {
  envied = c.nobody_is_envied_where_fair.ensures;
  under = c.nobody_is_kept_where_fair.ensures;
  wasted = c.no_seat_is_wasted.ensures;
  within = c.seats_are_within_where_fair.ensures;
  decided = c.closing_places_decide.ensures;
})
