use Rattle.explain.proofs.Just.{just}
use Rattle.explain.proofs.laws.reasons_are_just.Goals as goal

pub returns : goal.returns
returns c = just (record {
  one = c.one_choice.ensures;
  size = c.choice_size.ensures;
  for_all = c.seats_for_all.ensures;
  merit = c.in_merit_ranks.ensures;
  part = c.ranked_part.ensures;
  ranks = c.with_person_ranks.ensures;
})
