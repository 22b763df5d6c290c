use Rattle.same_input_laws.proofs.SpecialEnds as ends
use Rattle.same_input_laws.proofs.laws.specials_are_one.Goals as goal

pub returns : goal.returns
returns c = ends.specials_are_one (record {
  readings = c.one_reading.ensures;
  kept = record { seasons = c.one_season.ensures.kept; sound = c.one_season.ensures.sound; records = c.one_end.ensures };
  grows = c.history_grows.ensures;
  orderly = c.orderly.ensures;
  known = c.finals_are_known.ensures;
  remaining = c.one_remaining_matrix.ensures;
  lists = c.one_reading-2.ensures;
  enter = c.enter.ensures;
  round = c.one_round.ensures;
  answer = c.one_special_answer.ensures;
  cutoffs = c.one_list.ensures;
  listed = c.special_rounds_can_be_listed.ensures;
})
