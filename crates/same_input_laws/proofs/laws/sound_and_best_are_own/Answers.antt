use Rattle.same_input_laws.proofs.OwnRounds.{own_where_best}
use Rattle.same_input_laws.proofs.laws.sound_and_best_are_own.Goals as goal

pub returns : goal.returns
returns c = own_where_best c.choose_well.ensures c.one_season.ensures.sound c.orderly.ensures c.history_grows.ensures c.published_is_read.ensures
