use Rattle.same_input_laws.proofs.Stops.{stop_costs}
use Rattle.same_input_laws.proofs.laws.a_stop_costs_nothing.Goals as goal

pub returns : goal.returns
returns c = stop_costs c.kept_is_replayed.ensures c.one_end.ensures c.prefix_is_a_run.ensures c.one_run.ensures
