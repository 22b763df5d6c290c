use Rattle.season_laws.proofs.Finished as finished
use Rattle.season_laws.proofs.laws.seasons_can_be_finished.Goals as goal

pub returns : goal.returns
returns c = finished.seasons_can_be_finished c.orderly.ensures c.every_request_is_answered.ensures c.history_grows.ensures
