use Rattle.rounds.specs.Rule.{nobody}
use Rattle.season_laws.proofs.ByWindow as by_window
use Rattle.season_laws.proofs.laws.order_within_windows_is_free.Goals as goal

pub returns : goal.returns
returns c = by_window.order_within_windows_is_free c.orderly.ensures (λ facts. c.one_round.ensures facts nobody)
