use Rattle.std.proofs.Common.{◌≡◌, ◌<◌, ◌-◌, length}
use Rattle.season_generator.specs.Bundle.{exchanged}
use Rattle.season_generator.specs.Draws.{state_after}
use Rattle.season_generator.proofs.draws.Draws.exchange.Given as goal

abbrev pub invariant-loop-last : goal.invariant-loop-last
invariant-loop-last l = record {
  within : l.last < length l.held;
  places : exchanged l.self.state l.last l.held ≡ exchanged l.fn.self.state (length l.fn.held - 1) l.fn.held;
  state : state_after l.last l.self.state ≡ state_after (length l.fn.held - 1) l.fn.self.state;
}

abbrev pub decreases-loop-last : goal.decreases-loop-last
decreases-loop-last l = l.last
