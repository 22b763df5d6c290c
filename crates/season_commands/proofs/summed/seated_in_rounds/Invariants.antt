use Rattle.std.proofs.Common.{◌≡◌, map, take}
use Rattle.rounds.specs.Round.{seated}
use Rattle.season_commands.proofs.summed.seated_in_rounds.Given as goal

abbrev pub invariant-loop-before : goal.invariant-loop-before
invariant-loop-before g l = l.counts ≡ map (λ round. seated round.seats) (take l.before l.office.state.rounds)
