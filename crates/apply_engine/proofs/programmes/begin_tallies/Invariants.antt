use Rattle.apply_engine.proofs.Pushing.{UntriedTo}
use Rattle.apply_engine.proofs.programmes.begin_tallies.Given as goal

abbrev pub invariant-loop-prog : goal.invariant-loop-prog
invariant-loop-prog l = UntriedTo l.matrix l.prog l.tallies.items
