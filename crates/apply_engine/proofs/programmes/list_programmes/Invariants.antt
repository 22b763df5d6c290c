use Rattle.apply_engine.proofs.Pushing.{ListedTo}
use Rattle.apply_engine.proofs.programmes.list_programmes.Given as goal

abbrev pub invariant-loop-prog : goal.invariant-loop-prog
invariant-loop-prog g l = ListedTo g.over l.applied.next.items l.prog l.programmes.items
