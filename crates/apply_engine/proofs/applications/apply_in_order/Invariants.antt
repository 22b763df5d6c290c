use Rattle.apply_engine.specs.Engine.{AreTallied, HasApplied}
use Rattle.apply_engine.proofs.applications.apply_in_order.Given as goal

abbrev pub ghost-apply_from : goal.ghost-apply_from
ghost-apply_from g a = g.over

abbrev pub invariant-loop-first : goal.invariant-loop-first
invariant-loop-first g l = record {
  applied : HasApplied g.over l.fn.next l.next l.states l.first l.fn.steps l.steps;
  tallied : AreTallied g.over l.next l.tallies;
}
