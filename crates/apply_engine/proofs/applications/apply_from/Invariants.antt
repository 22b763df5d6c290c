use Rattle.allocations.specs.Course.{places_left}
use Rattle.apply_engine.specs.Engine.{AreTallied, seekers_in}
use Rattle.apply_engine.proofs.Applying.{IsOn}
use Rattle.apply_engine.proofs.applications.apply_from.Given as goal

abbrev pub ghost-offer_next : goal.ghost-offer_next
ghost-offer_next g a = g.over

abbrev pub invariant-loop-states : goal.invariant-loop-states
invariant-loop-states g l = record {
  on : IsOn g.over l.register.people l.lists l.guaranteed l.fn.next l.next l.states l.first l.cur l.fn.steps l.steps;
  tallied : AreTallied g.over l.next l.tallies;
}

abbrev pub decreases-loop-states : goal.decreases-loop-states
decreases-loop-states g l = places_left (seekers_in g.over) l.next
