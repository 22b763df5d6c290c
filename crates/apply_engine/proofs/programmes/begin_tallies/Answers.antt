use Rattle.std.proofs.Common.{◌∙◌, [], ap, arith}
use Rattle.office_base.specs.declared.person.ListId.{ListId}
use Rattle.open_then_category.specs.Tried.{counted}
use Rattle.apply_engine.proofs.Pushing.{untried_all, untried_more, untried_none}
use Rattle.apply_engine.proofs.programmes.begin_tallies.Goals as goal

pub loop-prog-init : goal.loop-prog-init
loop-prog-init c = untried_none _ _ c.in_ok-tallies.ensures.items

pub loop-prog-preserved : goal.loop-prog-preserved
loop-prog-preserved c = untried_more _ _ _ _ _ c.loop-prog.invariant c.in_ok-push.ensures.items (c.new.ensures ∙ ap (λ (list : ListId). counted list []) c.programme-seats.ensures.list)

pub returns : goal.returns
returns c = untried_all _ _ _ c.loop-prog.invariant (omega (arith, c.loop-prog-test.false, c.loop-prog.auto.prog-end, c.count-count.ensures.count))
