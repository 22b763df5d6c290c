use Rattle.std.proofs.Common.{◌≤◌, arith, length}
use Rattle.std.specs.Prelude.{slice_index}
use Rattle.apply_engine.proofs.Applying.{Offered, begins_on, ends_free, ends_list, goes_on_free, standing_on}
use Rattle.apply_engine.proofs.applications.apply_from.Goals as goal

pub loop-states-init : goal.loop-states-init
loop-states-init g c = record { on = begins_on g.over _ _ _ _ _ c.args.first c.args.steps.now c.requires.1.0; tallied = c.requires.1.1 }

pub bounds-next-cur : goal.bounds-next-cur
bounds-next-cur g c = (standing_on g.over _ _ _ _ _ _ _ c.loop-states.cur _ _ c.loop-states.invariant.on).1

pub returns-in-None-clause-applied : goal.returns-in-None-clause-applied
returns-in-None-clause-applied g c =
    let o : Offered g.over c.loop-states.next c.offer_next.new.next c.offer_next.new.states c.loop-states.cur c.loop-states.steps c.offer_next.new.steps =
    record { going = c.in-None.ensures.going; next_is = c.in-None.ensures.next; left = c.in-None.ensures.left; cost = c.in-None.ensures.cost } in
    ends_free g.over _ _ _ _ _ _ _ _ c.args.first c.loop-states.cur _ _ _ c.loop-states.invariant.on o c.in-None.ensures.free

pub loop-states-preserved : goal.loop-states-preserved
loop-states-preserved g c =
    let o : Offered g.over c.loop-states.next c.offer_next.new.next c.offer_next.new.states c.loop-states.cur c.loop-states.steps c.offer_next.new.steps =
    record { going = c.in-Some.ensures.going; next_is = c.in-Some.ensures.next; left = c.in-Some.ensures.left; cost = c.in-Some.ensures.cost } in
    let on = goes_on_free g.over _ _ _ _ _ _ _ _ c.args.first c.loop-states.cur c.in-Some.free _ _ _ c.loop-states.invariant.on o c.in-Some.ensures.free in
    record { on = on; tallied = c.in-Some.ensures.tallied }

pub returns-clause-applied : goal.returns-clause-applied
returns-clause-applied g c =
    let far : length c.at.result.now ≤ slice_index c.loop-states.next c.loop-states.cur = omega (arith, c.loop-states-test.false, c.from.ensures) in
    ends_list g.over _ _ _ _ _ _ c.args.first c.loop-states.cur _ _ _ c.loop-states.invariant.on c.at.ensures far
