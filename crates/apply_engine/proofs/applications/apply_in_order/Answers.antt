use Rattle.std.proofs.Common.{◌≡◌, arith, length, subst, ℕ}
use Rattle.apply_engine.specs.Engine.{HasApplied}
use Rattle.apply_engine.proofs.Applying.{applied_more, as_many, begins_next, first_applied}
use Rattle.apply_engine.proofs.applications.apply_in_order.Goals as goal

pub loop-first-init : goal.loop-first-init
loop-first-init g c = record { applied = first_applied g.over _ _ _ _ _ c.args.steps.now c.requires.1.0; tallied = c.requires.1.1 }

pub apply_from-requires : goal.apply_from-requires
apply_from-requires g c = λ κs lives. (
  λ a member. lives a member,
  (
    begins_next g.over _ _ _ _ _ _ _ c.loop-first.first _ c.loop-first.steps c.requires.1.0 c.loop-first.invariant.applied (omega (arith, c.loop-first-test.true, c.loop-first.auto.next)),
    c.loop-first.invariant.tallied,
  ),
)

pub loop-first-preserved : goal.loop-first-preserved
loop-first-preserved g c = record { applied = applied_more g.over _ _ _ _ _ _ _ _ _ _ c.loop-first.invariant.applied c.apply_from.ensures.applied; tallied = c.apply_from.ensures.tallied }

pub returns-clause-applied : goal.returns-clause-applied
returns-clause-applied g c =
    let many = as_many g.over _ _ _ _ _ c.requires.1.0 in
    let last : c.loop-first.first ≡ length c.args.register.now.people = omega (arith, many, c.loop-first-test.false, c.loop-first.auto.first-end) in
    subst (λ (last : ℕ). HasApplied g.over c.args.next.now c.loop-first.next c.loop-first.states last c.args.steps.now c.loop-first.steps) last c.loop-first.invariant.applied
