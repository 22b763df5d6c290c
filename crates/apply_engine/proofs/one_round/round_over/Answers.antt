use Rattle.std.proofs.Common.{◌∙◌, List, refl, ap}
use Rattle.std.proofs.lemmas.Result.{IfOk-weaker}
use Rattle.apply_engine.specs.Engine.{lists_in}
use Rattle.apply_engine.specs.Made.{leaves_along}
use Rattle.apply_engine.proofs.Whole.{cost_over, counted_over, lists_below, round_over_is, set_over}
use Rattle.apply_engine.proofs.one_round.round_over.Goals as goal
use Rattle.seeks.specs.declared.seek.Seek.{Seek}

pub effective-requires-clause-below : goal.effective-requires-clause-below
effective-requires-clause-below g c = lists_below c.args.version c.args.matrix.now c.args.register.now c.args.choices.now c.args.seeks c.args.guaranteed.now c.requires c.people-people.ensures.ranks

pub round_on-requires : goal.round_on-requires
round_on-requires g c κs within =
    let same = c.in_ok-lists.ensures ∙ ap (λ (s : List Seek). leaves_along c.args.matrix.now (lists_in c.args.choices.now) s) c.as_slice.ensures in (
      (λ a member. within a member),
      record {
        over_is = refl;
        version_is = c.requires.version_is;
        set_is = set_over c.args.version c.args.matrix.now c.args.register.now c.args.choices.now c.args.seeks c.args.guaranteed.now c.in_ok-lists.lists c.requires c.laws.ensures c.count-count.ensures.seats c.people-people.ensures.ranks same;
      },
    )

pub returns-clause-round : goal.returns-clause-round
returns-clause-round g c =
    let same = c.in_ok-lists.ensures ∙ ap (λ (s : List Seek). leaves_along c.args.matrix.now (lists_in c.args.choices.now) s) c.as_slice.ensures in
    IfOk-weaker c.round_on.result _ _ (λ round made. round_over_is c.args.version c.args.matrix.now c.args.register.now c.args.choices.now c.args.number c.args.seeks c.args.guaranteed.now c.in_ok-lists.lists round same made) c.round_on.ensures.round

pub returns-clause-cost : goal.returns-clause-cost
returns-clause-cost g c =
    let same = c.in_ok-lists.ensures ∙ ap (λ (s : List Seek). leaves_along c.args.matrix.now (lists_in c.args.choices.now) s) c.as_slice.ensures in
    cost_over c.args.matrix.now c.args.register.now.people (lists_in c.args.choices.now) c.args.seeks c.in_ok-lists.lists c.args.steps.now c.round_on.new.steps same c.round_on.ensures.cost

pub returns-clause-counted : goal.returns-clause-counted
returns-clause-counted g c =
    let same = c.in_ok-lists.ensures ∙ ap (λ (s : List Seek). leaves_along c.args.matrix.now (lists_in c.args.choices.now) s) c.as_slice.ensures in
    IfOk-weaker c.round_on.result _ _
    (λ round counted. counted_over c.args.matrix.now c.args.register.now.people (lists_in c.args.choices.now) c.args.seeks c.in_ok-lists.lists round.seats c.args.steps.now c.round_on.new.steps same counted) c.round_on.ensures.counted
