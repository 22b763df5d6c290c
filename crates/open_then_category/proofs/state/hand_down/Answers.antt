use Rattle.std.proofs.Common.{◌∙◌, [], drop, take, append-nil, length-set, refl, subst, sym, arith}
use Rattle.std.proofs.lemmas.List.{drop_all, take_all}
use Rattle.office_base.specs.declared.category_steps.GivesUp.TheVariants.{Never}
use Rattle.office_base.specs.declared.person.Category.TheVariants.{Gen}
use Rattle.office_base.specs.declared.step.StepKind.TheVariants.{Open}
use Rattle.open_then_category.specs.State.{AreHanded}
use Rattle.open_then_category.proofs.Handed.{down_later, new_later, new_now}
use Rattle.open_then_category.proofs.state.hand_down.Goals as goal

pub hand_member-coming-requires : goal.hand_member-coming-requires
hand_member-coming-requires c =
    let i = c.loop-i.i in
    let size = c.loop-i.invariant.size in
    let rows = c.told-rows in
    let below = c.loop-i-test.true in
    (new_now c.args.rows.now c.loop-i.categories i c.loop-i.coming (record { step = Open; category = Gen; gives_up = Never }) c.index-categories-i.result
    (omega (arith, rows, below)) (omega (arith, size, below)) c.loop-i.invariant.new).0

pub loop-i-preserved : goal.loop-i-preserved
loop-i-preserved c =
    let i = c.loop-i.i in
    let size = c.loop-i.invariant.size in
    let rows = c.told-rows in
    let below = c.loop-i-test.true in
    record {
      size = length-set c.loop-i.categories i _ ∙ size;
      new = new_later c.args.rows.now c.loop-i.categories i c.loop-i.coming _ c.index-categories-i.result (omega (arith, rows, below)) (omega (arith, size, below)) c.hand_member-coming.result
          c.hand_member-coming.new.step _ c.hand_member-coming.ensures.offered refl c.loop-i.invariant.new;
      down = down_later c.args.rows.now c.loop-i.categories i c.loop-i.coming _ c.index-categories-i.result (omega (arith, rows, below)) (omega (arith, size, below)) c.hand_member-coming.result
          c.hand_member-coming.new.step _ c.hand_member-coming.ensures.offered refl c.hand_member-coming.ensures.stays c.args.rows.now c.args.categories.now c.args.coming c.loop-i.invariant.down;
    }

pub returns : goal.returns
returns c =
    let i = c.loop-i.i in
    let size = c.loop-i.invariant.size in
    let rows = c.told-rows in
    let past = c.loop-i-test.false in
    let end = subst (λ some. AreHanded some [] [] c.loop-i.coming c.loop-i.coming) (sym (drop_all i c.args.rows.now (omega (arith, rows, past)))) (refl, refl) in
    let none = drop_all i c.loop-i.categories (omega (arith, size, past)) in
    subst (λ some. AreHanded c.args.rows.now c.args.categories.now some c.args.coming c.loop-i.coming)
    (append-nil (take i c.loop-i.categories) ∙ take_all i c.loop-i.categories (omega (arith, size, past)))
    (c.loop-i.invariant.down [] c.loop-i.coming (subst (λ some. AreHanded (drop i c.args.rows.now) some [] c.loop-i.coming c.loop-i.coming) (sym none) end))
