use Rattle.std.proofs.Common.{◌≡◌, ◌∙◌, ◌<◌, List, false, length, arith, subst}
use Rattle.office_base.specs.CategorySteps.{own_steps}
use Rattle.office_base.specs.StepNumbers.{step_number}
use Rattle.office_base.specs.declared.step.StepKind.{StepKind}
use Rattle.office_base.specs.declared.step.StepKind.TheVariants.{Dereserved}
use Rattle.kept_rows.specs.declared.rows.AllotRow.{AllotRow}
use Rattle.seat_matrix.specs.Seats.{is_dereserved}
use Rattle.special_round.specs.Set.{AreLeftIn}
use Rattle.special_round.proofs.Owned.{all_own}
use Rattle.special_round.proofs.Setting.{step_at, step_more}
use Rattle.special_round.proofs.matrix.set_from.Goals as goal

own_below : (step : StepKind) → is_dereserved step ≡ false → step_number step < length own_steps
own_below Dereserved own = absurd (cc)
own_below step own = omega arith

pub loop-step-preserved : goal.loop-step-preserved
loop-step-preserved c =
    step_more c.args.register.now.people c.as_slice-rows.result.now c.args.table.now c.args.prog.0 c.loop-step.step-index c.args.left.now c.loop-step.left c.set_step.new.left _ c.loop-step.invariant
    (step_at c.loop-step.step-index _ (omega (arith, c.loop-step-test.true))) c.in_ok-set_step.ensures.set

pub returns : goal.returns
returns c =
    let people = c.args.register.now.people in
    let table = c.args.table.now in
    let before = c.args.left.now in
    let after = c.loop-step.left in
    let upto = c.loop-step.invariant in
    let end = c.loop-step-test.false in
    let set : AreLeftIn people c.as_slice-rows.result.now table c.args.prog.0 before after = record {
      programmes = upto.programmes;
      steps = λ step own. upto.steps step (let low = own_below step own in omega (arith, low, end));
      alone = upto.alone (omega (arith, end));
      elsewhere = upto.elsewhere;
    } in
    record {
      set = all_own people c.args.finals.now table c.args.prog.0 before after
          (subst (λ (rows : List AllotRow). AreLeftIn people rows table c.args.prog.0 before after) (c.as_slice-rows.ensures.value ∙ c.in_ok-own.ensures) set);
    }
