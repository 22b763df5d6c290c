use Rattle.std.proofs.Common.{◌-◌, ◌∙◌, ℕ, [], length, sym, ap, arith}
use Rattle.std.proofs.lemmas.Result.{IfOk-weaker}
use Rattle.office_base.specs.StepChoice.{IsStepChoice}
use Rattle.merit_choice.proofs.Raises.{length-raises}
use Rattle.merit_choice.proofs.Filled.{marked_within, admitted-is_choice}
use Rattle.merit_choice.proofs.choice.admit.Goals as goal

pub overflow_sub-free : goal.overflow_sub-free
overflow_sub-free c =
    let step = c.args.step.now in
    let needed = c.in_ok-needed.needed in
    omega (arith, marked_within step needed.marks c.requires c.in_ok-needed.ensures.marks, c.in_ok-needed.ensures.count)

pub fill_up-requires : goal.fill_up-requires
fill_up-requires c =
    let step = c.args.step.now in
    let needed = c.in_ok-needed.needed in
    ap length c.as_slice-2.ensures ∙ (length-raises step.protections [] step.people needed.marks c.in_ok-needed.ensures.marks ∙ ap length (sym c.as_slice.ensures))

pub returns : goal.returns
returns c =
    let step = c.args.step.now in
    let needed = c.in_ok-needed.needed in
    IfOk-weaker c.fill_up.result _ (IsStepChoice step)
    (λ admitted told.
    admitted-is_choice step c.as_slice.result.now admitted needed.marks c.as_slice-2.result.now (step.seats - needed.count) c.requires c.in_ok-needed.ensures.marks c.as_slice.ensures
    c.as_slice-2.ensures (ap (λ (n : ℕ). step.seats - n) c.in_ok-needed.ensures.count) told)
    c.fill_up.ensures
