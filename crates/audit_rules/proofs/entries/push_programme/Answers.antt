use Rattle.std.proofs.Common.{◌≡◌, ◌++◌, ℕ, drop, add-one, arith, sym, ◌∙◌, subst}
use Rattle.std.proofs.lemmas.Option.{slice_get-get_or}
use Rattle.office_base.specs.CategorySteps.{all_steps}
use Rattle.audit_rules.specs.Entries.{of_kinds, of_programme}
use Rattle.audit_rules.proofs.Listing.{step_more}
use Rattle.audit_rules.proofs.entries.push_programme.Goals as goal

pub loop-step-preserved : goal.loop-step-preserved
loop-step-preserved c =
    let p = c.args.prog.0 in
    let programme = c.args.programme.now in
    let items = c.push_kind.new.entries.items in
    let P : ℕ → Type 0 = λ n. items ++ of_kinds p programme (drop n all_steps) ≡ c.args.entries.now.items ++ of_programme p programme in
    subst P (sym (add-one c.loop-step.step-index))
    (step_more p programme c.loop-step.entries.items items all_steps c.loop-step.step-index _ (slice_get-get_or all_steps c.loop-step.step-index _ (omega (arith, c.loop-step-test.true)))
    c.in_ok-push_kind.ensures ∙ c.loop-step.invariant)
