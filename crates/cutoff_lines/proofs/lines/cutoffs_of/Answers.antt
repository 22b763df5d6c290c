use Rattle.std.proofs.Common.{◌≡◌, ◌+◌, ◌∙◌, subst, sym, ap}
use Rattle.office_base.specs.declared.person.TraitSet.{TraitSet}
use Rattle.office_base.specs.declared.step.Protections.{Protections}
use Rattle.merit_choice.specs.State.{StepKept}
use Rattle.step_cutoffs.specs.Cutoff.{IsCutoff}
use Rattle.cutoff_lines.specs.Found.{holding}
use Rattle.cutoff_lines.specs.Lines.{is_wider, read_lines}
use Rattle.cutoff_lines.proofs.Building.{IsReadUpTo, line_pushed, line_skipped}
use Rattle.cutoff_lines.proofs.lines.cutoffs_of.Goals.{then-is_wider+in_ok-push, else-is_wider}
use Rattle.cutoff_lines.proofs.lines.cutoffs_of.Goals as goal

pub loop-n-preserved : goal.loop-n-preserved
loop-n-preserved c =
    let set : TraitSet = record { 0 = c.loop-n.n } in
    let kept : StepKept = holding c.args.list c.args.seats c.args.protections.now c.args.held.now in
    let cut : IsCutoff kept set c.cutoff_with-cutoff.result =
    subst (λ (protections : Protections). IsCutoff (holding c.args.list c.args.seats protections c.args.held.now) set c.cutoff_with-cutoff.result) c.in_ok-marked.ensures.same_protections
    c.cutoff_with-cutoff.ensures in
    let told : c.is_wider.result ≡ is_wider c.cutoff_with-cutoff.result (read_lines set c.loop-n.lines) =
    c.is_wider.ensures ∙ ap (is_wider c.cutoff_with-cutoff.result) (c.read_lines.ensures ∙ ap (read_lines set) c.as_slice.ensures) in
    elim c.if-is_wider.branch [
      | then-is_wider+in_ok-push w ↦ subst (IsReadUpTo kept (c.loop-n.n + 1)) (sym (w.lines-is ∙ w.in_ok-push.ensures.ok))
          (line_pushed kept c.loop-n.n c.cutoff_with-cutoff.result c.loop-n.lines c.loop-n-test.true c.loop-n.invariant cut (sym told ∙ w.if-is_wider.true))
      | else-is_wider w ↦ subst (IsReadUpTo kept (c.loop-n.n + 1)) (sym w.lines-is)
          (line_skipped c.more_traits_widen.ensures kept c.loop-n.n c.cutoff_with-cutoff.result c.loop-n.lines c.requires.kept c.loop-n-test.true c.loop-n.invariant cut (sym told ∙ w.if-is_wider.false))
    ]
