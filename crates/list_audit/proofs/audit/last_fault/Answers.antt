use Rattle.std.proofs.Common.{◌∙◌, map, subst, sym}
use Rattle.office_base.specs.CategorySteps.{category_steps}
use Rattle.office_base.specs.StepChoice.{AreRanked}
use Rattle.placements.proofs.Ranks.{ranked_sublist}
use Rattle.list_audit.specs.Clauses.{named_by}
use Rattle.programme_lists.proofs.Parts.{left_part}
use Rattle.list_audit.proofs.audit.last_fault.Goals as goal

pub step_fault-requires-clause-ranked : goal.step_fault-requires-clause-ranked
step_fault-requires-clause-ranked c =
    subst (AreRanked c.args.seats.now.list) (sym (c.as_slice.ensures ∙ c.in_ok-left.ensures))
    (ranked_sublist c.args.seats.now.list _ c.args.rest.now c.requires.ranked (left_part (map (λ row. row.step) category_steps) c.args.rest.now (named_by c.args.programme.now)))
