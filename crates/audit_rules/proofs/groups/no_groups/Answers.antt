use Rattle.std.proofs.Common.{◌++◌, ◌∷◌, [], ◌∙◌, ℕ, List, ap}
use Rattle.audit_rules.proofs.Grouping.{one_more}
use Rattle.audit_rules.proofs.groups.no_groups.Goals as goal

pub loop-done-preserved : goal.loop-done-preserved
loop-done-preserved c =
    one_more [] c.loop-done.done c.loop-done.groups.items _ c.loop-done.invariant (c.in_ok-push.ensures.items ∙ ap (λ (z : List ℕ). c.loop-done.groups.items ++ z ∷ []) c.new.ensures)
