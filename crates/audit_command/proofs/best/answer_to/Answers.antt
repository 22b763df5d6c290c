use Rattle.std.proofs.Common.{sym, subst}
use Rattle.std.specs.Prelude.{IfOk}
use Rattle.special_audit.specs.declared.found.Found.{Found}
use Rattle.audit_command.specs.Best.{IsBestAnswerTo}
use Rattle.audit_command.proofs.best.answer_to.Goals as goal

pub returns-in-OfSpecial : goal.returns-in-OfSpecial
returns-in-OfSpecial c = subst (λ (found : Found). IfOk c.special_best.result (IsBestAnswerTo found)) (sym c.in-OfSpecial.is) c.special_best.ensures
