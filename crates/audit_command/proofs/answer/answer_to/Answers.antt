use Rattle.std.proofs.Common.{sym, subst}
use Rattle.std.specs.Prelude.{IfOk}
use Rattle.special_audit.specs.declared.found.Found.{Found}
use Rattle.audit_command.specs.Audit.{IsAnswerTo}
use Rattle.audit_command.proofs.answer.answer_to.Goals as goal

pub returns-in-OfSpecial : goal.returns-in-OfSpecial
returns-in-OfSpecial c = subst (λ (found : Found). IfOk c.special_answer.result (IsAnswerTo found)) (sym c.in-OfSpecial.is) c.special_answer.ensures
