use Rattle.same_input_laws.proofs.AuditEnds as ends
use Rattle.same_input_laws.proofs.laws.audits_are_one.Goals as goal

pub returns : goal.returns
returns c = record { audits = ends.audits_are_one c.one_audit.ensures; best = ends.best_audits_are_one c.one_audit.ensures c.one_best.ensures }
