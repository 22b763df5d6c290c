use Rattle.audit_rules.proofs.OneVerdict
use Rattle.audit_rules.proofs.laws.one_verdict.Goals as goal

pub returns : goal.returns
returns c = OneVerdict.one_verdict c.one_fault.ensures
