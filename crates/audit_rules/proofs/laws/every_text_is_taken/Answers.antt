use Rattle.audit_rules.proofs.Taken as taken
use Rattle.audit_rules.proofs.laws.every_text_is_taken.Goals as goal

pub returns : goal.returns
returns c = taken.every_text_is_taken
