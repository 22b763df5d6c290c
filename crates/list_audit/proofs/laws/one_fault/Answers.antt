use Rattle.list_audit.proofs.OneFault
use Rattle.list_audit.proofs.laws.one_fault.Goals as goal

pub returns : goal.returns
returns c = OneFault.one_fault
