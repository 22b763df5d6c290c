use Rattle.special_audit.proofs.Remaining.{one_remaining}
use Rattle.special_audit.proofs.laws.one_remaining_matrix.Goals as goal

pub returns : goal.returns
returns c = one_remaining c.one_certificate.ensures
