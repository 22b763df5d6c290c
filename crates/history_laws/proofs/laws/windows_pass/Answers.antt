use Rattle.history_laws.proofs.Windows.{windows_pass}
use Rattle.history_laws.proofs.laws.windows_pass.Goals as goal

pub returns : goal.returns
returns c = windows_pass
