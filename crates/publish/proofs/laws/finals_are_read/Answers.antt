use Rattle.publish.proofs.RoundTrips.{finals-read}
use Rattle.publish.proofs.laws.finals_are_read.Goals as goal

pub returns : goal.returns
returns c = finals-read
