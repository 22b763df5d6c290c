use Rattle.publish.proofs.RoundTrips.{rounds-read}
use Rattle.publish.proofs.laws.rounds_are_read.Goals as goal

pub returns : goal.returns
returns c = rounds-read
