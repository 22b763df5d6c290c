use Rattle.publish.proofs.RoundTrips.{rounds-one}
use Rattle.publish.proofs.laws.rounds_are_one.Goals as goal

pub returns : goal.returns
returns c = rounds-one
