use Rattle.publish.proofs.RoundTrips.{finals-one}
use Rattle.publish.proofs.laws.finals_are_one.Goals as goal

pub returns : goal.returns
returns c = finals-one
