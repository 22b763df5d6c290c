use Rattle.std.proofs.Common.{refl}
use Rattle.http_wire.specs.Statuses.{phrase}
use Rattle.http_wire.proofs.laws.phrases_are_these.Goals as goal

pub returns : goal.returns
unfolding phrase
returns c = refl
