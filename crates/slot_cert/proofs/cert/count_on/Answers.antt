use Rattle.std.proofs.Common.{rules}
use Rattle.slot_cert.proofs.Pairs.{count_by-slot}
use Rattle.slot_cert.proofs.cert.count_on.Goals as goal

pub returns : goal.returns
returns c = search (rules, count_by-slot)
