use Rattle.office_base.specs.Placement.{Fills}
use Rattle.slot_cert.proofs.ListParts.{Any-at}
use Rattle.slot_cert.proofs.cert.first_filled.Goals as goal

pub returns-then-fills-clause-found : goal.returns-then-fills-clause-found
returns-then-fills-clause-found c = Any-at (Fills c.args.pair.now) c.args.people.now c.loop-at.at _ c.loop-at-test.true (c.fills.ensures.0 c.if-fills.true)
