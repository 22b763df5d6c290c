use Rattle.std.proofs.lemmas.List.{take_rest}
use Rattle.office_base.specs.Placement.{Fills}
use Rattle.slot_cert.proofs.ListParts.{Any-from_drop, Any-else_first}
use Rattle.slot_cert.proofs.cert.first_filled_from.Goals as goal

pub returns-in-Some-clause-found : goal.returns-in-Some-clause-found
returns-in-Some-clause-found c =
    Any-from_drop (Fills c.args.pair.now) c.args.next c.args.people.now (rw (take_rest c.args.people.now c.args.next) at c.in-Some.ensures.found)

pub returns-in-None-clause-found : goal.returns-in-None-clause-found
returns-in-None-clause-found c =
    Any-else_first (Fills c.args.pair.now) c.args.next c.args.people.now c.first_filled-in-None.result
    (rw (take_rest c.args.people.now c.args.next) at c.in-None.ensures.found) c.first_filled-in-None.ensures.found
