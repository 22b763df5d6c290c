use Rattle.std.proofs.Common.{ap}
use Rattle.std.specs.Prelude.{is_ok}
use Rattle.std.specs.List.{list_any}
use Rattle.raised_seats.specs.Keys.{Accepted}
use Rattle.office_moves.specs.Decided.{same_raise}
use Rattle.raised_seats.proofs.Keyed.{is_among, with_key}
use Rattle.raised_seats.proofs.accepted.AcceptedRaises.put.Goals as goal

pub unreachable-requires : goal.unreachable-requires
unreachable-requires c =
    let bound = rw c.deref.ensures.value at c.binary_search.ensures.bound in
    let position = rw (c.deref.ensures.value, c.step_number.ensures) at c.binary_search.ensures.position in
    let among = is_among c.self.inside.rows.items c.self.inside.sorted.items c.args.row c.self.invariant c.binary_search.result bound position in
    cc (among, ap is_ok c.in_default.is, ap (λ (r : Accepted). list_any (same_raise c.args.row) r.rows) c.self.view_is)

pub invariant_of-self : goal.invariant_of-self
invariant_of-self c =
    let bound = rw c.deref.ensures.value at c.in-Err.ensures.bound in
    let position = rw (c.deref.ensures.value, c.step_number.ensures) at c.in-Err.ensures.position in
    let with = with_key c.self.inside.rows.items c.self.inside.sorted.items c.args.row c.self.invariant c.in-Err.at bound position in
    rw (c.in-Ok-push.ensures.items, c.in-Ok.ensures.items, c.step_number.ensures) with
