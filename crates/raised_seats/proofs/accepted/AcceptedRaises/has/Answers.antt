use Rattle.std.proofs.Common.{ap, ◌∙◌}
use Rattle.std.specs.List.{list_any}
use Rattle.raised_seats.specs.Keys.{Accepted}
use Rattle.office_moves.specs.Decided.{same_raise}
use Rattle.raised_seats.proofs.Keyed.{is_among}
use Rattle.raised_seats.proofs.accepted.AcceptedRaises.has.Goals as goal

pub returns : goal.returns
returns c =
    let bound = rw c.deref.ensures.value at c.binary_search.ensures.bound in
    let position = rw (c.deref.ensures.value, c.step_number.ensures) at c.binary_search.ensures.position in
    c.is_ok.ensures.value ∙ is_among c.self.inside.rows.items c.self.inside.sorted.items c.args.row c.self.invariant c.binary_search.result bound position
    ∙ ap (λ (r : Accepted). list_any (same_raise c.args.row) r.rows) c.self.view_is
