use Rattle.std.proofs.Common.{List, [], Option, subst, sym}
use Rattle.office_base.specs.declared.seat.Seat.{Seat}
use Rattle.replays.specs.Differences.{AreFound}
use Rattle.replays.proofs.compare.compare.Goals as goal

pub returns : goal.returns
returns c =
    let found = subst (λ (f : List (Option Seat)). AreFound c.args.number c.args.register.now.people c.args.rows.now [] f) (sym c.as_slice.ensures.value) c.in_ok-kept.ensures in
    c.earlier.ensures _ _ (c.difference_inside-inside.ensures c.args.rows.now c.args.number found) (c.difference_outside-outside.ensures c.args.computed.now)
