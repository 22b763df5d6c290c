use Rattle.std.proofs.Common.{◌∙◌, List, Option, Some, None, get_or, slice_set, ap, sym}
use Rattle.std.specs.Option.{option_or}
use Rattle.office_base.specs.declared.seat.Seat.{Seat}
use Rattle.audit_rules.proofs.SeatsOfRows.{told_put, told_unknown}
use Rattle.audit_rules.proofs.told.put_row.Goals as goal

pub returns-in_default-clause-told : goal.returns-in_default-clause-told
returns-in_default-clause-told c rows e = e ∙ told_unknown rows c.args.row.now c.args.register.now.people (sym c.in_default.ensures.row)

pub returns-clause-told : goal.returns-clause-told
returns-clause-told c rows e =
    ap (slice_set c.args.seats.now c.in-Some.at) c.or.ensures
    ∙ (ap (λ (z : List (Option Seat)). slice_set z c.in-Some.at (option_or (get_or z c.in-Some.at None) (Some (record { prog = c.args.row.now.prog; step = c.args.row.now.step })))) e
    ∙ told_put rows c.args.row.now c.args.register.now.people c.in-Some.at None c.people.ensures.ranks.rising (sym c.in-Some.ensures.row) c.in-Some.ensures.within)
