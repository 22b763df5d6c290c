use Rattle.std.proofs.Common.{◌≡◌, ◌∙◌, Some, None, true, false, arith, ap, sym}
use Rattle.std.proofs.lemmas.Option.{get_or_from_slice_get, slice_get-get_or}
use Rattle.audit_rules.proofs.Missing.{marking_right, marking_unknown, marking_wrong}
use Rattle.audit_rules.proofs.unlisted.mark_one.Goals as goal

pub returns-in_default-clause-marking : goal.returns-in_default-clause-marking
returns-in_default-clause-marking c entries h =
    marking_unknown c.args.register.now.people c.args.seats.now entries c.args.marks.now c.args.first c.args.entry h (sym c.in_default.ensures.row)

pub returns-then-not-is_seat-clause-marking : goal.returns-then-not-is_seat-clause-marking
returns-then-not-is_seat-clause-marking c entries h =
    marking_wrong c.args.register.now.people c.args.seats.now entries c.args.marks.now c.args.first c.earlier.result c.args.entry c.in-Some.at h (sym c.in-Some.ensures.row)
    (λ has.
    let yes' = c.is_seat.ensures.1 (get_or_from_slice_get c.args.seats.now c.in-Some.at (Some c.args.entry.seat) None has) in
    let wrong : true ≡ false = sym yes' ∙ c.if-not-is_seat.true in
    cc) c.earlier.ensures

pub returns-clause-marking : goal.returns-clause-marking
returns-clause-marking c entries h =
    let less = c.in-Some.ensures.within in
    let full = c.requires.seats in
    marking_right c.args.register.now.people c.args.seats.now entries c.args.marks.now c.args.first c.args.entry c.in-Some.at h (sym c.in-Some.ensures.row) less
    (slice_get-get_or c.args.seats.now c.in-Some.at None (omega (arith, less, full)) ∙ ap Some (c.is_seat.ensures.0 c.if-not-is_seat.false))
