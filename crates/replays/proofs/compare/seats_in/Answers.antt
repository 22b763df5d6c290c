use Rattle.std.proofs.Common.{◌≡◌, ◌∙◌, ◌+◌, List, Option, drop, length, subst, sym}
use Rattle.std.proofs.lemmas.List.{drop_more}
use Rattle.office_base.proofs.Lists.{whole_again}
use Rattle.office_base.specs.declared.seat.Seat.{Seat}
use Rattle.replays.specs.Differences.{AreFound}
use Rattle.replays.proofs.compare.seats_in.Goals as goal

pub loop-row-preserved : goal.loop-row-preserved
loop-row-preserved c =
    let people = c.args.register.now.people in
    let rows = c.args.rows.now in
    let before = c.loop-row.found in
    let old = subst (λ (found : List (Option Seat)). AreFound c.args.number people rows (drop c.loop-row.row-index rows) found) (sym c.deref_mut.ensures.value) c.loop-row.invariant in
    let after = c.put_seat.ensures rows _ (subst (λ rest. AreFound c.args.number people rows rest c.deref_mut.result.now) (drop_more rows c.loop-row.row-index _ c.loop-row-test.true) old) in
    let same : length c.put_seat.new.found ≡ length before.items = after.full ∙ sym c.loop-row.invariant.full in
    subst (λ (found : List (Option Seat)). AreFound c.args.number people rows (drop (c.loop-row.row-index + 1) rows) found) (sym (whole_again c.put_seat.new.found before.items before.len same before.ok.0)) after
