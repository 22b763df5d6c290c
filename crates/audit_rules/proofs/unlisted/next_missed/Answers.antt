use Rattle.std.proofs.Common.{◌≡◌, ◌∙◌, Some, false, arith, ap, sym}
use Rattle.office_base.specs.declared.seat.Seat.{Seat}
use Rattle.std.proofs.lemmas.Option.{same_Some}
use Rattle.audit_rules.proofs.Missing.{missed_not, missed_one}
use Rattle.audit_rules.proofs.unlisted.next_missed.Goals as goal

pub returns-in_default : goal.returns-in_default
returns-in_default c people seats entries marks has marked h =
    missed_not people seats entries marks c.args.count c.args.at c.args.first (λ s there few no'. absurd (
    let e : Some s ≡ c.args.seat = same_Some (Some s) c.args.seat (sym there ∙ has) in
    let f = c.in_default.is in
    cc)) h

pub returns-then-from-count : goal.returns-then-from-count
returns-then-from-count c people seats entries marks has marked h =
    missed_not people seats entries marks c.args.count c.args.at c.args.first (λ s there few no'. absurd (
    let e : Some s ≡ Some c.in-Some.seat = same_Some (Some s) c.args.seat (sym there ∙ has) ∙ c.in-Some.is in
    let f = ap (λ (x : Seat). x.prog.0) (same_Some s c.in-Some.seat e) in
    omega (arith, few, f, c.if-from-count.true, c.from.ensures))) h

pub returns-then-marked : goal.returns-then-marked
returns-then-marked c people seats entries marks has marked h =
    missed_not people seats entries marks c.args.count c.args.at c.args.first (λ s there few no'. absurd (
    let e : c.args.marked ≡ false = same_Some c.args.marked false (sym marked ∙ no') in
    let f = c.if-marked.true in
    cc)) h

pub returns : goal.returns
returns c people seats entries marks has marked h =
    missed_one people seats entries marks c.args.count c.args.at c.args.first c.earlier.result c.in-Some.seat (has ∙ ap Some c.in-Some.is) (omega (arith, c.if-from-count.false, c.from.ensures))
    (marked ∙ ap Some c.if-marked.false) c.earlier.ensures h
