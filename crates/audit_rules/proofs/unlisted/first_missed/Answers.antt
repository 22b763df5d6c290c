use Rattle.std.proofs.Common.{◌≡◌, ℕ, arith, length, subst}
use Rattle.std.proofs.lemmas.Option.{slice_get-get_or}
use Rattle.audit_rules.specs.Entries.{IsFirstMiss, IsMiss}
use Rattle.audit_rules.proofs.Missing.{missed_none}
use Rattle.audit_rules.proofs.unlisted.first_missed.Goals as goal

pub loop-at-init : goal.loop-at-init
loop-at-init c people entries h = missed_none people c.args.seats.now entries c.args.marks.now c.args.count c.args.wrong h

pub loop-at-preserved : goal.loop-at-preserved
loop-at-preserved c people entries h =
    let less = c.loop-at-test.true in
    c.next_missed-first.ensures people c.args.seats.now entries c.args.marks.now (slice_get-get_or c.args.seats.now c.loop-at.at _ less)
    (slice_get-get_or c.args.marks.now c.loop-at.at _ (let same = c.requires in omega (arith, same, less))) (c.loop-at.invariant people entries h)

pub returns : goal.returns
returns c people entries h =
    let last : c.loop-at.at ≡ length c.args.seats.now = omega (arith, c.loop-at-test.false, c.loop-at.auto.at-end) in
    subst (λ (n : ℕ). IsFirstMiss (IsMiss people c.args.seats.now entries c.args.marks.now c.args.count n) c.loop-at.first) last (c.loop-at.invariant people entries h)
