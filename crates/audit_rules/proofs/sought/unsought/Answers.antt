use Rattle.std.proofs.Common.{◌∙◌, Option, ap, subst, sym}
use Rattle.std.specs.Prelude.{option_map}
use Rattle.allocations.specs.Fair.{IsOwn}
use Rattle.office_base.specs.declared.seat.Seat.{Seat}
use Rattle.seeks.specs.Seek.{is_listed, seek_leaves}
use Rattle.seeks.specs.declared.seek.Seek.{Seek}
use Rattle.audit_rules.specs.Stands.{seek_by}
use Rattle.audit_rules.proofs.Seeking.{listed_own, own_listed}
use Rattle.audit_rules.proofs.sought.unsought.Goals as goal

pub returns-then-is_sought-clause-none : goal.returns-then-is_sought-clause-none
returns-then-is_sought-clause-none c =
    let left = seek_leaves c.args.matrix.now (seek_by c.args.list.now c.args.stand.now) c.args.list.now in
    let same = ap (λ (q : Seek). is_listed c.in_ok-seat.seat.prog.0 (seek_leaves c.args.matrix.now q c.args.list.now)) c.seek_of.ensures in
    subst (λ (o : Option Seat). IsOwn left o) (sym c.in_ok-seat.was) (listed_own c.in_ok-seat.seat.prog.0 left (sym same ∙ sym c.if-is_sought.ensures))

pub returns-else-is_sought-clause-some : goal.returns-else-is_sought-clause-some
returns-else-is_sought-clause-some c =
    let left = seek_leaves c.args.matrix.now (seek_by c.args.list.now c.args.stand.now) c.args.list.now in
    let same = ap (λ (q : Seek). is_listed c.in_ok-seat.seat.prog.0 (seek_leaves c.args.matrix.now q c.args.list.now)) c.seek_of.ensures in (
      (λ own. own_listed c.in_ok-seat.seat.prog.0 left (sym same ∙ sym c.if-is_sought.ensures) (subst (λ (o : Option Seat). IsOwn left o) c.in_ok-seat.was own)),
      ap (option_map (λ (given : Seat). given.prog)) c.in_ok-seat.was,
    )
