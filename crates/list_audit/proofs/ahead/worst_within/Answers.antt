use Rattle.std.proofs.Common.{◌∙◌, ◌+◌, Option, List, subst, sym, take, take_all}
use Rattle.office_base.specs.declared.person.Person.{Person}
use Rattle.list_audit.specs.Reckoning.{IsWorstWithin}
use Rattle.list_audit.proofs.Worst.{worst_next, worst_same}
use Rattle.list_audit.proofs.ahead.worst_within.Goals.{then-is_within, else-is_within}
use Rattle.list_audit.proofs.ahead.worst_within.Goals as goal

pub loop-member-preserved : goal.loop-member-preserved
loop-member-preserved c =
    let so_far : Option Person → Type 0 = λ worst. IsWorstWithin c.args.list c.args.set (take (c.loop-member.member-index + 1) c.args.members.now) worst in
    elim c.if-is_within.branch [
      | then-is_within w ↦ subst so_far (sym w.worst-is)
          (worst_next c.args.list c.args.set c.args.members.now c.loop-member.member-index _ c.loop-member.worst c.loop-member-test.true c.loop-member.invariant
          w.worse_of-worst.result (sym c.is_within.ensures ∙ w.if-is_within.true) w.worse_of-worst.ensures)
      | else-is_within w ↦ subst so_far (sym w.worst-is)
          (worst_same c.args.list c.args.set c.args.members.now c.loop-member.member-index _ c.loop-member.worst c.loop-member-test.true c.loop-member.invariant
          (sym c.is_within.ensures ∙ w.if-is_within.false))
    ]

pub returns : goal.returns
returns c =
    subst (λ (those : List Person). IsWorstWithin c.args.list c.args.set those c.loop-member.worst)
    (take_all c.loop-member.member-index c.args.members.now c.loop-member-test.false) c.loop-member.invariant
