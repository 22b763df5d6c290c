use Rattle.std.proofs.Common.{◌∙◌, sym, subst, Option, take, ◌+◌}
use Rattle.std.proofs.lemmas.Bool.{both_ways}
use Rattle.office_base.specs.declared.person.Person.{Person}
use Rattle.slot_matching.specs.Members.{IsWorstWithin}
use Rattle.slot_matching.proofs.Found.{worst_next, worst_same, is_next, is_not_next}
use Rattle.slot_matching.proofs.members.worst_within.Goals.{then-is_within+then-is_next_worst, else-is_within, else-is_within-via-then-is_within+else-is_next_worst, else-is_within-via-else-is_within}
use Rattle.slot_matching.proofs.members.worst_within.Goals as goal

pub loop-member-preserved : goal.loop-member-preserved
loop-member-preserved c =
    let so_far : Option Person → Type 0 = λ worst. IsWorstWithin c.args.list c.args.set (take (c.loop-member.member-index + 1) c.args.members.now) worst in
    elim c.if-is_within.branch [
      | then-is_within+then-is_next_worst w ↦ subst so_far (sym w.worst-is)
          (worst_next c.args.list c.args.set c.args.members.now c.loop-member.member-index _ c.loop-member.worst c.loop-member-test.true
          (sym c.is_within.ensures ∙ w.if-is_within.true)
          (is_next c.args.list c.loop-member.worst _ w.is_next_worst.result w.is_next_worst.ensures w.if-is_next_worst.true)
          c.loop-member.invariant)
      | else-is_within w ↦ subst so_far (sym w.worst-is) (elim w.else-is_within.branch [
        | else-is_within-via-then-is_within+else-is_next_worst w' ↦
            worst_same c.args.list c.args.set c.args.members.now c.loop-member.member-index _ c.loop-member.worst c.loop-member-test.true
            (λ inside. is_not_next c.args.list c.loop-member.worst _ w'.is_next_worst.result w'.is_next_worst.ensures w'.if-is_next_worst.false)
            c.loop-member.invariant
        | else-is_within-via-else-is_within w' ↦
            worst_same c.args.list c.args.set c.args.members.now c.loop-member.member-index _ c.loop-member.worst c.loop-member-test.true
            (λ inside next. both_ways _ (sym c.is_within.ensures ∙ w'.if-is_within.false) inside)
            c.loop-member.invariant
      ])
    ]
