use Rattle.std.proofs.Common.{◌≡◌, [], take, take_all, sym, ◌∙◌, subst}
use Rattle.std.proofs.Common.{List, Bool, ◌+◌}
use Rattle.office_base.specs.declared.person.Person.{Person}
use Rattle.merit_choice.specs.Marks.{AreRaises}
use Rattle.merit_choice.proofs.Marking.{IsMarked, marked_nobody, may_join_at, marked_at}
use Rattle.merit_choice.proofs.choice.find_needed.Goals as goal

pub loop-person-init : goal.loop-person-init
loop-person-init c = (c.as_slice-people.ensures, marked_nobody c.args.step.now c.in_ok-matching.matching c.in_ok-marks.marks c.in_ok-matching.ensures c.in_ok-marks.ensures)

pub try_join-requires : goal.try_join-requires
try_join-requires c =
    may_join_at c.args.step.now c.as_slice-people.result.now c.loop-person.person-index _ c.loop-person.matching c.loop-person.marks c.requires.step
    c.loop-person.invariant.0 c.loop-person-test.true c.loop-person.invariant.1

pub loop-person-preserved : goal.loop-person-preserved
loop-person-preserved c =
    let at = c.loop-person.person-index in
    let people = c.as_slice-people.result.now in (
      c.loop-person.invariant.0,
      subst (λ (marks : List Bool). IsMarked c.args.step.now (take (at + 1) people) c.try_join.new.matching marks) (sym c.in_ok-push.ensures.ok)
          (marked_at c.args.step.now people at _ c.loop-person.matching c.try_join.new.matching c.loop-person.marks c.try_join.result c.requires.step c.loop-person.invariant.0
          c.loop-person-test.true c.loop-person.invariant.1 c.try_join.ensures),
    )

pub returns-clause-marks : goal.returns-clause-marks
returns-clause-marks c =
    let people = c.as_slice-people.result.now in
    let whole : take c.loop-person.person-index people ≡ people = take_all c.loop-person.person-index people c.loop-person-test.false in
    subst (λ (those : List Person). AreRaises c.args.step.now.protections [] those c.loop-person.marks) (whole ∙ c.loop-person.invariant.0) c.loop-person.invariant.1.raises

pub returns-clause-count : goal.returns-clause-count
returns-clause-count c = c.honoured.ensures.number ∙ sym c.loop-person.invariant.1.count
