use Rattle.std.proofs.Common.{◌≡◌, List, length, arith, add-one, one-add, rules, refl, sym, subst}
use Rattle.office_base.specs.declared.person.Person.{Person}
use Rattle.office_base.specs.declared.step.Protections.{Protections}
use Rattle.placements.specs.Greatest.{IsGreatest}
use Rattle.choice_trials.specs.First.{StandsOnNoneBelow}
use Rattle.choice_trials.proofs.Parts.{first_and_rest}
use Rattle.choice_trials.proofs.First.{StandsOnNoneBelow-passed, StandsOnNoneBelow-fewer, StandsNowhere-from_below}
use Rattle.choice_trials.proofs.certifying.first_stand.Goals as goal
use Rattle.choice_trials.proofs.certifying.first_stand.Goals.{in-Some+else-greatest-number, in_default-left_after}

pub loop-t-preserved : goal.loop-t-preserved
loop-t-preserved c = elim c.match-left_after.branch [
  | in-Some+else-greatest-number w ↦
      let stands = w.in-Some.ensures.exact.0 refl in
      let rest = subst (λ (l : Protections). IsGreatest l _ w.greatest.result) w.in-Some.ensures.stands w.greatest.ensures.number in
      let whole = subst (λ (l : List Person). IsGreatest c.args.left l c.greatest-number.result) (first_and_rest c.args.people.now _ c.in-len1-up.len_at_least) c.greatest-number.ensures.number in
      rw add-one (StandsOnNoneBelow-fewer c.args.left _ _ c.greatest-number.result c.loop-t.t c.loop-t.invariant w.greatest.result stands.0 stands.1 rest whole (λ e. w.if-greatest-number.false (rw one-add e)))
  | in_default-left_after w ↦ rw add-one (StandsOnNoneBelow-passed c.args.left _ _ c.greatest-number.result c.loop-t.t c.loop-t.invariant (λ holds room. cc (w.in_default-left_after.ensures.exact.1 (holds, room))))
]

pub returns-clause-nowhere : goal.returns-clause-nowhere
returns-clause-nowhere c =
    let six : length c.args.left.counts ≡ 6 = search rules in
    let below = subst (λ (l : List Person). StandsOnNoneBelow c.loop-t.t c.args.left l c.greatest-number.result) (sym (first_and_rest c.args.people.now _ c.in-len1-up.len_at_least)) c.loop-t.invariant in
    StandsNowhere-from_below c.args.left c.args.people.now c.greatest-number.result c.loop-t.t (omega arith) c.greatest-number.ensures.number below
