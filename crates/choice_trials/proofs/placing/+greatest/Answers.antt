use Rattle.std.proofs.Common.{◌≡◌, ◌-◌, ◌≤◌, ◌<◌, ℕ, List, length, get_or, take, drop, arith, rules, refl, subst, sym, add-one, one-add}
use Rattle.std.proofs.lemmas.List.{get_or_past}
use Rattle.office_base.specs.declared.person.Person.{Person}
use Rattle.office_base.specs.declared.step.Protections.{Protections}
use Rattle.placements.specs.Greatest.{IsGreatest, IsGreatestBelow}
use Rattle.placements.proofs.Greatest.{IsGreatestBelow-none, IsGreatestBelow-passed, IsGreatestBelow-taken, IsGreatest-from_below}
use Rattle.choice_trials.proofs.Parts.{first_and_rest}
use Rattle.choice_trials.proofs.placing.+greatest.Goals as goal
use Rattle.choice_trials.proofs.placing.+greatest.Goals.{in-Some, in_default-left_after}

pub loop-t-init : goal.loop-t-init
loop-t-init t c = record {
  below = IsGreatestBelow-none _ _ _ _ c.greatest-number.ensures.number;
  within = omega arith;
}

pub loop-t-preserved : goal.loop-t-preserved
loop-t-preserved t c = elim c.match-left_after.branch [
  | in-Some w ↦
      let stands = w.in-Some.ensures.stands in
      let exact = w.in-Some.ensures.exact.0 refl in
      let others = subst (λ rest. IsGreatest rest _ w.greatest.result) stands w.greatest.ensures.number in
      record {
        below = rw (add-one, w.number-is, w.max-number.ensures, one-add) (IsGreatestBelow-taken c.loop-t.t _ _ _ c.loop-t.number w.greatest.result exact.0 exact.1 others c.loop-t.invariant.below);
        within = omega arith;
      }
  | in_default-left_after w ↦ record {
    below = rw (add-one, w.number-is) (IsGreatestBelow-passed c.loop-t.t _ _ _ c.loop-t.number (λ holds room. cc (w.in_default-left_after.ensures.exact.1 (holds, room))) c.loop-t.invariant.below);
    within = omega arith;
  }
]

-- all six traits are behind
after_six : (left : Protections) (people : List Person) (d : Person) (number bound : ℕ) → 0 < length people → length left.counts ≡ 6 → 6 ≤ bound
    → IsGreatestBelow bound left (get_or people 0 d) (take (length people - 1) (drop 1 people)) number → IsGreatest left people number
after_six left people d number bound some six h below = subst (λ (l : List Person). IsGreatest left l number) (sym (first_and_rest people d some))
    (IsGreatest-from_below bound left _ _ number (λ t k. get_or_past left.counts t 0 (omega arith)) below)

pub returns-clause-number : goal.returns-clause-number
returns-clause-number t c = after_six c.args.left c.args.people.now _ c.loop-t.number c.loop-t.t (omega arith) (search rules) (omega arith) c.loop-t.invariant.below
