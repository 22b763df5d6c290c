use Rattle.std.proofs.Common.{◌≡◌, ◌-◌, ◌∙◌, ℕ, suc, drop, length, arith, subst, sym, ap}
use Rattle.std.specs.List.{AllByRecursion, AllZip}
use Rattle.std.proofs.lemmas.Bool.{both_ways}
use Rattle.std.proofs.lemmas.Slice.Zip.{AllZip-long}
use Rattle.office_base.specs.Person.{number_of}
use Rattle.office_base.proofs.Lists.{all_among}
use Rattle.merit_choice.specs.Needed.{Tells}
use Rattle.cutoff_lines.specs.Found.{IsSpare}
use Rattle.cutoff_lines.proofs.Finding.{found_last, spare_at}
use Rattle.cutoff_lines.proofs.Places.{one_more}
use Rattle.cutoff_lines.proofs.spare.last_spare.Goals as goal

pub bounds-needed-at : goal.bounds-needed-at
bounds-needed-at c =
    let long = AllZip-long (Tells c.args.marked.now.matching.members) c.args.held.now c.args.marked.now.needed c.requires.told in
    let same = ap length c.as_slice-needed.ensures in
    let more = c.loop-at-test.true in
    let within = c.loop-at.invariant.0 in
    omega (arith, long, same, more, within)

pub returns-then-is_spare : goal.returns-then-is_spare
returns-then-is_spare c =
    let at = c.loop-at.at in
    let held = c.args.held.now in
    let more = c.loop-at-test.true in
    let within = c.loop-at.invariant.0 in
    let told = subst (AllZip (Tells c.args.marked.now.matching.members) held) (sym c.as_slice-needed.ensures) c.requires.told in
    let past : suc (at - 1) ≡ at = omega (arith, more) in
    found_last c.args.list held c.args.marked.now.matching.members c.args.set (at - 1) _ c.number.result c.requires.ranked (omega (arith, more, within))
    ((spare_at c.args.marked.now.matching.members held c.as_slice-needed.result.now c.args.set (at - 1) _ _ told (omega (arith, more, within))).0 (c.is_spare.ensures.0 c.if-is_spare.true))
    (subst (λ (n : ℕ). AllByRecursion (λ one. IsSpare c.args.marked.now.matching.members c.args.set one → ⊥) (drop n held)) (sym past) c.loop-at.invariant.1)
    (sym (c.number.ensures ∙ ap number_of c.place.ensures))

pub loop-at-preserved : goal.loop-at-preserved
loop-at-preserved c =
    let at = c.loop-at.at in
    let held = c.args.held.now in
    let more = c.loop-at-test.true in
    let within = c.loop-at.invariant.0 in
    let told = subst (AllZip (Tells c.args.marked.now.matching.members) held) (sym c.as_slice-needed.ensures) c.requires.told in
    let past : suc (at - 1) ≡ at = omega (arith, more) in (
      omega (arith, more, within),
      one_more (λ one. IsSpare c.args.marked.now.matching.members c.args.set one → ⊥) held (at - 1) _ (omega (arith, more, within))
          (λ spare. both_ways _ c.if-is_spare.false (c.is_spare.ensures.1 ((spare_at c.args.marked.now.matching.members held c.as_slice-needed.result.now c.args.set (at - 1) _ _ told (omega (arith, more, within))).1 spare)))
          (subst (λ (n : ℕ). AllByRecursion (λ one. IsSpare c.args.marked.now.matching.members c.args.set one → ⊥) (drop n held)) (sym past) c.loop-at.invariant.1),
    )

pub returns : goal.returns
returns c = λ other here spare.
    let none = c.loop-at-test.false in
    let start : c.loop-at.at ≡ 0 = omega (arith, none) in
    let all : AllByRecursion (λ one. IsSpare c.args.marked.now.matching.members c.args.set one → ⊥) c.args.held.now =
    subst (λ (n : ℕ). AllByRecursion (λ one. IsSpare c.args.marked.now.matching.members c.args.set one → ⊥) (drop n c.args.held.now)) start c.loop-at.invariant.1 in
    all_among (λ one. IsSpare c.args.marked.now.matching.members c.args.set one → ⊥) c.args.held.now other all here spare
