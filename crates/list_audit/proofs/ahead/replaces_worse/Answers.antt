use Rattle.std.proofs.Common.{◌≡◌, ℕ, None, true, subst}
use Rattle.std.specs.Int.Bits.{mask_lt}
use Rattle.std.specs.Prelude.{◌↔◌, IsTrue, Option, Some, bit_and, slice_index_or}
use Rattle.office_base.specs.Person.{IsBetter}
use Rattle.office_base.specs.declared.person.Person.{Person}
use Rattle.office_base.specs.declared.person.TraitSet.{TraitSet}
use Rattle.placements.specs.Demand.{is_within}
use Rattle.slot_matching.specs.Augmented.{CanReplace}
use Rattle.slot_matching.specs.Replaceable.{IsReplaceable}
use Rattle.list_audit.specs.Reckoning.{IsBetterThan}
use Rattle.list_audit.proofs.AheadBy.{any_of}
use Rattle.list_audit.proofs.Worst.{any_masked}
use Rattle.list_audit.proofs.ahead.replaces_worse.Goals as goal

pub returns : goal.returns
returns c =
    let kept = c.args.needed.now in
    let person : Person = c.args.person.now in
    let list = c.args.list in
    let set : TraitSet = c.in-Some.set in
    let told : IsReplaceable kept person (Some set) = subst (λ (o : Option TraitSet). IsReplaceable kept person o) c.in-Some.is c.replaceable.ensures in
    let both = any_of (λ (m : Person). CanReplace kept person m) (λ (m : Person). is_within m.traits set ≡ true) (λ (m : Person). IsBetter list person m) kept.members told.1 in
    let masked = any_masked list person set kept.members c.requires.traits in
    let worst = c.requires.worst (bit_and set.0 63) (mask_lt set.0 6) person in
    let better : IsTrue c.is_better_than.result ↔ IsBetterThan list person (slice_index_or c.args.worst.now (bit_and set.0 63) None) =
    subst (λ (n : ℕ). IsTrue c.is_better_than.result ↔ IsBetterThan list person (slice_index_or c.args.worst.now n None)) c.from.ensures c.is_better_than.ensures in
    ((λ e. both.1 (masked.0 (worst.0 (better.0 e)))), (λ h. better.1 (worst.1 (masked.1 (both.0 h)))))
