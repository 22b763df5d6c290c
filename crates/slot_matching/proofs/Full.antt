-- The least set with nothing to spare that holds some traits, found set by set.
use Rattle.std.proofs.Common.{◌≡◌, ◌∙◌, ◌≢◌, ◌<◌, ◌+◌, ℕ, List, true, Option, Some, None, sym, ap, subst, inl, inr, arith, bit_and, slice_index, IsTrue}
use Rattle.std.proofs.lemmas.Bool.{cases_eq}
use Rattle.std.proofs.lemmas.Nat.{and_le_l}
use Rattle.std.proofs.lemmas.Nat.Bits.{bit_at_and}
use Rattle.office_base.specs.declared.person.Person.{Person}
use Rattle.office_base.specs.declared.person.TraitSet.{TraitSet}
use Rattle.office_base.specs.declared.step.Protections.{Protections}
use Rattle.placements.specs.Demand.{is_within}
use Rattle.placements.proofs.Hall.{both, within_each, within_bits}
use Rattle.placements.proofs.Outside.{within_itself}
use Rattle.placements.proofs.Replace.{within_again, full_both}
use Rattle.slot_matching.specs.Full.{AreClosed, HasSpareBelow, IsLeastFull, IsLeastOf, met}
use Rattle.slot_matching.specs.Kept.{IsSpare}
use Rattle.slot_matching.proofs.OneMemberMore.{none_short}

-- what a set has in common with another is within both
pub both_left : (a b : TraitSet) → is_within (both a b) a ≡ true
both_left a b = within_bits (both a b) a (λ i. let bits = bit_at_and a.0 b.0 i in omega arith)

pub both_right : (a b : TraitSet) → is_within (both a b) b ≡ true
both_right a b = within_bits (both a b) b (λ i. let bits = bit_at_and a.0 b.0 i in omega arith)

-- only the number of the set matters
same_set : (n : ℕ) (m : ℕ) (traits : TraitSet) → m ≡ n → is_within traits (record { 0 = n }) ≡ true → is_within traits (record { 0 = m }) ≡ true
same_set n m traits e h = subst (λ (k : ℕ). is_within traits (record { 0 = k }) ≡ true) (sym e) h

-- one set more that holds the traits and has nothing to spare
pub least_found : (n : ℕ) (spare : List ℕ) (traits : TraitSet) (least : Option TraitSet) → AreClosed spare → n < 64 → IsTrue (is_within traits (record { 0 = n }))
    → slice_index spare n ≡ 0 → IsLeastOf n spare traits least → IsLeastFull (n + 1) spare traits (met least (record { 0 = n }))
least_found n spare traits None closed less here none before =
    let set : TraitSet = record { 0 = n } in
    record {
      small = less;
      full = none;
      holds = here;
      least = λ m below holds full. elim (cases_eq m n) [
        | inl same ↦ same_set n m set same (within_itself set)
        | inr other ↦ absurd (let some = before m (omega arith) holds in omega arith)
      ];
    }
least_found n spare traits (Some found) closed less here none before =
    let set : TraitSet = record { 0 = n } in
    record {
      small = (let low = and_le_l found.0 n in let small = before.small in omega arith);
      full = closed found.0 n before.small less before.full none;
      holds = within_each traits found set before.holds here;
      least = λ m below holds full. elim (cases_eq m n) [
        | inl same ↦ same_set n m (both found set) same (both_right found set)
        | inr other ↦ within_again (both found set) found (record { 0 = m }) (both_left found set) (before.least m (omega arith) holds full)
      ];
    }

-- one set more that does not hold them, or has one to spare
pub least_passed : (n : ℕ) (spare : List ℕ) (traits : TraitSet) (least : Option TraitSet)
    → (IsTrue (is_within traits (record { 0 = n })) → slice_index spare n ≢ 0) → IsLeastOf n spare traits least → IsLeastOf (n + 1) spare traits least
least_passed n spare traits None passes before = λ m less holds. elim (cases_eq m n) [
  | inl same ↦ (let some = passes (same_set m n traits (sym same) holds) in let e = ap (λ (k : ℕ). slice_index spare k) same in omega arith)
  | inr other ↦ before m (omega arith) holds
]
least_passed n spare traits (Some found) passes before = record {
  small = before.small;
  full = before.full;
  holds = before.holds;
  least = λ m less holds full. elim (cases_eq m n) [
    | inl same ↦ absurd (passes (same_set m n traits (sym same) holds) (ap (λ (k : ℕ). slice_index spare k) (sym same) ∙ full))
    | inr other ↦ before.least m (omega arith) holds full
  ];
}

-- where the members can all be placed, two sets with nothing to spare have a set in common with nothing to spare
pub closed_spare : (protections : Protections) (members : List Person) (spare : List ℕ) → IsSpare protections members spare → AreClosed spare
closed_spare protections members spare is m n small_m small_n full_m full_n =
    let a : TraitSet = record { 0 = m } in
    let b : TraitSet = record { 0 = n } in
    let low = and_le_l m n in
    let left_m = is.left m small_m in
    let left_n = is.left n small_n in
    let left = is.left (bit_and m n) (omega arith) in
    let full = full_both protections members a b (none_short protections members spare is) small_m small_n (omega arith) (omega arith) in
    omega arith

-- without such a set each that holds the traits has one to spare
pub has_spare : (spare : List ℕ) (traits : TraitSet) (least : Option TraitSet) → least ≡ None → IsLeastOf 64 spare traits least → HasSpareBelow 64 spare traits
has_spare spare traits least none is = subst (IsLeastOf 64 spare traits) none is
