-- The worst of members who hold no trait outside a set.
use Rattle.std.proofs.Common.{◌≡◌, ◌≢◌, ◌<◌, ◌+◌, ◌%◌, ◌⊎◌, ℕ, true, false, Option, None, List, [], ◌∷◌, ◌++◌, length, get_or, take, add-one, eqb, sym, ap, ◌∙◌, subst, inl, inr, arith}
use Rattle.std.proofs.lemmas.Bool.{both_ways, cases_lt}
use Rattle.std.proofs.lemmas.List.{get_or-set_other, get_or-set_same}
use Rattle.std.proofs.lemmas.Nat.{and_assoc, and_comm, and_mask}
use Rattle.std.proofs.Math.ListN.{set}
use Rattle.std.proofs.Math.Seq.{take-suc}
use Rattle.std.specs.Prelude.{◌↔◌, bit_and}
use Rattle.std.specs.List.{AllByRecursion}
use Rattle.office_base.specs.Lists.{AnyByRecursion}
use Rattle.office_base.specs.Person.{IsBetter, IsTraitSet}
use Rattle.office_base.specs.declared.person.ListId.{ListId}
use Rattle.office_base.specs.declared.person.Person.{Person}
use Rattle.office_base.specs.declared.person.TraitSet.{TraitSet}
use Rattle.placements.specs.Demand.{is_within}
use Rattle.placements.proofs.Ranks.{any_append}
use Rattle.list_audit.specs.Reckoning.{IsBetterThan, IsWorstWithin}

-- ---- the next member

any_end : {X : Type 0} (P : X → Type 0) (xs : List X) (x : X) → AnyByRecursion P xs ⊎ P x → AnyByRecursion P (xs ++ x ∷ [])
any_end P [] x h = elim h [ inl none ↦ absurd none | inr here ↦ inl here ]
any_end P (y ∷ xs) x h = elim h [
  | inl some ↦ elim some [ inl here ↦ inl here | inr later ↦ inr (any_end P xs x (inl later)) ]
  | inr here ↦ inr (any_end P xs x (inr here))
]

end_any : {X : Type 0} (P : X → Type 0) (xs : List X) (x : X) → AnyByRecursion P (xs ++ x ∷ []) → AnyByRecursion P xs ⊎ P x
end_any P xs x h = elim (any_append P xs (x ∷ []) h) [ inl some ↦ inl some | inr end ↦ elim end [ inl here ↦ inr here | inr none ↦ absurd none ] ]

module _ (list : ListId) (set : TraitSet) (members : List Person) (at : ℕ) (other : Person) (worst : Option Person) (inside : at < length members)
    (so_far : IsWorstWithin list set (take at members) worst) where
  next : take (at + 1) members ≡ take at members ++ get_or members at other ∷ []
  next = rw add-one (take-suc members at other inside)

  -- a member within the set comes
  pub worst_next : (after : Option Person) → is_within (get_or members at other).traits set ≡ true
      → ((person : Person) → IsBetterThan list person after ↔ (IsBetterThan list person worst ⊎ IsBetter list person (get_or members at other)))
      → IsWorstWithin list set (take (at + 1) members) after
  worst_next after within both person =
      let P : Person → Type 0 = λ member. (is_within member.traits set ≡ true) × IsBetter list person member in
      subst (λ (those : List Person). IsBetterThan list person after ↔ AnyByRecursion P those) (sym next) (
        (λ h. any_end P (take at members) (get_or members at other) (elim ((both person).0 h) [ inl before ↦ inl ((so_far person).0 before) | inr here ↦ inr (within, here) ])),
        (λ h. (both person).1 (elim (end_any P (take at members) (get_or members at other) h) [ inl some ↦ inl ((so_far person).1 some) | inr here ↦ inr here.1 ])),
      )

  -- one who is not
  pub worst_same : is_within (get_or members at other).traits set ≡ false → IsWorstWithin list set (take (at + 1) members) worst
  worst_same outside person =
      let P : Person → Type 0 = λ member. (is_within member.traits set ≡ true) × IsBetter list person member in
      subst (λ (those : List Person). IsBetterThan list person worst ↔ AnyByRecursion P those) (sym next) (
        (λ h. any_end P (take at members) (get_or members at other) (inl ((so_far person).0 h))),
        (λ h. elim (end_any P (take at members) (get_or members at other) h) [ inl some ↦ (so_far person).1 some | inr here ↦ absurd (both_ways _ outside here.0) ]),
      )

-- ---- sets by their numbers

masked : (t s : ℕ) → t < 64 → bit_and t (bit_and s 63) ≡ bit_and t s
masked t s few =
    let small : t % 64 ≡ t = omega (arith, few) in
    let kept : bit_and t 63 ≡ t = and_mask t 6 ∙ small in
    sym (and_assoc 63 t s) ∙ ap (λ (n : ℕ). bit_and n 63) (and_comm t s) ∙ and_assoc 63 s t ∙ ap (bit_and s) kept ∙ and_comm s t

-- a set and its six bits hold the same traits
pub within_masked : (traits set : TraitSet) → IsTraitSet traits → is_within traits (record { 0 = bit_and set.0 63 }) ≡ is_within traits set
within_masked traits set few = ap (λ (n : ℕ). eqb n traits.0) (masked traits.0 set.0 few)

pub any_masked : (list : ListId) (person : Person) (set : TraitSet) (members : List Person) → AllByRecursion (λ member. IsTraitSet member.traits) members
    → AnyByRecursion (λ member. (is_within member.traits (record { 0 = bit_and set.0 63 }) ≡ true) × IsBetter list person member) members
    ↔ AnyByRecursion (λ member. (is_within member.traits set ≡ true) × IsBetter list person member) members
any_masked list person set [] few = ((λ h. h), (λ h. h))
any_masked list person set (member ∷ members) few =
    let rest = any_masked list person set members few.1 in
    let same = within_masked member.traits set few.0 in (
      (λ h. elim h [ inl here ↦ inl (sym same ∙ here.0, here.1) | inr later ↦ inr (rest.0 later) ]),
      (λ h. elim h [ inl here ↦ inl (same ∙ here.0, here.1) | inr later ↦ inr (rest.1 later) ]),
    )

-- ---- one set after another

pub worst_put : (list : ListId) (members : List Person) (worst : List (Option Person)) (at : ℕ) (one : Option Person) → at < length worst → IsWorstWithin list (record { 0 = at }) members one
    → ((n : ℕ) → n < at → IsWorstWithin list (record { 0 = n }) members (get_or worst n None))
    → (n : ℕ) → n < at + 1 → IsWorstWithin list (record { 0 = n }) members (get_or (set worst at one) n None)
worst_put list members worst at one inside here before n less = elim (cases_lt n at) [
  | inl earlier ↦
      let other : n ≢ at = λ same. omega (arith, earlier, same) in
      subst (λ (w : Option Person). IsWorstWithin list (record { 0 = n }) members w) (sym (get_or-set_other worst at n one None other)) (before n earlier)
  | inr far ↦
      let same : at ≡ n = omega (arith, far, less) in
      subst (λ (m : ℕ). IsWorstWithin list (record { 0 = m }) members (get_or (set worst at one) m None)) same
      (subst (λ (w : Option Person). IsWorstWithin list (record { 0 = at }) members w) (sym (get_or-set_same worst at one None inside)) here)
]
