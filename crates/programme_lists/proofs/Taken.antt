-- Who is taken from people, and who is left.
use Rattle.std.proofs.Common.{◌≡◌, ◌≤◌, ℕ, true, false, not, List, [], ◌∷◌, length, eqb, refl, sym, ap, subst, inl, inr}
use Rattle.std.proofs.lemmas.Bool.{eqb-true, eq-eqb, or_left, or_right, or_cases, not-true, not_from_false, false_from_ne_true, both_ways}
use Rattle.office_base.specs.Lists.{AnyByRecursion, IsAmong}
use Rattle.office_base.specs.declared.person.CandId.{CandId}
use Rattle.office_base.specs.declared.person.Person.{Person}
use Rattle.placements.specs.Ranks.{AreAmong, AreDistinct}
use Rattle.placements.proofs.Ranks.{any_all, any_among, among_itself, one_person}
use Rattle.placements.proofs.Filters.{among_filter, among_filter_from, filter-sublist}
use Rattle.placements.proofs.Sublists.{length-sublist}
use Rattle.programme_lists.specs.Programme.{is_taken, without}

-- who is one of those taken is taken
pub taken_from : (x : Person) (taken : List Person) → IsAmong x taken → is_taken taken x ≡ true
taken_from x [] here = absurd here
taken_from x (other ∷ taken) here = elim here [
  | inl same ↦ or_left (eqb other.id.0 x.id.0) (is_taken taken x) (eq-eqb other.id.0 x.id.0 (ap (λ (p : Person). p.id.0) (sym same)))
  | inr later ↦ or_right (eqb other.id.0 x.id.0) (is_taken taken x) (taken_from x taken later)
]

-- one of those taken has the number of who is taken
pub taken_number : (x : Person) (taken : List Person) → is_taken taken x ≡ true → AnyByRecursion (λ other. x.id ≡ other.id) taken
taken_number x [] holds = absurd (both_ways false refl holds)
taken_number x (other ∷ taken) holds = elim (or_cases (eqb other.id.0 x.id.0) (is_taken taken x) holds) [
  | inl here ↦ inl (ap (λ (n : ℕ). let cand : CandId = record { 0 = n } in cand) (sym (eqb-true other.id.0 x.id.0 here)))
  | inr later ↦ inr (taken_number x taken later)
]

-- who is taken is one of those taken, where all have numbers of their own
pub taken_among : (all taken : List Person) (x : Person) → AreDistinct all → AreAmong taken all → IsAmong x all → is_taken taken x ≡ true → IsAmong x taken
taken_among all taken x distinct within here holds =
    let own = any_all (λ (other : Person). x.id ≡ other.id) (λ other. AnyByRecursion (λ one. other ≡ one) taken) taken (taken_number x taken holds) (among_itself taken) in
    let wide = any_among (λ one. own.0 ≡ one) taken all within own.2 in
    let same : x ≡ own.0 = one_person all distinct x own.0 here wide own.1 in
    subst (λ one. AnyByRecursion (λ o. one ≡ o) taken) (sym same) own.2

-- who is left is one of the people, and none of those taken
pub among_without : (x : Person) (people taken : List Person) → IsAmong x (without people taken) → IsAmong x people × (IsAmong x taken → ⊥)
among_without x people taken here =
    let both = among_filter (λ person. not (is_taken taken person)) x people here in
    (both.0, λ there. both_ways (is_taken taken x) (not-true (is_taken taken x) both.1) (taken_from x taken there))

-- and who is none of those taken is left
pub among_without_from : (all people taken : List Person) (x : Person) → AreDistinct all → AreAmong people all → AreAmong taken all
    → IsAmong x people → (IsAmong x taken → ⊥) → IsAmong x (without people taken)
among_without_from all people taken x distinct within taken_within here free =
    let wide = any_among (λ one. x ≡ one) people all within here in
    among_filter_from (λ person. not (is_taken taken person)) x people here
    (not_from_false (is_taken taken x) (false_from_ne_true (is_taken taken x) (λ holds. free (taken_among all taken x distinct taken_within wide holds))))

-- People are no more without some of them.
pub length-without : (people taken : List Person) → length (without people taken) ≤ length people
length-without people taken = length-sublist (without people taken) people (filter-sublist _ people)
