-- Who holds a trait outside a set: with those who ask within it they are all, so the facts on these apply to them.
use Rattle.std.proofs.Common.{◌≡◌, ◌<◌, ◌≤◌, ◌+◌, ℕ, List, [], ◌∷◌, length, cond, Bool, true, false, refl, inl, inr, arith}
use Rattle.std.proofs.lemmas.Bool.{cases_Bool}
use Rattle.office_base.specs.Person.{has_trait}
use Rattle.office_base.specs.Placement.{protected}
use Rattle.office_base.specs.declared.person.TraitSet.{TraitSet}
use Rattle.office_base.specs.declared.person.Person.{Person}
use Rattle.office_base.specs.declared.step.Protections.{Protections}
use Rattle.placements.specs.Demand.{is_within, asking, asking_outside, positions}
use Rattle.placements.specs.Greatest.{one_less}
use Rattle.placements.proofs.Hall.{either, both, within_bits, one_if, one_if_true, one_if_false, asking_more, has_within, positions_same, positions_fewer}
use Rattle.placements.proofs.Replace.{within_again}

-- a set is within itself
pub within_itself : (a : TraitSet) → is_within a a ≡ true
within_itself a = within_bits a a (λ i. omega arith)

-- 0 where the test passes
abbrev pub none_if : Bool → ℕ
none_if test = cond test 0 1

-- with 1 where it passes, this makes 1
pub one_or_none : (test : Bool) → one_if test + none_if test ≡ 1
one_or_none true = refl
one_or_none false = refl

-- those who ask within a set and those who hold a trait outside are all
pub asking_all_told : (set : TraitSet) (people : List Person) → asking set people + asking_outside set people ≡ length people
asking_all_told set [] = refl
asking_all_told set (person ∷ people) =
    let here = one_or_none (is_within person.traits set) in let deeper = asking_all_told set people in omega arith

-- outside either of two sets and outside what they have in common are no more than outside the two
pub outside_modular : (a b : TraitSet) (people : List Person)
    → asking_outside (either a b) people + asking_outside (both a b) people ≤ asking_outside a people + asking_outside b people
outside_modular a b people =
    let more = asking_more a b people in
    let one = asking_all_told a people in
    let two = asking_all_told b people in
    let three = asking_all_told (either a b) people in
    let four = asking_all_told (both a b) people in omega arith

-- fewer hold a trait outside a larger set
pub outside_smaller : (a b : TraitSet) (people : List Person) → is_within a b ≡ true → asking_outside b people ≤ asking_outside a people
outside_smaller a b [] inside = omega arith
outside_smaller a b (person ∷ people) inside =
    let deeper = outside_smaller a b people inside in
    let one = one_or_none (is_within person.traits a) in
    let two = one_or_none (is_within person.traits b) in
    elim (cases_Bool (is_within person.traits a)) [
      | inl here ↦
          (let e = one_if_true (is_within person.traits a) here in
          let f = one_if_true (is_within person.traits b) (within_again person.traits a b here inside) in omega arith)
      | inr there ↦ (let e = one_if_false (is_within person.traits a) there in omega arith)
    ]

-- with a position of a trait taken, a set with the trait has one less
pub positions_one_less : (protections : Protections) (t : ℕ) (set : TraitSet) → t < 6 → 0 < protected protections t
    → one_if (has_trait set t) + positions (one_less protections t) set ≡ positions protections set
positions_one_less protections t set less some = elim (cases_Bool (has_trait set t)) [
  | inl has ↦ (let e = one_if_true (has_trait set t) has in let f = positions_fewer protections t set has less some in omega arith)
  | inr has ↦ (let e = one_if_false (has_trait set t) has in let f = positions_same protections t set has in omega arith)
]

-- a person who holds a trait asks within no set that lacks it
pub counted_once : (traits set : TraitSet) (t : ℕ) → has_trait traits t ≡ true → 1 ≤ one_if (has_trait set t) + none_if (is_within traits set)
counted_once traits set t has = elim (cases_Bool (is_within traits set)) [
  | inl inside ↦ (let e = one_if_true (has_trait set t) (has_within traits set t inside has) in omega arith)
  | inr outside ↦
      (let e = one_if_false (is_within traits set) outside in let f = one_or_none (is_within traits set) in omega arith)
]
