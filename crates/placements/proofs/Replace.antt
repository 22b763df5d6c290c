-- Who can be replaced: with a person in place of a member all can be placed exactly where the member holds no trait outside the least
-- full set that holds the person's traits. A set is full where the people who ask within it fill its positions.
use Rattle.std.proofs.Common.{◌≡◌, ◌≢◌, ◌<◌, ◌≤◌, ◌+◌, ℕ, List, [], ◌∷◌, ◌++◌, true, false, sym, ap, inl, inr, arith}
use Rattle.std.proofs.lemmas.Bool.{cases_Bool, cases_lt}
use Rattle.std.proofs.lemmas.Nat.{or_lt}
use Rattle.std.specs.List.{AllByRecursion}
use Rattle.office_base.specs.Lists.{Pairwise}
use Rattle.office_base.specs.Person.{IsTraitSet}
use Rattle.office_base.specs.declared.person.TraitSet.{TraitSet}
use Rattle.office_base.specs.declared.person.Person.{Person}
use Rattle.office_base.specs.declared.step.Protections.{Protections}
use Rattle.office_base.proofs.Lists.{all_push}
use Rattle.placements.specs.Demand.{is_within, asking, positions}
use Rattle.placements.specs.Ranks.{AreDistinct, CanBePlaced}
use Rattle.placements.proofs.Exchange.{Leaves, all_leaves, pairwise_leaves}
use Rattle.placements.proofs.Hall.{NoneShort, either, both, positions_modular, asking_more, one_if, one_if_true, one_if_false, bits_within, within_bits, placed_where_none_short, none_short_where_placed}

-- the people who ask within the set fill its positions
abbrev pub IsFull : Protections → List Person → TraitSet → Type 0
IsFull protections people set = positions protections set ≤ asking set people

-- what two full sets have in common is full
pub full_both : (protections : Protections) (people : List Person) (a b : TraitSet) → NoneShort protections people → a.0 < 64 → b.0 < 64
    → IsFull protections people a → IsFull protections people b → IsFull protections people (both a b)
full_both protections people a b short small_a small_b full_a full_b =
    let modular = positions_modular 6 protections a b in
    let more = asking_more a b people in
    let enough = short (either a b).0 (or_lt 6 a.0 b.0 small_a small_b) in
    omega (arith, full_a, full_b, modular, more, enough)

-- a set within one that is within a third is within the third
pub within_again : (a b c : TraitSet) → is_within a b ≡ true → is_within b c ≡ true → is_within a c ≡ true
within_again a b c first second =
    within_bits a c (λ i. let one = bits_within a b first i in let two = bits_within b c second i in omega arith)

-- with one person taken out, and with one more at the end
pub asking_leaves : (set : TraitSet) (out : Person) (people rest : List Person) → Leaves out people rest
    → asking set people ≡ one_if (is_within out.traits set) + asking set rest
asking_leaves set out [] rest leaves = absurd leaves
asking_leaves set out (person ∷ people) rest leaves = elim leaves [
  | inl e ↦ (let a = ap (λ (p : Person). one_if (is_within p.traits set)) e.0 in let b = ap (asking set) e.1 in omega arith)
  | inr s ↦ (let deeper = asking_leaves set out people s.0 s.2 in let b = ap (asking set) s.1 in omega arith)
]

pub asking_push : (set : TraitSet) (people : List Person) (person : Person)
    → asking set (people ++ person ∷ []) ≡ asking set people + one_if (is_within person.traits set)
asking_push set [] person = omega arith
asking_push set (other ∷ people) person = let deeper = asking_push set people person in omega arith

-- what holds between each two, and both ways between each and one more at the end, holds between each two
pub pairwise_push : {X : Type 0} (R : X → X → Type 0) → ((a b : X) → R a b → R b a) → (xs : List X) (y : X) → Pairwise R xs → AllByRecursion (R y) xs → Pairwise R (xs ++ y ∷ [])
pairwise_push R both_ways [] y pairs all = (tt, tt)
pairwise_push R both_ways (x ∷ xs) y pairs all = (all_push (R x) xs y pairs.0 (both_ways y x all.0), pairwise_push R both_ways xs y pairs.1 all.1)

-- a person with a number of their own and distinct people are distinct
pub distinct_push : (person : Person) (people : List Person) → AreDistinct people → AllByRecursion (λ other. person.id ≢ other.id) people
    → AreDistinct (people ++ person ∷ [])
distinct_push person people distinct apart = pairwise_push (λ (a : Person) (b : Person). a.id ≢ b.id) (λ a b h e. h (sym e)) people person distinct apart

-- the people and the person, as the lemmas below take them
pub record MayReplace (protections : Protections) (people : List Person) (person : Person) : Type 0 where
  pub distinct : AreDistinct people
  pub apart : AllByRecursion (λ other. person.id ≢ other.id) people
  pub traits : AllByRecursion (λ other. IsTraitSet other.traits) people
  pub own : IsTraitSet person.traits
  pub short : NoneShort protections people

-- those left, with the person, are distinct and hold traits
left_distinct : (protections : Protections) (people : List Person) (person member : Person) (rest : List Person) → MayReplace protections people person
    → Leaves member people rest → AreDistinct (rest ++ person ∷ [])
left_distinct protections people person member rest may leaves =
    distinct_push person rest (pairwise_leaves (λ (a : Person) (b : Person). a.id ≢ b.id) (λ a b h e. h (sym e)) member people rest leaves may.distinct).1
    (all_leaves (λ other. person.id ≢ other.id) member people rest leaves may.apart).1

left_traits : (protections : Protections) (people : List Person) (person member : Person) (rest : List Person) → MayReplace protections people person
    → Leaves member people rest → AllByRecursion (λ other. IsTraitSet other.traits) (rest ++ person ∷ [])
left_traits protections people person member rest may leaves =
    all_push (λ other. IsTraitSet other.traits) rest person (all_leaves (λ other. IsTraitSet other.traits) member people rest leaves may.traits).1 may.own

-- A member who holds no trait outside a set that is within each full set with the person's traits can be replaced.
pub replaced_within : (protections : Protections) (people : List Person) (person member : Person) (rest : List Person) (set : TraitSet)
    → MayReplace protections people person → Leaves member people rest
    → ((m : ℕ) → m < 64 → let other : TraitSet = record { 0 = m } in is_within person.traits other ≡ true → IsFull protections people other → is_within set other ≡ true)
    → is_within member.traits set ≡ true → CanBePlaced protections (rest ++ person ∷ [])
replaced_within protections people person member rest set may leaves least inside =
    placed_where_none_short protections (rest ++ person ∷ []) (left_distinct protections people person member rest may leaves)
    (left_traits protections people person member rest may leaves) enough
  where
    enough : NoneShort protections (rest ++ person ∷ [])
    enough m small =
        let other : TraitSet = record { 0 = m } in
        let before = may.short m small in
        let out = asking_leaves other member people rest leaves in
        let pushed = asking_push other rest person in
        elim (cases_Bool (is_within person.traits other)) [
          | inr outside ↦ (let none = one_if_false (is_within person.traits other) outside in omega (arith, before, out, pushed, none))
          | inl here ↦ elim (cases_lt (asking other people) (positions protections other)) [
            | inl spare ↦ (let one = one_if_true (is_within person.traits other) here in omega (arith, out, pushed, one, spare))
            | inr full ↦
                (let one = one_if_true (is_within person.traits other) here in
                let own = one_if_true (is_within member.traits other) (within_again member.traits set other inside (least m small here full)) in
                omega (arith, out, pushed, one, own, before))
          ]
        ]

-- A member who holds a trait outside a full set that holds the person's traits cannot.
pub not_replaced_outside : (protections : Protections) (people : List Person) (person member : Person) (rest : List Person) (set : TraitSet)
    → MayReplace protections people person → Leaves member people rest → IsFull protections people set → is_within person.traits set ≡ true
    → is_within member.traits set ≡ false → CanBePlaced protections (rest ++ person ∷ []) → ⊥
not_replaced_outside protections people person member rest set may leaves full here outside can =
    let enough = none_short_where_placed protections (rest ++ person ∷ []) set (left_distinct protections people person member rest may leaves)
    (left_traits protections people person member rest may leaves) can in
    let out = asking_leaves set member people rest leaves in
    let pushed = asking_push set rest person in
    let one = one_if_true (is_within person.traits set) here in
    let none = one_if_false (is_within member.traits set) outside in
    omega (arith, full, enough, out, pushed, one, none)
