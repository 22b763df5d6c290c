-- People can all be placed exactly where no set of traits is asked for, and nothing else, by more of them than it has positions.
use Rattle.std.proofs.Common.{◌≡◌, ◌∙◌, ◌≢◌, ◌<◌, ◌≤◌, ◌+◌, ◌*◌, ◌^◌, ◌⊎◌, ◌&&◌, ℕ, zero, suc, min, max, List, [], ◌∷◌, length, leb, cond, not, Bool, true, false, refl, ap, sym, subst, inl, inr, arith, take, sum, add-one, lit<, bit_and, bit_or}
use Rattle.std.proofs.lemmas.Bool.{eqb-true, eqb-false, cases_Bool, cases_lt, cases_eq, leb-true, leb-false, eq-eqb, and_parts, and_cases, not-true, not-false, both_ways}
use Rattle.std.proofs.lemmas.Nat.{pow_pos, or_lt, and_le_l}
use Rattle.std.proofs.lemmas.List.{get_or_past, take_all}
use Rattle.std.proofs.lemmas.List.Sums.{sum_by-take-le, sum_by_more}
use Rattle.std.proofs.Math.Nat.{pow-le-pow_right}
use Rattle.std.proofs.lemmas.Nat.Bits.{bit_at_and, bit_at_or, bit_at-lt, and_pow, same_from_bits, bit_at_above, bit_at-pow_same, bit_at-pow_other}
use Rattle.std.specs.Int.{bit_at}
use Rattle.std.specs.Prelude.{IsTrue}
use Rattle.std.specs.List.{AllByRecursion}
use Rattle.office_base.specs.Lists.{AnyByRecursion}
use Rattle.office_base.specs.Person.{has_trait, IsTraitSet}
use Rattle.office_base.specs.Placement.{IsPlacement, Fills, placed_on, protected}
use Rattle.office_base.specs.declared.person.TraitSet.{TraitSet}
use Rattle.office_base.specs.declared.person.Person.{Person}
use Rattle.office_base.specs.declared.step.Pair.{Pair}
use Rattle.office_base.specs.declared.step.Protections.{Protections}
use Rattle.placements.specs.Demand.{is_within, asking, positions_below, positions}
use Rattle.placements.specs.Greatest.{one_less}
use Rattle.placements.specs.Ranks.{AreDistinct, CanBePlaced}
use Rattle.placements.proofs.Exchange.{Apart, joined, finds, fewer, all_leaves, length_leaves, placed_on_leaves, stands_same, pairwise_leaves, apart_back}
use Rattle.placements.proofs.Greatest.{protected-one_less_same, protected-one_less_other}
use Rattle.placements.proofs.Ranks.{widened, among_longer, among_itself, nowhere, no_more_than_people, left_out, any_all}

-- ---- traits as bits

-- a trait is in a set exactly where its bit is 1
pub bit_one : (traits : TraitSet) (t : ℕ) → has_trait traits t ≡ true → bit_at traits.0 t ≡ 1
bit_one traits t has =
    let some = eqb-false (bit_and traits.0 (2 ^ t)) 0 (not-true _ has) in
    let value = and_pow traits.0 t in
    let small = bit_at-lt traits.0 t in
    elim (cases_eq (bit_at traits.0 t) 0) [
      | inl none ↦ absurd (some (value ∙ ap (λ n. n * 2 ^ t) none ∙ omega arith))
      | inr one ↦ omega arith
    ]

pub bit_zero : (traits : TraitSet) (t : ℕ) → has_trait traits t ≡ false → bit_at traits.0 t ≡ 0
bit_zero traits t has =
    let none = eqb-true (bit_and traits.0 (2 ^ t)) 0 (not-false _ has) in
    let value = and_pow traits.0 t in
    let small = bit_at-lt traits.0 t in
    let power = pow_pos t in
    elim (cases_eq (bit_at traits.0 t) 1) [
      | inl one ↦ absurd (let e : 1 * 2 ^ t ≡ 0 = ap (λ n. n * 2 ^ t) (sym one) ∙ sym value ∙ none in omega arith)
      | inr other ↦ omega arith
    ]

pub has_one : (traits : TraitSet) (t : ℕ) → bit_at traits.0 t ≡ 1 → has_trait traits t ≡ true
has_one traits t one = elim (cases_Bool (has_trait traits t)) [
  | inl has ↦ has
  | inr has ↦ absurd (let zero' = bit_zero traits t has in omega arith)
]

-- what counts for a trait of the set: all of it or nothing
pub counted : (set : TraitSet) (t c : ℕ) → cond (has_trait set t) c 0 ≡ bit_at set.0 t * c
counted set t c =
    let pick : Bool → ℕ = λ b. cond b c 0 in
    elim (cases_Bool (has_trait set t)) [
      | inl has ↦ ap pick has ∙ (let one : 1 * c ≡ c = omega arith in sym one) ∙ ap (λ n. n * c) (sym (bit_one set t has))
      | inr has ↦ ap pick has ∙ (let none : 0 * c ≡ 0 = omega arith in sym none) ∙ ap (λ n. n * c) (sym (bit_zero set t has))
    ]

-- ---- a set in another

-- each bit of the first is one of the second
abbrev pub BitsWithin : TraitSet → TraitSet → Type 0
BitsWithin some all = (i : ℕ) → bit_at some.0 i ≤ bit_at all.0 i

pub bits_within : (some all : TraitSet) → is_within some all ≡ true → BitsWithin some all
bits_within some all h i =
    let same = ap (λ n. bit_at n i) (eqb-true (bit_and some.0 all.0) some.0 h) in
    let bits = bit_at_and some.0 all.0 i in omega arith

pub within_bits : (some all : TraitSet) → BitsWithin some all → is_within some all ≡ true
within_bits some all h = eq-eqb (bit_and some.0 all.0) some.0
    (same_from_bits (bit_and some.0 all.0) some.0 (λ i. let bits = bit_at_and some.0 all.0 i in let here = h i in omega arith))

-- a set is within another that has each of its traits, which are some of the six
pub within_six : (some all : TraitSet) → IsTraitSet some → ((t : ℕ) → t < 6 → has_trait some t ≡ true → has_trait all t ≡ true) → is_within some all ≡ true
within_six some all small each = within_bits some all (λ i. elim (cases_lt i 6) [
  | inl low ↦ elim (cases_eq (bit_at some.0 i) 1) [
    | inl one ↦ (let e = bit_one all i (each i low (has_one some i one)) in omega arith)
    | inr other ↦ (let e = bit_at-lt some.0 i in omega arith)
  ]
  | inr high ↦ (let e = bit_at_above some.0 6 i small high in omega arith)
])

-- and has each of its traits
pub has_within : (some all : TraitSet) (t : ℕ) → is_within some all ≡ true → has_trait some t ≡ true → has_trait all t ≡ true
has_within some all t inside has = has_one all t
    (let b = bits_within some all inside t in let c = bit_one some t has in let d = bit_at-lt all.0 t in omega arith)

-- the traits of either set, and those of both
abbrev pub either : TraitSet → TraitSet → TraitSet
either a b = record { 0 = bit_or a.0 b.0 }

abbrev pub both : TraitSet → TraitSet → TraitSet
both a b = record { 0 = bit_and a.0 b.0 }

-- of two sets, the traits of either and of both have as many positions as the two
pub positions_modular : (n : ℕ) (protections : Protections) (a b : TraitSet)
    → positions_below n protections (either a b) + positions_below n protections (both a b) ≡ positions_below n protections a + positions_below n protections b
positions_modular zero protections a b = refl
positions_modular (suc n) protections a b =
    let deeper = positions_modular n protections a b in
    let c = protected protections n in
    let one = counted (either a b) n c in
    let two = counted (both a b) n c in
    let three = counted a n c in
    let four = counted b n c in
    let high = ap (λ k. k * c) (bit_at_or a.0 b.0 n) in
    let low = ap (λ k. k * c) (bit_at_and a.0 b.0 n) in
    let each = spread (bit_at a.0 n) (bit_at b.0 n) c in
    omega arith
  where
    spread : (x y c : ℕ) → max x y * c + min x y * c ≡ x * c + y * c
    spread x y c = elim (cases_lt x y) [
      | inl less ↦ (let e : max x y ≡ y = omega arith in let f : min x y ≡ x = omega arith in
          let g = ap (λ k. k * c) e in let h = ap (λ k. k * c) f in omega arith)
      | inr more ↦ (let e : max x y ≡ x = omega arith in let f : min x y ≡ y = omega arith in
          let g = ap (λ k. k * c) e in let h = ap (λ k. k * c) f in omega arith)
    ]

-- 1 where the test passes
abbrev pub one_if : Bool → ℕ
one_if test = cond test 1 0

pub one_if_true : (test : Bool) → test ≡ true → one_if test ≡ 1
one_if_true test e = let pick : Bool → ℕ = λ b. cond b 1 0 in ap pick e

pub one_if_false : (test : Bool) → test ≡ false → one_if test ≡ 0
one_if_false test e = let pick : Bool → ℕ = λ b. cond b 1 0 in ap pick e

pub one_if_small : (test : Bool) → one_if test ≤ 1
one_if_small test = elim (cases_Bool test) [
  | inl h ↦ (let e = one_if_true test h in omega arith)
  | inr h ↦ (let e = one_if_false test h in omega arith)
]

-- a person who asks within one of two sets asks within either, and within both if within each
pub within_left : (traits a b : TraitSet) → is_within traits a ≡ true → is_within traits (either a b) ≡ true
within_left traits a b h = within_bits traits (either a b)
    (λ i. let one = bits_within traits a h i in let bits = bit_at_or a.0 b.0 i in omega arith)

pub within_right : (traits a b : TraitSet) → is_within traits b ≡ true → is_within traits (either a b) ≡ true
within_right traits a b h = within_bits traits (either a b)
    (λ i. let one = bits_within traits b h i in let bits = bit_at_or a.0 b.0 i in omega arith)

pub within_each : (traits a b : TraitSet) → is_within traits a ≡ true → is_within traits b ≡ true → is_within traits (both a b) ≡ true
within_each traits a b h k = within_bits traits (both a b)
    (λ i. let one = bits_within traits a h i in let two = bits_within traits b k i in let bits = bit_at_and a.0 b.0 i in omega arith)

-- of two sets, a person asks within either and both at least as often as within the two
pub asks_more : (traits a b : TraitSet)
    → one_if (is_within traits a) + one_if (is_within traits b) ≤ one_if (is_within traits (either a b)) + one_if (is_within traits (both a b))
asks_more traits a b = elim (cases_Bool (is_within traits a)) [
  | inl h ↦ elim (cases_Bool (is_within traits b)) [
    | inl k ↦
        (let small = one_if_small (is_within traits a) in let small' = one_if_small (is_within traits b) in
        let e = one_if_true (is_within traits (either a b)) (within_left traits a b h) in
        let f = one_if_true (is_within traits (both a b)) (within_each traits a b h k) in omega arith)
    | inr k ↦
        (let small = one_if_small (is_within traits a) in let none = one_if_false (is_within traits b) k in
        let e = one_if_true (is_within traits (either a b)) (within_left traits a b h) in omega arith)
  ]
  | inr h ↦ elim (cases_Bool (is_within traits b)) [
    | inl k ↦
        (let none = one_if_false (is_within traits a) h in let small' = one_if_small (is_within traits b) in
        let e = one_if_true (is_within traits (either a b)) (within_right traits a b k) in omega arith)
    | inr k ↦ (let none = one_if_false (is_within traits a) h in let none' = one_if_false (is_within traits b) k in omega arith)
  ]
]

-- and so do people
pub asking_more : (a b : TraitSet) (people : List Person) → asking a people + asking b people ≤ asking (either a b) people + asking (both a b) people
asking_more a b [] = omega arith
asking_more a b (person ∷ people) = let here = asks_more person.traits a b in let deeper = asking_more a b people in omega arith

-- ---- where a person can be placed

-- the set has a trait, does not hold all of the person's, and the people of it and this one fill its positions
abbrev pub is_full : Protections → TraitSet → List Person → ℕ → TraitSet → Bool
is_full protections traits people t set =
    has_trait set t && (not (is_within traits set) && leb (positions protections set) (asking set people))

-- a number below n that passes the test, or none
pub seek : (test : ℕ → Bool) (n : ℕ) → ((m : ℕ) × (m < n) × (test m ≡ true)) ⊎ ((m : ℕ) → m < n → test m ≡ false)
seek test zero = inr (λ m less. absurd (omega arith))
seek test (suc n) = elim (seek test n) [
  | inl found ↦ inl (found.0, omega (arith, found.1), found.2)
  | inr none ↦ elim (cases_Bool (test n)) [
    | inl here ↦ inl (n, omega arith, here)
    | inr not_here ↦ inr (λ m less. elim (cases_eq m n) [
      | inl same ↦ subst (λ k. test k ≡ false) (sym same) not_here
      | inr other ↦ none m (omega arith)
    ])
  ]
]

-- A set that the people fill by themselves, without all of the person's traits, with those of them below n.
abbrev pub IsTight : Protections → TraitSet → List Person → ℕ → TraitSet → Type 0
IsTight protections traits people n set =
    (set.0 < 64) × (is_within traits set ≡ false) × (positions protections set ≤ asking set people)
    × ((t : ℕ) → t < n → has_trait traits t ≡ true → has_trait set t ≡ true)

-- no set is asked for, and nothing else, by more people than it has positions
abbrev pub NoneShort : Protections → List Person → Type 0
NoneShort protections people = (m : ℕ) → m < 64 → let set : TraitSet = record { 0 = m } in asking set people ≤ positions protections set

pub has_left : (a b : TraitSet) (t : ℕ) → has_trait a t ≡ true → has_trait (either a b) t ≡ true
has_left a b t h = has_one (either a b) t
    (let one = bit_one a t h in let bits = bit_at_or a.0 b.0 t in let small = bit_at-lt b.0 t in omega arith)

pub has_right : (a b : TraitSet) (t : ℕ) → has_trait b t ≡ true → has_trait (either a b) t ≡ true
has_right a b t h = has_one (either a b) t
    (let one = bit_one b t h in let bits = bit_at_or a.0 b.0 t in let small = bit_at-lt a.0 t in omega arith)

-- a person who asks within the traits of either set and in neither alone is one more there
asking_strictly_more : (a b : TraitSet) (person : Person) (people : List Person) → is_within person.traits a ≡ false → is_within person.traits b ≡ false
    → is_within person.traits (either a b) ≡ true
    → asking a (person ∷ people) + asking b (person ∷ people) < asking (either a b) (person ∷ people) + asking (both a b) (person ∷ people)
asking_strictly_more a b person people not_a not_b in_either =
    let deeper = asking_more a b people in
    let e = one_if_false (is_within person.traits a) not_a in
    let f = one_if_false (is_within person.traits b) not_b in
    let g = one_if_true (is_within person.traits (either a b)) in_either in omega arith

-- two tight sets make one
tight_joined : (protections : Protections) (person : Person) (people : List Person) (n : ℕ) (a b : TraitSet) → NoneShort protections (person ∷ people)
    → IsTight protections person.traits (person ∷ people) n a → b.0 < 64 → is_within person.traits b ≡ false
    → positions protections b ≤ asking b (person ∷ people) → has_trait b n ≡ true
    → IsTight protections person.traits (person ∷ people) (suc n) (either a b)
tight_joined protections person people n a b short tight small not_b full has =
    let all : List Person = person ∷ people in
    let small_either : (either a b).0 < 64 = or_lt 6 a.0 b.0 tight.0 small in
    let lower = and_le_l a.0 b.0 in
    let small_both : (both a b).0 < 64 = omega (arith, lower, tight.0) in
    let modular = positions_modular 6 protections a b in
    let more = asking_more a b all in
    let enough_either = short (either a b).0 small_either in
    let enough_both = short (both a b).0 small_both in
    let apart : is_within person.traits (either a b) ≡ false = (elim (cases_Bool (is_within person.traits (either a b))) [
      | inl inside ↦ absurd (let strictly = asking_strictly_more a b person people tight.1 not_b inside in omega (arith, tight.2))
      | inr outside ↦ outside
    ]) in (
      small_either,
      apart,
      omega (arith, tight.2),
      λ t less own. elim (cases_eq t n) [
        | inl same ↦ subst (λ k. has_trait (either a b) k ≡ true) (sym same) (has_right a b n has)
        | inr other ↦ has_left a b t (tight.3 t (omega arith) own)
      ],
    )

-- a trait of the person of which no full set that leaves out another trait of the person has a share, or a tight set
stand_or_tight : (protections : Protections) (person : Person) (people : List Person) (n : ℕ) → NoneShort protections (person ∷ people)
    → ((s : ℕ) × (has_trait person.traits s ≡ true)
    × ((m : ℕ) → m < 64 → is_full protections person.traits (person ∷ people) s (record { 0 = m }) ≡ false))
    ⊎ ((set : TraitSet) × IsTight protections person.traits (person ∷ people) n set)
stand_or_tight protections person people zero short =
    let none : TraitSet = record { 0 = 0 } in
    inr (none, (lit< tt, apart, omega arith, λ t less own. absurd (omega arith)))
  where
    apart : is_within person.traits (record { 0 = 0 }) ≡ false
    apart = elim (cases_Bool (is_within person.traits (record { 0 = 0 }))) [
      | inl inside ↦ absurd (let e = one_if_true (is_within person.traits (record { 0 = 0 })) inside in let enough = short 0 (lit< tt) in omega arith)
      | inr outside ↦ outside
    ]
stand_or_tight protections person people (suc n) short = elim (stand_or_tight protections person people n short) [
  | inl found ↦ inl found
  | inr tight ↦ elim (cases_Bool (has_trait person.traits n)) [
    | inr other ↦ inr (
      tight.0,
      (
        tight.1.0,
        tight.1.1,
        tight.1.2,
        λ t less own. elim (cases_eq t n) [
          | inl same ↦ absurd (both_ways (has_trait person.traits n) other (subst (λ k. has_trait person.traits k ≡ true) same own))
          | inr lower ↦ tight.1.3 t (omega arith) own
        ],
      ),
    )
    | inl own ↦ elim (seek (λ m. is_full protections person.traits (person ∷ people) n (record { 0 = m })) 64) [
      | inr none ↦ inl (n, own, none)
      | inl full ↦
          let set : TraitSet = record { 0 = full.0 } in
          let parts = and_parts (has_trait set n) (not (is_within person.traits set) && leb (positions protections set) (asking set (person ∷ people))) full.2 in
          let more = and_parts (not (is_within person.traits set)) (leb (positions protections set) (asking set (person ∷ people))) parts.1 in
          inr (
            either tight.0 set,
            tight_joined protections person people n tight.0 set short tight.1 full.1
                (not-true _ more.0) (leb-true _ _ more.1) parts.0,
          )
    ]
  ]
]

-- where no set is short, the person has a trait of which no full set that leaves out another trait of the person has a share
stands_on_trait : (protections : Protections) (person : Person) (people : List Person) → IsTraitSet person.traits → NoneShort protections (person ∷ people)
    → (s : ℕ) × (has_trait person.traits s ≡ true)
    × ((m : ℕ) → m < 64 → is_full protections person.traits (person ∷ people) s (record { 0 = m }) ≡ false)
stands_on_trait protections person people small short = elim (stand_or_tight protections person people 6 short) [
  | inl found ↦ found
  | inr tight ↦ absurd (both_ways (is_within person.traits tight.0) tight.1.1 (within_six person.traits tight.0 small tight.1.3))
]

-- ---- one position fewer

-- above the trait nothing changes, and below it neither
positions_below_same : (n : ℕ) (protections : Protections) (s : ℕ) (set : TraitSet) → (has_trait set s ≡ false) ⊎ (n ≤ s)
    → positions_below n (one_less protections s) set ≡ positions_below n protections set
positions_below_same zero protections s set h = refl
positions_below_same (suc n) protections s set h =
    let deeper : positions_below n (one_less protections s) set ≡ positions_below n protections set =
    positions_below_same n protections s set (elim h [ inl none ↦ inl none | inr below ↦ inr (omega arith) ]) in
    let one = counted set n (protected (one_less protections s) n) in
    let two = counted set n (protected protections n) in
    let here : bit_at set.0 n * protected (one_less protections s) n ≡ bit_at set.0 n * protected protections n = (elim (cases_eq n s) [
      | inl same ↦ elim h [
        | inl none ↦ (let e : bit_at set.0 n ≡ 0 = subst (λ k. bit_at set.0 k ≡ 0) (sym same) (bit_zero set s none) in
            let f = ap (λ k. k * protected (one_less protections s) n) e in let g = ap (λ k. k * protected protections n) e in omega arith)
        | inr below ↦ absurd (omega arith)
      ]
      | inr other ↦ ap (λ k. bit_at set.0 n * k) (protected-one_less_other protections s n other)
    ]) in
    omega arith

-- a set with the trait has one position fewer
positions_below_fewer : (n : ℕ) (protections : Protections) (s : ℕ) (set : TraitSet) → has_trait set s ≡ true → s < n → 0 < protected protections s
    → positions_below n protections set ≡ suc (positions_below n (one_less protections s) set)
positions_below_fewer zero protections s set has less some = absurd (omega arith)
positions_below_fewer (suc n) protections s set has less some =
    let one = counted set n (protected (one_less protections s) n) in
    let two = counted set n (protected protections n) in
    elim (cases_eq n s) [
      | inl same ↦
          let deeper = positions_below_same n protections s set (inr (omega arith)) in
          let e : bit_at set.0 n ≡ 1 = subst (λ k. bit_at set.0 k ≡ 1) (sym same) (bit_one set s has) in
          let f = ap (λ k. k * protected (one_less protections s) n) e in
          let g = ap (λ k. k * protected protections n) e in
          let change : suc (protected (one_less protections s) n) ≡ protected protections n =
          subst (λ k. suc (protected (one_less protections s) k) ≡ protected protections k) (sym same) (protected-one_less_same protections s some) in
          omega arith
      | inr other ↦
          let deeper = positions_below_fewer n protections s set has (omega arith) some in
          let change = ap (λ k. bit_at set.0 n * k) (protected-one_less_other protections s n other) in
          omega arith
    ]

pub positions_same : (protections : Protections) (s : ℕ) (set : TraitSet) → has_trait set s ≡ false → positions (one_less protections s) set ≡ positions protections set
positions_same protections s set none = positions_below_same 6 protections s set (inl none)

pub positions_fewer : (protections : Protections) (s : ℕ) (set : TraitSet) → has_trait set s ≡ true → s < 6 → 0 < protected protections s
    → positions protections set ≡ suc (positions (one_less protections s) set)
positions_fewer protections s set has less some = positions_below_fewer 6 protections s set has less some

-- a set of small traits has no trait from 6 on
pub small_trait : (traits : TraitSet) (s : ℕ) → IsTraitSet traits → has_trait traits s ≡ true → s < 6
small_trait traits s small has = elim (cases_lt s 6) [
  | inl less ↦ less
  | inr high ↦ absurd (let e = bit_at_above traits.0 6 s small high in let f = bit_one traits s has in omega arith)
]

-- the set of one trait
abbrev pub alone : ℕ → TraitSet
alone s = record { 0 = 2 ^ s }

-- one of the 64 sets
pub alone_small : (s : ℕ) → s < 6 → 2 ^ s < 64
alone_small s less =
    let two : 0 < 2 = omega arith in
    let below : s ≤ 5 = omega arith in let p : 2 ^ s ≤ 2 ^ 5 = pow-le-pow_right {n = 2} two {i = s} {j = 5} below in omega arith

-- where a trait has no positions, its set has none
pub none_alone : (n : ℕ) (protections : Protections) (s : ℕ) → protected protections s ≡ 0 → positions_below n protections (alone s) ≡ 0
none_alone zero protections s none = refl
none_alone (suc n) protections s none =
    let deeper = none_alone n protections s none in
    let here = counted (alone s) n (protected protections n) in
    let gone : bit_at (2 ^ s) n * protected protections n ≡ 0 = (elim (cases_eq n s) [
      | inl same ↦ (let e : protected protections n ≡ 0 = subst (λ k. protected protections k ≡ 0) (sym same) none in
          ap (λ k. bit_at (2 ^ s) n * k) e ∙ omega arith)
      | inr other ↦ ap (λ k. k * protected protections n) (bit_at-pow_other s n other) ∙ omega arith
    ]) in
    omega arith

-- a person of the people asks within a set that holds the person's traits
asks : (set : TraitSet) (person : Person) (people : List Person) → is_within person.traits set ≡ true
    → asking set (person ∷ people) ≡ suc (asking set people)
asks set person people h = let e = one_if_true (is_within person.traits set) h in omega arith

asks_not : (set : TraitSet) (person : Person) (people : List Person) → is_within person.traits set ≡ false
    → asking set (person ∷ people) ≡ asking set people
asks_not set person people h = let e = one_if_false (is_within person.traits set) h in omega arith

-- where a set is not full of others, fewer ask than it has positions
not_full : (protections : Protections) (traits : TraitSet) (people : List Person) (s : ℕ) (set : TraitSet) → is_full protections traits people s set ≡ false
    → has_trait set s ≡ true → is_within traits set ≡ false → asking set people < positions protections set
not_full protections traits people s set h has outside =
    leb-false _ _ (elim (and_cases (has_trait set s) (not (is_within traits set) && leb (positions protections set) (asking set people)) h) [
      | inl none ↦ absurd (both_ways (has_trait set s) none has)
      | inr rest ↦ elim (and_cases (not (is_within traits set)) (leb (positions protections set) (asking set people)) rest) [
        | inl inside ↦ absurd (both_ways (is_within traits set) outside (not-false _ inside))
        | inr less ↦ less
      ]
    ])

-- and the trait has a position
some_position : (protections : Protections) (person : Person) (people : List Person) (s : ℕ) → s < 6 → NoneShort protections (person ∷ people)
    → ((m : ℕ) → m < 64 → is_full protections person.traits (person ∷ people) s (record { 0 = m }) ≡ false) → 0 < protected protections s
some_position protections person people s less short open' =
    elim (cases_eq (protected protections s) 0) [
      | inr some ↦ omega arith
      | inl none ↦ absurd (
          let nothing = none_alone 6 protections s none in
          let small = alone_small s less in
          elim (cases_Bool (is_within person.traits (alone s))) [
            | inl inside ↦ (let e = asks (alone s) person people inside in let enough = short (2 ^ s) small in omega arith)
            | inr outside ↦
                (let few = not_full protections person.traits (person ∷ people) s (alone s) (open' (2 ^ s) small) (has_one (alone s) s (bit_at-pow_same s)) outside in omega arith)
          ])
    ]

-- with the person on that trait, no set is short for the others
short_of_none : (protections : Protections) (person : Person) (people : List Person) (s : ℕ) → s < 6 → NoneShort protections (person ∷ people)
    → has_trait person.traits s ≡ true → 0 < protected protections s
    → ((m : ℕ) → m < 64 → is_full protections person.traits (person ∷ people) s (record { 0 = m }) ≡ false)
    → NoneShort (one_less protections s) people
short_of_none protections person people s less short has some open' m small =
    let set : TraitSet = record { 0 = m } in
    let enough = short m small in
    elim (cases_Bool (has_trait set s)) [
      | inr none ↦ (let e = positions_same protections s set none in omega arith)
      | inl there ↦
          let e = positions_fewer protections s set there less some in
          elim (cases_Bool (is_within person.traits set)) [
            | inl inside ↦ (let f = asks set person people inside in omega arith)
            | inr outside ↦ (let few = not_full protections person.traits (person ∷ people) s set (open' m small) there outside in omega arith)
          ]
    ]

-- Where no set is short, the people can all be placed.
pub placed_where_none_short : (protections : Protections) (people : List Person) → AreDistinct people
    → AllByRecursion (λ person. IsTraitSet person.traits) people → NoneShort protections people → CanBePlaced protections people
placed_where_none_short protections [] distinct small short = ([], record { held = tt; once = tt; within = λ t. omega arith }, refl)
placed_where_none_short protections (person ∷ people) distinct small short =
    let trait = stands_on_trait protections person people small.0 short in
    let s : ℕ = trait.0 in
    let less = small_trait person.traits s small.0 trait.1 in
    let some = some_position protections person people s less short trait.2 in
    let others = placed_where_none_short (one_less protections s) people distinct.1 small.1
    (short_of_none protections person people s less short trait.1 some trait.2) in
    let placed : IsPlacement protections (person ∷ people) others.0 = record {
      held = (widened (one_less protections s) people (person ∷ people) others.0 (among_longer person people people (among_itself people)) others.1).held;
      once = others.1.once;
      within = λ t. let w = others.1.within t in (elim (cases_eq t s) [
        | inl same ↦ (let e = protected-one_less_same protections s some in let f = ap (λ k. protected (one_less protections s) k) same in let g = ap (λ k. protected protections k) same in omega arith)
        | inr other ↦ (let e = protected-one_less_other protections s t other in omega arith)
      ]);
    } in
    let pair : Pair = record { cand = person.id; slot = s } in
    let room : placed_on s others.0 < protected protections s = (let w = others.1.within s in let e = protected-one_less_same protections s some in omega arith) in (
      pair ∷ others.0,
      joined protections (person ∷ people) pair others.0 placed (inl (refl, trait.1)) (nowhere (one_less protections s) person people others.0 distinct.0 others.1) room,
      ap suc others.2,
    )

-- Where the people can all be placed, no set is short.
pub none_short_where_placed : (protections : Protections) (people : List Person) (set : TraitSet) → AreDistinct people
    → AllByRecursion (λ person. IsTraitSet person.traits) people → CanBePlaced protections people → asking set people ≤ positions protections set
none_short_where_placed protections [] set distinct small can = omega arith
none_short_where_placed protections (person ∷ people) set distinct small can =
    elim (finds person.id can.0) [
      | inr none ↦ absurd (let short = no_more_than_people protections people can.0 (left_out protections person people can.0 none can.1) in omega (arith, can.2))
      | inl found ↦
          let pair : Pair = found.0 in
          let rest : List Pair = found.1 in
          let s : ℕ = pair.slot in
          let own : IsTrue (has_trait person.traits s) =
          own_trait pair (all_leaves (λ pair. AnyByRecursion (Fills pair) (person ∷ people)) pair can.0 rest found.2 can.1.held).0 found.3 in
          let less = small_trait person.traits s small.0 own in
          let here = placed_on_leaves s pair can.0 rest found.2 in
          let one = stands_same s pair refl in
          let some : 0 < protected protections s = (let w = can.1.within s in omega arith) in
          let away : AllByRecursion (λ (p : Pair). person.id ≢ p.cand) rest =
          subst (λ cand. AllByRecursion (λ (p : Pair). cand ≢ p.cand) rest) found.3
          (pairwise_leaves Apart apart_back pair can.0 rest found.2 can.1.once).0 in
          let others = left_out protections person people rest away (fewer protections (person ∷ people) pair can.0 rest found.2 can.1) in
          let placed : IsPlacement (one_less protections s) people rest = record {
            held = others.held;
            once = others.once;
            within = λ t. let w = can.1.within t in let count = placed_on_leaves t pair can.0 rest found.2 in (elim (cases_eq t s) [
              | inl same ↦ (let e = protected-one_less_same protections s some in let f = ap (λ k. protected (one_less protections s) k) same in
                  let g = ap (λ k. protected protections k) same in let h = stands_same t pair (sym same) in omega arith)
              | inr other ↦ (let e = protected-one_less_other protections s t other in omega arith)
            ]);
          } in
          let size = length_leaves pair can.0 rest found.2 in
          let deeper = none_short_where_placed (one_less protections s) people set distinct.1 small.1 (rest, placed, omega (arith, can.2)) in
          elim (cases_Bool (is_within person.traits set)) [
            | inl inside ↦
                (let e = asks set person people inside in
                let f = positions_fewer protections s set (has_within person.traits set s inside own) less some in
                omega arith)
            | inr outside ↦
                (let e = asks_not set person people outside in
                elim (cases_Bool (has_trait set s)) [
                  | inl there ↦ (let f = positions_fewer protections s set there less some in omega arith)
                  | inr not_there ↦ (let f = positions_same protections s set not_there in omega arith)
                ])
          ]
    ]
  where
    own_trait : (pair : Pair) → AnyByRecursion (Fills pair) (person ∷ people) → pair.cand ≡ person.id → IsTrue (has_trait person.traits pair.slot)
    own_trait pair held same = elim held [
      | inl fills ↦ fills.1
      | inr later ↦ absurd (
          let far = any_all (Fills pair) (λ (one : Person). person.id ≢ one.id) people later distinct.0 in far.2 (sym same ∙ far.1.0))
    ]

-- no set has more positions than are protected in all
pub positions_below_few : (n : ℕ) (protections : Protections) (set : TraitSet) → positions_below n protections set ≤ sum protections.counts
positions_below_few n protections set =
    let first = below_taken n in let part = sum_by-take-le (λ x. x) protections.counts n in omega arith
  where
    below_taken : (k : ℕ) → positions_below k protections set ≤ sum (take k protections.counts)
    below_taken zero = omega arith
    below_taken (suc k) =
        let deeper = below_taken k in
        let here : cond (has_trait set k) (protected protections k) 0 ≤ protected protections k = (elim (cases_Bool (has_trait set k)) [
          | inl has ↦ (let e = counted set k (protected protections k) in let f = ap (λ b. b * protected protections k) (bit_one set k has) in omega arith)
          | inr has ↦ (let e = counted set k (protected protections k) in let f = ap (λ b. b * protected protections k) (bit_zero set k has) in omega arith)
        ]) in
        elim (cases_lt k (length protections.counts)) [
          | inl less ↦ (let more : sum (take (k + 1) protections.counts) ≡ sum (take k protections.counts) + protected protections k =
              sum_by_more (λ x. x) protections.counts k 0 less in
              let same : sum (take (suc k) protections.counts) ≡ sum (take (k + 1) protections.counts) =
              ap (λ i. sum (take i protections.counts)) (sym (add-one k)) in omega arith)
          | inr past ↦ (let none : protected protections k ≡ 0 = get_or_past protections.counts k 0 past in
              let same : sum (take (suc k) protections.counts) ≡ sum (take k protections.counts) =
              ap sum (take_all (suc k) protections.counts (omega arith) ∙ sym (take_all k protections.counts past)) in omega arith)
        ]
