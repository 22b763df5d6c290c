-- The worst member whom a person can replace.
use Rattle.std.proofs.Common.{◌≡◌, ◌∙◌, ◌≢◌, ◌⊎◌, ℕ, List, [], ◌∷◌, true, false, Option, Some, None, refl, sym, ap, subst, inl, inr, arith}
use Rattle.std.proofs.lemmas.Bool.{cases_Bool, cases_lt, false≢true}
use Rattle.std.specs.List.{AllByRecursion}
use Rattle.std.specs.Prelude.{◌↔◌, IsSome}
use Rattle.office_base.specs.Lists.{AnyByRecursion, Pairwise}
use Rattle.office_base.specs.Person.{IsBetter, IsAhead, number_in}
use Rattle.office_base.specs.declared.person.ListId.{ListId}
use Rattle.office_base.specs.declared.person.Person.{Person}
use Rattle.office_base.specs.declared.person.TraitSet.{TraitSet}
use Rattle.placements.specs.Demand.{is_within}
use Rattle.placements.specs.Ranks.{without}
use Rattle.placements.proofs.Ranks.{any_all}
use Rattle.placements.proofs.Replace.{MayReplace, replaced_within, not_replaced_outside}
use Rattle.placements.proofs.Without.{leaves_member}
use Rattle.slot_matching.specs.Augmented.{CanReplace, IsWorstFor}
use Rattle.slot_matching.specs.Full.{IsLeastFull, IsLeastOf}
use Rattle.slot_matching.specs.Kept.{Kept, MayJoin, IsCounted}
use Rattle.slot_matching.specs.Members.{IsWorstWithin, id_of}
use Rattle.slot_matching.specs.Replaceable.{IsReplaceable}
use Rattle.slot_matching.proofs.OneMemberMore.{can_join, joins_where, none_short}

-- what the lemmas on who can be replaced ask for
may_replace : (kept : Kept) (person : Person) (spare : List ℕ) (size : ℕ) → IsCounted kept spare size → MayJoin kept person
    → MayReplace kept.protections kept.members person
may_replace kept person spare size counted may = record {
  distinct = counted.distinct;
  apart = may.distinct;
  traits = counted.traits;
  own = may.traits;
  short = none_short kept.protections kept.members spare counted.left;
}

-- a member within the least full set can be replaced
pub can_replace : (kept : Kept) (person member : Person) (spare : List ℕ) (size : ℕ) (set : TraitSet) → IsCounted kept spare size → MayJoin kept person
    → IsLeastFull 64 spare person.traits set → AnyByRecursion (λ other. member ≡ other) kept.members → is_within member.traits set ≡ true → CanReplace kept person member
can_replace kept person member spare size set counted may least is_member inside =
    replaced_within kept.protections kept.members person member (without member.id kept.members) set (may_replace kept person spare size counted may)
    (leaves_member member kept.members counted.distinct is_member)
    (λ m small holds full. least.least m small holds (let left = counted.left.left m small in omega (arith, full, left)))
    inside

-- and nobody else can
pub cannot_replace : (kept : Kept) (person member : Person) (spare : List ℕ) (size : ℕ) (set : TraitSet) → IsCounted kept spare size → MayJoin kept person
    → IsLeastFull 64 spare person.traits set → AnyByRecursion (λ other. member ≡ other) kept.members → is_within member.traits set ≡ false → ¬ CanReplace kept person member
cannot_replace kept person member spare size set counted may least is_member outside can =
    not_replaced_outside kept.protections kept.members person member (without member.id kept.members) set (may_replace kept person spare size counted may)
    (leaves_member member kept.members counted.distinct is_member)
    (let left = counted.left.left set.0 least.small in let none = least.full in omega (arith, left, none))
    least.holds outside can

-- what holds of each of the members as a member holds of each
each_member : (P : Person → Type 0) (members : List Person) → ((member : Person) → AnyByRecursion (λ other. member ≡ other) members → P member) → AllByRecursion P members
each_member P [] each = tt
each_member P (member ∷ members) each = (each member (inl refl), each_member P members (λ other one. each other (inr one)))

-- what holds of each of the members holds of one of them
at_member : (P : Person → Type 0) (member : Person) (members : List Person) → AllByRecursion P members → AnyByRecursion (λ other. member ≡ other) members → P member
at_member P member members all one = let found = any_all (λ other. member ≡ other) P members one all in subst P (sym found.1) found.2

-- of two members, they are one or have places of their own
same_or_apart : (list : ListId) (members : List Person) (a b : Person) → Pairwise (λ x y. number_in list x ≢ number_in list y) members
    → AnyByRecursion (λ other. a ≡ other) members → AnyByRecursion (λ other. b ≡ other) members → (a ≡ b) ⊎ (number_in list a ≢ number_in list b)
same_or_apart list [] a b apart in_a in_b = absurd in_a
same_or_apart list (member ∷ members) a b apart in_a in_b = elim in_a [
  | inl here ↦ elim in_b [
    | inl here_too ↦ inl (here ∙ sym here_too)
    | inr later ↦ inr (λ e. at_member (λ other. number_in list member ≢ number_in list other) b members apart.0 later
        (ap (λ (p : Person). number_in list p) (sym here) ∙ e))
  ]
  | inr later ↦ elim in_b [
    | inl here ↦ inr (λ e. at_member (λ other. number_in list member ≢ number_in list other) a members apart.0 later
        (ap (λ (p : Person). number_in list p) (sym here) ∙ sym e))
    | inr later_too ↦ same_or_apart list members a b apart.1 later later_too
  ]
]

-- of two different places the one that is not better is worse
other_ahead : (a b : Option ℕ) → IsSome a → IsSome b → a ≢ b → ¬ IsAhead a b → IsAhead b a
other_ahead (Some m) (Some n) some_a some_b apart not_ahead = elim (cases_lt n m) [
  | inl less ↦ less
  | inr more ↦ elim (cases_lt m n) [
    | inl ahead ↦ absurd (not_ahead ahead)
    | inr same ↦ absurd (apart (ap (λ (k : ℕ). Some k) (omega arith)))
  ]
]
other_ahead (Some m) None some_a some_b apart not_ahead = absurd (false≢true some_b)
other_ahead None b some_a some_b apart not_ahead = absurd (false≢true some_a)

-- The worst member within the least full set is the worst whom the person can replace.
pub worst_for : (kept : Kept) (person : Person) (spare : List ℕ) (size : ℕ) (set : TraitSet) (worst : Option Person) → IsCounted kept spare size → MayJoin kept person
    → IsLeastFull 64 spare person.traits set → IsWorstWithin kept.list set kept.members worst → IsWorstFor kept person (id_of worst)
worst_for kept person spare size set None counted may least nobody = each_member (λ member. ¬ CanReplace kept person member) kept.members
    (λ member is_member. cannot_replace kept person member spare size set counted may least is_member
    (at_member (λ one. is_within one.traits set ≡ false) member kept.members nobody is_member))
worst_for kept person spare size set (Some worst) counted may least found = (
  worst,
  refl,
  found.0,
  can_replace kept person worst spare size set counted may least found.0 found.1,
  each_member (λ member. CanReplace kept person member → (member ≡ worst) ⊎ IsBetter kept.list member worst) kept.members each,
)
  where
    each : (member : Person) → AnyByRecursion (λ other. member ≡ other) kept.members → CanReplace kept person member → (member ≡ worst) ⊎ IsBetter kept.list member worst
    each member is_member can = elim (cases_Bool (is_within member.traits set)) [
      | inr outside ↦ absurd (cannot_replace kept person member spare size set counted may least is_member outside can)
      | inl inside ↦ elim (same_or_apart kept.list kept.members member worst counted.apart is_member found.0) [
        | inl same ↦ inl same
        | inr apart ↦ inr (other_ahead (number_in kept.list worst) (number_in kept.list member)
            (at_member (λ one. IsSome (number_in kept.list one)) worst kept.members counted.placed found.0)
            (at_member (λ one. IsSome (number_in kept.list one)) member kept.members counted.placed is_member)
            (λ e. apart (sym e))
            (at_member (λ one. is_within one.traits set ≡ true → ¬ IsBetter kept.list worst one) member kept.members found.2 is_member inside))
      ]
    ]

-- Just the members within the least full set can be replaced.
pub replace_within : (kept : Kept) (person : Person) (spare : List ℕ) (size : ℕ) (set : TraitSet) → IsCounted kept spare size → MayJoin kept person
    → IsLeastFull 64 spare person.traits set → AllByRecursion (λ member. CanReplace kept person member ↔ (is_within member.traits set ≡ true)) kept.members
replace_within kept person spare size set counted may least =
    each_member (λ member. CanReplace kept person member ↔ (is_within member.traits set ≡ true)) kept.members (λ member is_member. (
      (λ can. elim (cases_Bool (is_within member.traits set)) [
        | inl inside ↦ inside
        | inr outside ↦ absurd (cannot_replace kept person member spare size set counted may least is_member outside can)
      ]),
      (λ inside. can_replace kept person member spare size set counted may least is_member inside),
    ))

-- What the least full set shows of a person, if there is one.
pub told_by : (kept : Kept) (person : Person) (spare : List ℕ) (size : ℕ) (set : Option TraitSet) → IsCounted kept spare size → MayJoin kept person
    → IsLeastOf 64 spare person.traits set → IsReplaceable kept person set
told_by kept person spare size None counted may has = can_join kept person spare size counted may has
told_by kept person spare size (Some set) counted may least = (
  (λ can.
      let some = joins_where kept person spare size counted may can set.0 least.small least.holds in
      let none = least.full in omega arith),
  replace_within kept person spare size set counted may least,
)
