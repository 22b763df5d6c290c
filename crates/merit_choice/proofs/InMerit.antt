-- People by merit: who they are, and that their order is one.
use Rattle.std.proofs.Common.{◌≡◌, ◌≢◌, ◌≤◌, ◌⊎◌, ℕ, suc, Bool, true, false, cond, Option, Some, None, List, [], ◌∷◌, length, refl, sym, ap, ◌∙◌, subst, inl, inr, arith}
use Rattle.std.specs.Prelude.{IsSome}
use Rattle.std.specs.List.{AllByRecursion}
use Rattle.std.proofs.lemmas.Bool.{ltb-false, cases_Bool}
use Rattle.office_base.specs.Lists.{AnyByRecursion, IsSublist, Pairwise}
use Rattle.office_base.specs.Person.{IsAhead, IsBetter, IsTraitSet, number_in}
use Rattle.office_base.specs.StepChoice.{AreRanked}
use Rattle.office_base.specs.declared.person.ListId.{ListId}
use Rattle.office_base.specs.declared.person.Person.{Person}
use Rattle.office_base.proofs.Lists.{all_weaker}
use Rattle.placements.proofs.Sublists.{IsSublist-nil, IsSublist-same, length-sublist}
use Rattle.placements.specs.Ranks.{AreAmong, AreDistinct}
use Rattle.placements.proofs.Ranks.{any_all, all_both, among_longer, among_itself, among_again, are_among, all_among}
use Rattle.placements.proofs.Merit.{ahead_again, not_ahead, ahead_true}
use Rattle.merit_choice.specs.InMerit.{is_ahead, is_better, with_person, in_merit, CanBeRanked, IsNewTo, InMeritRanks, OneMeritOrder, SameMeritOrder, PartCanBeRanked, PartInMerit, RankedInMerit, RankedPart, WithPersonRanks}

-- ---- the order of two

-- of two other numbers that are there, the second is ahead where the first is not
pub ahead_false : (first second : Option ℕ) → IsSome first → IsSome second → first ≢ second → is_ahead first second ≡ false → IsAhead second first
ahead_false None second here there other told = absurd (let e : false ≡ true = here in cc)
ahead_false (Some m) None here there other told = absurd (let e : false ≡ true = there in cc)
ahead_false (Some m) (Some n) here there other told =
    let le = ltb-false m n told in
    let apart : m ≢ n = λ e. other (ap (λ (k : ℕ). Some k) e) in
    omega arith

-- ahead is another
pub ahead_other : (first second : Option ℕ) → IsAhead first second → first ≢ second
ahead_other None second ahead same = ahead
ahead_other (Some m) None ahead same = ahead
ahead_other (Some m) (Some n) ahead same = absurd (let e : m ≡ n = cc in omega arith)

-- ---- a person put into the order

-- what holds of the person and of each of the people holds of all of them
pub all_with : (P : Person → Type 0) (list : ListId) (person : Person) (people : List Person) → P person → AllByRecursion P people → AllByRecursion P (with_person list person people)
all_with P list person [] one all = (one, tt)
all_with P list person (other ∷ people) one all =
    elim (is_better list person other) as (λ b. AllByRecursion P (cond b (person ∷ other ∷ people) (other ∷ with_person list person people))) [
      | true ↦ (one, all)
      | false ↦ (all.0, all_with P list person people one all.1)
    ]

-- what holds of one of them holds of the person or of one of the people
pub with_any : (P : Person → Type 0) (list : ListId) (person : Person) (people : List Person) → AnyByRecursion P (with_person list person people) → P person ⊎ AnyByRecursion P people
with_any P list person [] = λ one. one
with_any P list person (other ∷ people) =
    elim (is_better list person other) as (λ b. AnyByRecursion P (cond b (person ∷ other ∷ people) (other ∷ with_person list person people)) → P person ⊎ (P other ⊎ AnyByRecursion P people)) [
      | true ↦ (λ one. one)
      | false ↦ (λ one. elim one [
        | inl here ↦ inr (inl here)
        | inr later ↦ elim (with_any P list person people later) [ inl his ↦ inl his | inr theirs ↦ inr (inr theirs) ]
      ])
    ]

-- and the other way round
pub any_with : (P : Person → Type 0) (list : ListId) (person : Person) (people : List Person) → P person ⊎ AnyByRecursion P people → AnyByRecursion P (with_person list person people)
any_with P list person [] one = one
any_with P list person (other ∷ people) one =
    elim (is_better list person other) as (λ b. AnyByRecursion P (cond b (person ∷ other ∷ people) (other ∷ with_person list person people))) [
      | true ↦ one
      | false ↦ elim one [
        | inl his ↦ inr (any_with P list person people (inl his))
        | inr theirs ↦ elim theirs [ inl here ↦ inl here | inr later ↦ inr (any_with P list person people (inr later)) ]
      ]
    ]

-- the people are a part of it
pub sublist_with : (list : ListId) (person : Person) (people : List Person) → IsSublist people (with_person list person people)
sublist_with list person [] = inl refl
sublist_with list person (other ∷ people) =
    elim (is_better list person other) as (λ b. IsSublist (other ∷ people) (cond b (person ∷ other ∷ people) (other ∷ with_person list person people))) [
      | true ↦ inl (IsSublist-same (other ∷ people))
      | false ↦ inr (people, refl, sublist_with list person people)
    ]

-- one more
pub length-with_person : (list : ListId) (person : Person) (people : List Person) → length (with_person list person people) ≡ suc (length people)
length-with_person list person [] = refl
length-with_person list person (other ∷ people) =
    elim (is_better list person other) as (λ b. length (cond b (person ∷ other ∷ people) (other ∷ with_person list person people)) ≡ suc (length (other ∷ people))) [
      | true ↦ refl
      | false ↦ ap suc (length-with_person list person people)
    ]

-- what holds both ways of the person and each of the people, and of each two of these, holds of each two of all
pub pairwise_with : (R : Person → Person → Type 0) (list : ListId) (person : Person) (people : List Person) → ((a b : Person) → R a b → R b a)
    → AllByRecursion (R person) people → Pairwise R people → Pairwise R (with_person list person people)
pairwise_with R list person [] back his theirs = (tt, tt)
pairwise_with R list person (other ∷ people) back his theirs =
    elim (is_better list person other) as (λ b. Pairwise R (cond b (person ∷ other ∷ people) (other ∷ with_person list person people))) [
      | true ↦ (his, theirs)
      | false ↦ (all_with (R other) list person people (back person other his.0) theirs.0, pairwise_with R list person people back his.1 theirs.1)
    ]

-- each is better than all who follow
in_order_with : (list : ListId) (person : Person) (people : List Person) → IsSome (number_in list person) → AllByRecursion (λ other. IsSome (number_in list other)) people
    → AllByRecursion (λ other. number_in list person ≢ number_in list other) people → Pairwise (IsBetter list) people → Pairwise (IsBetter list) (with_person list person people)
in_order_with list person [] here there numbers ranked = (tt, tt)
in_order_with list person (other ∷ people) here there numbers ranked = elim (cases_Bool (is_better list person other)) [
  | inl better ↦
      let first : IsBetter list person other = ahead_true (number_in list person) (number_in list other) better in
      let rest = all_weaker (IsBetter list other) (IsBetter list person)
      (λ one worse. ahead_again (number_in list person) (number_in list other) (number_in list one) first worse) people ranked.0 in
      let whole : Pairwise (IsBetter list) (person ∷ other ∷ people) = ((first, rest), ranked) in
      subst (λ (b : Bool). Pairwise (IsBetter list) (cond b (person ∷ other ∷ people) (other ∷ with_person list person people))) (sym better) whole
  | inr worse ↦
      let first : IsBetter list other person = ahead_false (number_in list person) (number_in list other) here there.0 numbers.0 worse in
      let whole : Pairwise (IsBetter list) (other ∷ with_person list person people) =
      (all_with (IsBetter list other) list person people first ranked.0, in_order_with list person people here there.1 numbers.1 ranked.1) in
      subst (λ (b : Bool). Pairwise (IsBetter list) (cond b (person ∷ other ∷ people) (other ∷ with_person list person people))) (sym worse) whole
]

-- ranked people with a new one are ranked
pub ranked_with : (list : ListId) (person : Person) (people : List Person) → AreRanked list people → IsNewTo list people person → AreRanked list (with_person list person people)
ranked_with list person people ranked new = record {
  traits = all_with (λ one. IsTraitSet one.traits) list person people new.traits ranked.traits;
  placed = all_with (λ one. IsSome (number_in list one)) list person people new.placed ranked.placed;
  in_order = in_order_with list person people new.placed ranked.placed new.numbers ranked.in_order;
  distinct = pairwise_with (λ a b. a.id ≢ b.id) list person people (λ a b apart same. apart (sym same)) new.distinct ranked.distinct;
}

-- they are the person and the people
pub among_with : (list : ListId) (person : Person) (people : List Person) → AreAmong (person ∷ people) (with_person list person people)
among_with list person people = are_among (person ∷ people) (with_person list person people) (λ one there. any_with (λ other. one ≡ other) list person people there)

pub with_among : (list : ListId) (person : Person) (people : List Person) → AreAmong (with_person list person people) (person ∷ people)
with_among list person people = are_among (with_person list person people) (person ∷ people) (λ one there. with_any (λ other. one ≡ other) list person people there)

pub with_person_ranks : WithPersonRanks
with_person_ranks list people person ranked new =
    (ranked_with list person people ranked new, among_with list person people, with_among list person people, sublist_with list person people)

-- ---- people by merit

-- what holds of each holds of each by merit
pub all_in_merit : (P : Person → Type 0) (list : ListId) (people : List Person) → AllByRecursion P people → AllByRecursion P (in_merit list people)
all_in_merit P list [] all = tt
all_in_merit P list (person ∷ people) all = all_with P list person (in_merit list people) all.0 (all_in_merit P list people all.1)

-- people who can be ranked are ranked
pub ranked_in_order : (list : ListId) (people : List Person) → CanBeRanked list people → AreRanked list (in_merit list people)
ranked_in_order list [] can = record { traits = tt; placed = tt; in_order = tt; distinct = tt }
ranked_in_order list (person ∷ people) can =
    ranked_with list person (in_merit list people)
    (ranked_in_order list people (record { traits = can.traits.1; placed = can.placed.1; numbers = can.numbers.1; distinct = can.distinct.1 }))
    (record {
      traits = can.traits.0;
      placed = can.placed.0;
      distinct = all_in_merit (λ other. person.id ≢ other.id) list people can.distinct.0;
      numbers = all_in_merit (λ other. number_in list person ≢ number_in list other) list people can.numbers.0;
    })

-- they are the same persons
pub among_in_merit : (list : ListId) (people : List Person) → AreAmong people (in_merit list people)
among_in_merit list [] = tt
among_in_merit list (person ∷ people) =
    among_again (person ∷ people) (person ∷ in_merit list people) (with_person list person (in_merit list people))
    (inl refl, among_longer person people (in_merit list people) (among_in_merit list people)) (among_with list person (in_merit list people))

pub in_merit_among : (list : ListId) (people : List Person) → AreAmong (in_merit list people) people
in_merit_among list [] = tt
in_merit_among list (person ∷ people) =
    among_again (with_person list person (in_merit list people)) (person ∷ in_merit list people) (person ∷ people)
    (with_among list person (in_merit list people)) (inl refl, among_longer person (in_merit list people) people (in_merit_among list people))

-- and as many
pub length-in_merit : (list : ListId) (people : List Person) → length (in_merit list people) ≡ length people
length-in_merit list [] = refl
length-in_merit list (person ∷ people) = length-with_person list person (in_merit list people) ∙ ap suc (length-in_merit list people)

pub in_merit_ranks : InMeritRanks
in_merit_ranks list people can = (ranked_in_order list people can, among_in_merit list people, in_merit_among list people, length-in_merit list people)

-- ---- one order

-- people who are all worse than the first of others are among the rest of these
among_rest : (list : ListId) (person : Person) (some all : List Person) → AllByRecursion (IsBetter list person) some → AreAmong some (person ∷ all) → AreAmong some all
among_rest list person some all worse among =
    all_both (IsBetter list person) (λ one. AnyByRecursion (λ other. one ≡ other) (person ∷ all)) (λ one. AnyByRecursion (λ other. one ≡ other) all)
    (λ one better there. elim there [
      | inl same ↦ absurd (not_ahead (number_in list person) (subst (λ (o : Person). IsBetter list person o) same better))
      | inr later ↦ later
    ]) some worse among

-- the ranked without their first
pub ranked_rest : (list : ListId) (person : Person) (people : List Person) → AreRanked list (person ∷ people) → AreRanked list people
ranked_rest list person people ranked = record { traits = ranked.traits.1; placed = ranked.placed.1; in_order = ranked.in_order.1; distinct = ranked.distinct.1 }

pub ranked_part : RankedPart
ranked_part list [] all mine theirs among = IsSublist-nil all
ranked_part list (person ∷ some) [] mine theirs among = absurd among.0
ranked_part list (person ∷ some) (other ∷ all) mine theirs among = elim among.0 [
  | inl same ↦
      let among_more : AreAmong some (person ∷ all) = subst (λ (o : Person). AreAmong some (o ∷ all)) (sym same) among.1 in
      let rest = ranked_part list some all (ranked_rest list person some mine) (ranked_rest list other all theirs)
      (among_rest list person some all mine.in_order.0 among_more) in
      inr (some, ap (λ (o : Person). o ∷ some) same, rest)
  | inr later ↦
      let first : IsBetter list other person =
      let found = any_all (λ (o : Person). person ≡ o) (IsBetter list other) all later theirs.in_order.0 in subst (IsBetter list other) (sym found.1) found.2 in
      let worse = all_weaker (IsBetter list person) (IsBetter list other)
      (λ one ahead. ahead_again (number_in list other) (number_in list person) (number_in list one) first ahead) some mine.in_order.0 in
      inl (ranked_part list (person ∷ some) all mine (ranked_rest list other all theirs) (later, among_rest list other some all worse among.1))
]

-- a part as long as the whole is the whole
pub whole_sublist : {X : Type 0} (xs ys : List X) → IsSublist xs ys → length ys ≤ length xs → xs ≡ ys
whole_sublist xs [] sub count = sub
whole_sublist xs (y ∷ ys) sub count = elim sub [
  | inl later ↦ absurd (omega (arith, length-sublist xs ys later))
  | inr now ↦
      let size = ap length now.1 in
      let rest : now.0 ≡ ys = whole_sublist now.0 ys now.2 (omega arith) in
      now.1 ∙ ap (λ (zs : List _). y ∷ zs) rest
]

-- two ranked lists of the same persons are one
pub ranked_same : (list : ListId) (some others : List Person) → AreRanked list some → AreRanked list others → AreAmong some others → AreAmong others some → some ≡ others
ranked_same list some others mine theirs there back =
    whole_sublist some others (ranked_part list some others mine theirs there) (length-sublist others some (ranked_part list others some theirs mine back))

pub one_merit_order : OneMeritOrder
one_merit_order list people ranked can order there back =
    ranked_same list ranked (in_merit list people) order (ranked_in_order list people can)
    (among_again ranked people (in_merit list people) back (among_in_merit list people))
    (among_again (in_merit list people) people ranked (in_merit_among list people) there)

pub same_merit_order : SameMeritOrder
same_merit_order list some others can can_too there back =
    one_merit_order list others (in_merit list some) can_too (ranked_in_order list some can)
    (among_again others some (in_merit list some) back (among_in_merit list some))
    (among_again (in_merit list some) some others (in_merit_among list some) there)

-- the ranked can be ranked
pub ranked_can : (list : ListId) (people : List Person) → AreRanked list people → CanBeRanked list people
ranked_can list people ranked = record { traits = ranked.traits; placed = ranked.placed; numbers = numbers people ranked.in_order; distinct = ranked.distinct }
  where
    numbers : (people : List Person) → Pairwise (IsBetter list) people → Pairwise (λ a b. number_in list a ≢ number_in list b) people
    numbers [] order = tt
    numbers (person ∷ people) order = (
      all_weaker (IsBetter list person) (λ other. number_in list person ≢ number_in list other) (λ other ahead. ahead_other (number_in list person) (number_in list other) ahead) people order.0,
      numbers people order.1,
    )

pub ranked_in_merit : RankedInMerit
ranked_in_merit list people ranked =
    let can = ranked_can list people ranked in
    (can, sym (one_merit_order list people people can ranked (among_itself people) (among_itself people)))

-- what holds both ways of each two of all holds of two of them who are not one
two_of : (R : Person → Person → Type 0) (all : List Person) → ((a b : Person) → R a b → R b a) → Pairwise R all → (a b : Person)
    → AnyByRecursion (λ other. a ≡ other) all → AnyByRecursion (λ other. b ≡ other) all → (a ≡ b → ⊥) → R a b
two_of R [] back each a b in_a in_b apart = absurd in_a
two_of R (person ∷ all) back each a b in_a in_b apart = elim in_a [
  | inl here ↦ elim in_b [
    | inl too ↦ absurd (apart (here ∙ sym too))
    | inr later ↦
        let found = any_all (λ other. b ≡ other) (R person) all later each.0 in
        let first : R person b = subst (R person) (sym found.1) found.2 in
        subst (λ one. R one b) (sym here) first
  ]
  | inr later ↦ elim in_b [
    | inl here ↦
        let found = any_all (λ other. a ≡ other) (R person) all later each.0 in
        let first : R person a = subst (R person) (sym found.1) found.2 in
        back b a (subst (λ one. R one a) (sym here) first)
    | inr too ↦ two_of R all back each.1 a b later too apart
  ]
]

pub part_can_be_ranked : PartCanBeRanked
part_can_be_ranked list some all distinct can among = record {
  traits = all_among (λ one. IsTraitSet one.traits) some all among can.traits;
  placed = all_among (λ one. IsSome (number_in list one)) some all among can.placed;
  numbers = numbers some distinct among;
  distinct = distinct;
}
  where
    numbers : (some : List Person) → AreDistinct some → AreAmong some all → Pairwise (λ a b. number_in list a ≢ number_in list b) some
    numbers [] distinct among = tt
    numbers (person ∷ some) distinct among = (
      all_both (λ other. person.id ≢ other.id) (λ other. AnyByRecursion (λ one. other ≡ one) all) (λ other. number_in list person ≢ number_in list other)
          (λ other apart there.
          two_of (λ a b. number_in list a ≢ number_in list b) all (λ a b other same. other (sym same)) can.numbers person other among.0 there
          (λ same. apart (ap (λ (p : Person). p.id) same)))
          some distinct.0 among.1,
      numbers some distinct.1 among.1,
    )

pub part_in_merit : PartInMerit
part_in_merit list some all distinct can among =
    let part = part_can_be_ranked list some all distinct can among in
    ranked_part list (in_merit list some) (in_merit list all) (ranked_in_order list some part) (ranked_in_order list all can)
    (among_again (in_merit list some) some (in_merit list all) (in_merit_among list some)
    (among_again some all (in_merit list all) among (among_in_merit list all)))
