-- The worst of the needed whom a person can replace, found among those held from the person's merit place on.
use Rattle.std.proofs.Common.{◌≡◌, ◌≤◌, ◌<◌, ◌⊎◌, ◌↔◌, ℕ, zero, suc, Bool, true, false, Some, List, [], ◌∷◌, length, get_or, refl, sym, ap, ◌∙◌, subst, inl, inr, arith}
use Rattle.std.specs.List.{AllByRecursion, AllZip, insert}
use Rattle.std.proofs.lemmas.Bool.{cases_lt}
use Rattle.office_base.specs.Lists.{Pairwise}
use Rattle.office_base.specs.Person.{IsBetter, IsTraitSet, number_in}
use Rattle.office_base.specs.StepChoice.{AreRanked}
use Rattle.office_base.specs.declared.person.ListId.{ListId}
use Rattle.office_base.specs.declared.person.Person.{Person}
use Rattle.office_base.specs.declared.person.TraitSet.{TraitSet}
use Rattle.office_base.specs.declared.step.Protections.{Protections}
use Rattle.placements.specs.Demand.{asking, is_within, positions}
use Rattle.placements.specs.Ranks.{CanBePlaced}
use Rattle.placements.proofs.Hall.{none_short_where_placed, one_if_true}
use Rattle.placements.proofs.Merit.{ahead_again, not_ahead}
use Rattle.placements.proofs.Ranks.{all_among, any_all}
use Rattle.slot_matching.specs.Augmented.{CanReplace, IsAugmented, IsWorstFor}
use Rattle.slot_matching.specs.Kept.{Kept, with_member}
use Rattle.slot_matching.specs.Replaceable.{IsReplaceable}
use Rattle.slot_matching.specs.declared.matching.Augment.{Augment}
use Rattle.slot_matching.specs.declared.matching.Augment.TheVariants.{Raised, Held}
use Rattle.merit_choice.specs.InMerit.{IsNewTo, with_person}
use Rattle.merit_choice.specs.Laws.{IsAmong}
use Rattle.merit_choice.specs.Needed.{Tells}
use Rattle.merit_choice.specs.State.{IsMatched}
use Rattle.merit_choice.specs.Within.{AreNoneWithin, IsLastWithin, IsOneWithin}
use Rattle.merit_choice.proofs.InMerit.{ranked_with}
use Rattle.merit_choice.proofs.Joining.{joined_kept}
use Rattle.merit_choice.proofs.Needed.{among_more}

-- ---- places

-- the place at which somebody is
at_place : (one : Person) (people : List Person) → IsAmong one people → (k : ℕ) × (k < length people) × ((other : Person) → get_or people k other ≡ one)
at_place one [] there = absurd there
at_place one (first ∷ people) there = elim there [
  | inl here ↦ (0, omega arith, λ other. sym here)
  | inr later ↦ let found = at_place one people later in (suc found.0, (let inside = found.1 in omega arith), λ other. found.2 other)
]

-- what holds of each holds of the one at a place
all_at : (P : Person → Type 0) (people : List Person) (k : ℕ) (other : Person) → AllByRecursion P people → k < length people → P (get_or people k other)
all_at P [] k other all inside = absurd (omega arith)
all_at P (one ∷ people) zero other all inside = all.0
all_at P (one ∷ people) (suc k) other all inside = all_at P people k other all.1 (omega arith)

-- what holds of each one as one of the people holds of each
each_of : (P : Person → Type 0) (people : List Person) → ((one : Person) → IsAmong one people → P one) → AllByRecursion P people
each_of P [] each = tt
each_of P (first ∷ people) each = (each first (inl refl), each_of P people (λ one there. each one (inr there)))

-- and of who is put in
of_inserted : (P : Person → Type 0) (people : List Person) (at : ℕ) (person : Person) → AllByRecursion P (insert people at person) → P person
of_inserted P [] zero person all = all.0
of_inserted P [] (suc at) person all = all.0
of_inserted P (one ∷ people) zero person all = all.0
of_inserted P (one ∷ people) (suc at) person all = of_inserted P people at person all.1

-- a person before another is better
ordered_at : (list : ListId) (people : List Person) (j k : ℕ) (other : Person) → Pairwise (IsBetter list) people → j < k → k < length people
    → IsBetter list (get_or people j other) (get_or people k other)
ordered_at list [] j k other order less inside = absurd (omega arith)
ordered_at list (one ∷ people) j zero other order less inside = absurd (omega arith)
ordered_at list (one ∷ people) zero (suc k) other order less inside = all_at (IsBetter list one) people k other order.0 (omega arith)
ordered_at list (one ∷ people) (suc j) (suc k) other order less inside = ordered_at list people j k other order.1 (omega arith) (omega arith)

-- those before the place of a person are better
before_place : (list : ListId) (person other : Person) (people : List Person) (at k : ℕ) → Pairwise (IsBetter list) (insert people at person) → at ≤ length people → k < at
    → IsBetter list (get_or people k other) person
before_place list person other [] at k order inside less = absurd (omega arith)
before_place list person other (one ∷ people) zero k order inside less = absurd (omega arith)
before_place list person other (one ∷ people) (suc at) zero order inside less = of_inserted (IsBetter list one) people at person order.0
before_place list person other (one ∷ people) (suc at) (suc k) order inside less = before_place list person other people at k order.1 (omega arith) (omega arith)

-- and the others are worse
pub after_place : (list : ListId) (person other : Person) (people : List Person) (at k : ℕ) → Pairwise (IsBetter list) (insert people at person) → at ≤ k → k < length people
    → IsBetter list person (get_or people k other)
after_place list person other [] at k order since inside = absurd (omega arith)
after_place list person other (one ∷ people) zero k order since inside = all_at (IsBetter list person) (one ∷ people) k other order.0 inside
after_place list person other (one ∷ people) (suc at) zero order since inside = absurd (omega arith)
after_place list person other (one ∷ people) (suc at) (suc k) order since inside = after_place list person other people at k order.1 (omega arith) (omega arith)

-- a mark that is set shows that the person there is needed
needed_at : (needed people : List Person) (marks : List Bool) (k : ℕ) (other : Person) → AllZip (Tells needed) people marks → k < length people → get_or marks k false ≡ true
    → IsAmong (get_or people k other) needed
needed_at needed [] marks k other all inside set = absurd (omega arith)
needed_at needed (one ∷ people) [] k other all inside set = absurd all
needed_at needed (one ∷ people) (true ∷ marks) zero other all inside set = all.0
needed_at needed (one ∷ people) (false ∷ marks) zero other all inside set = absurd (let e : false ≡ true = set in cc)
needed_at needed (one ∷ people) (mark ∷ marks) (suc k) other all inside set = needed_at needed people marks k other all.1 (omega arith) set

-- a person who is needed has a mark
marked_at : (needed people : List Person) (marks : List Bool) (k : ℕ) (other : Person) → AllZip (Tells needed) people marks → k < length people
    → IsAmong (get_or people k other) needed → get_or marks k false ≡ true
marked_at needed [] marks k other all inside his = absurd (omega arith)
marked_at needed (one ∷ people) [] k other all inside his = absurd all
marked_at needed (one ∷ people) (true ∷ marks) zero other all inside his = refl
marked_at needed (one ∷ people) (false ∷ marks) zero other all inside his = absurd (all.0 his)
marked_at needed (one ∷ people) (mark ∷ marks) (suc k) other all inside his = marked_at needed people marks k other all.1 (omega arith) his

-- ---- nobody is needed who holds no trait

-- somebody within a set asks there
some_ask : (set : TraitSet) (people : List Person) (one : Person) → IsAmong one people → is_within one.traits set ≡ true → 0 < asking set people
some_ask set [] one there inside = absurd there
some_ask set (first ∷ people) one there inside = elim there [
  | inl here ↦ (
      let same : is_within first.traits set ≡ true = subst (λ (p : Person). is_within p.traits set ≡ true) here inside in
      let first_asks = one_if_true (is_within first.traits set) same in omega arith)
  | inr later ↦ (let deeper = some_ask set people one later inside in omega arith)
]

-- no trait has no position
no_positions : (protections : Protections) → positions protections (record { 0 = 0 }) ≡ 0
no_positions protections = refl

-- ---- a person comes

-- A person comes at a place among those held, and can replace just those of the needed who hold no trait outside the set.
pub record ComesAt (list : ListId) (held : List Person) (marks : List Bool) (kept : Kept) (person : Person) (at : ℕ) (set : TraitSet) : Type 0 where
  pub ranked : AreRanked list held
  pub new : IsNewTo list held person
  pub matched : IsMatched list held marks kept
  pub inside : at ≤ length held
  pub place : insert held at person ≡ with_person list person held
  pub replaceable : IsReplaceable kept person (Some set)

-- then all are in order
pub in_order : (list : ListId) (held : List Person) (marks : List Bool) (kept : Kept) (person : Person) (at : ℕ) (set : TraitSet) → ComesAt list held marks kept person at set
    → Pairwise (IsBetter list) (insert held at person)
in_order list held marks kept person at set comes = subst (Pairwise (IsBetter list)) (sym comes.place) (ranked_with list person held comes.ranked comes.new).in_order

-- a person who can be replaced is within the set
within_set : (list : ListId) (held : List Person) (marks : List Bool) (kept : Kept) (person : Person) (at : ℕ) (set : TraitSet) → ComesAt list held marks kept person at set
    → (one : Person) → IsAmong one kept.members → CanReplace kept person one ↔ (is_within one.traits set ≡ true)
within_set list held marks kept person at set comes one his =
    let found = any_all (λ (each : Person). one ≡ each) (λ (each : Person). CanReplace kept person each ↔ (is_within each.traits set ≡ true)) kept.members his comes.replaceable.1 in
    subst (λ (each : Person). CanReplace kept person each ↔ (is_within each.traits set ≡ true)) (sym found.1) found.2

-- and is at a place with a mark
stands_within : (list : ListId) (held : List Person) (marks : List Bool) (kept : Kept) (person : Person) (at : ℕ) (set : TraitSet) → ComesAt list held marks kept person at set
    → (one : Person) → IsAmong one kept.members → CanReplace kept person one → (k : ℕ) × IsOneWithin set held marks k × ((other : Person) → get_or held k other ≡ one)
stands_within list held marks kept person at set comes one his can =
    let inside : is_within one.traits set ≡ true = (within_set list held marks kept person at set comes one his).0 can in
    let place = at_place one held (among_more one kept.members held comes.matched.needs.among his) in (
      place.0,
      record {
        inside = place.1;
        marked = marked_at kept.members held marks place.0 one comes.matched.told place.1 (subst (λ (p : Person). IsAmong p kept.members) (sym (place.2 one)) his);
        within = λ other. subst (λ (p : Person). is_within p.traits set ≡ true) (sym (place.2 other)) inside;
      },
      place.2,
    )

-- where none of these is worse the needed stay
pub joined_outside : (list : ListId) (held : List Person) (marks : List Bool) (kept : Kept) (person : Person) (at : ℕ) (set : TraitSet) → ComesAt list held marks kept person at set
    → AreNoneWithin set held marks at → IsMatched list (person ∷ held) (false ∷ marks) kept
joined_outside list held marks kept person at set comes none =
    joined_kept list held marks kept person comes.new comes.matched comes.replaceable.0 (λ one his better can.
    let stands = stands_within list held marks kept person at set comes one his can in
    elim (cases_lt stands.0 at) [
      | inl less ↦
          let before = before_place list person one held at stands.0 (in_order list held marks kept person at set comes) comes.inside less in
          let ahead : IsBetter list one person = subst (λ (p : Person). IsBetter list p person) (stands.2 one) before in
          not_ahead (number_in list person) (ahead_again (number_in list person) (number_in list one) (number_in list person) better ahead)
      | inr since ↦ none stands.0 since stands.1
    ])

-- and where the person holds no trait
pub joined_traitless : (list : ListId) (held : List Person) (marks : List Bool) (kept : Kept) (person : Person) (at : ℕ) (set : TraitSet) → ComesAt list held marks kept person at set
    → set ≡ record { 0 = 0 } → IsMatched list (person ∷ held) (false ∷ marks) kept
joined_traitless list held marks kept person at set comes nothing =
    joined_kept list held marks kept person comes.new comes.matched comes.replaceable.0 (λ one his better can.
    let none : TraitSet = record { 0 = 0 } in
    let inside : is_within one.traits none ≡ true = subst (λ (s : TraitSet). is_within one.traits s ≡ true) nothing ((within_set list held marks kept person at set comes one his).0 can) in
    let asks = some_ask none kept.members one his inside in
    let small = all_among (λ (each : Person). IsTraitSet each.traits) kept.members held comes.matched.needs.among comes.ranked.traits in
    let short = none_short_where_placed kept.protections kept.members none comes.matched.needs.distinct small comes.matched.needs.placed in
    let room = no_positions kept.protections in
    omega (arith, asks, short, room))

-- the last of them is needed, and the person can replace that one
last_needed : (list : ListId) (held : List Person) (marks : List Bool) (kept : Kept) (person : Person) (at : ℕ) (set : TraitSet) → ComesAt list held marks kept person at set
    → (last : ℕ) (other : Person) → IsLastWithin set held marks at last → IsAmong (get_or held last other) kept.members
last_needed list held marks kept person at set comes last other found =
    needed_at kept.members held marks last other comes.matched.told found.here.inside found.here.marked

pub last_can : (list : ListId) (held : List Person) (marks : List Bool) (kept : Kept) (person : Person) (at : ℕ) (set : TraitSet) → ComesAt list held marks kept person at set
    → (last : ℕ) (other : Person) → IsLastWithin set held marks at last → CanReplace kept person (get_or held last other)
last_can list held marks kept person at set comes last other found =
    (within_set list held marks kept person at set comes (get_or held last other) (last_needed list held marks kept person at set comes last other found)).1
    (found.here.within other)

-- that one is the worst whom the person can replace
pub last_is_worst_for : (list : ListId) (held : List Person) (marks : List Bool) (kept : Kept) (person : Person) (at : ℕ) (set : TraitSet) → ComesAt list held marks kept person at set
    → (last : ℕ) (other : Person) → IsLastWithin set held marks at last → IsWorstFor kept person (Some (get_or held last other).id)
last_is_worst_for list held marks kept person at set comes last other found =
    let worst = get_or held last other in (
      worst,
      refl,
      last_needed list held marks kept person at set comes last other found,
      last_can list held marks kept person at set comes last other found,
      each_of (λ (member : Person). CanReplace kept person member → (member ≡ worst) ⊎ IsBetter kept.list member worst) kept.members (λ one mine can.
          let stands = stands_within list held marks kept person at set comes one mine can in
          elim (cases_lt last stands.0) [
            | inl past ↦ absurd (found.later stands.0 past stands.1)
            | inr upto ↦ elim (cases_lt stands.0 last) [
              | inl less ↦
                  let ahead : IsBetter list (get_or held stands.0 other) worst = ordered_at list held stands.0 last other comes.ranked.in_order less found.here.inside in
                  inr (subst (λ (l : ListId). IsBetter l one worst) (sym comes.matched.same_list) (subst (λ (p : Person). IsBetter list p worst) (stands.2 other) ahead))
              | inr more ↦
                  let same : stands.0 ≡ last = omega arith in
                  inl (sym (stands.2 other) ∙ ap (λ (k : ℕ). get_or held k other) same)
            ]
          ]),
    )

-- where the person can be placed with all members, the matching keeps the person too
pub raised_of : (before : Kept) (person : Person) (answer : Augment) (after : Kept) → CanBePlaced before.protections (with_member before person).members
    → IsAugmented before person answer after → after ≡ with_member before person
raised_of before person Raised after can done = done.1
raised_of before person (Held worst) after can done = absurd (done.0 can)
