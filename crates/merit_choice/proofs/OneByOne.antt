-- One person too many, and people who come one by one.
use Rattle.std.proofs.Common.{◌≡◌, ◌≢◌, ◌⊎◌, ℕ, suc, List, [], ◌∷◌, length, refl, sym, ap, ◌∙◌, subst, inl, inr, arith}
use Rattle.std.specs.List.{AllByRecursion}
use Rattle.office_base.specs.Lists.{AnyByRecursion, IsSublist, Pairwise}
use Rattle.office_base.specs.Person.{IsBetter, number_in}
use Rattle.office_base.specs.Placement.{IsHonoured}
use Rattle.office_base.specs.StepChoice.{IsStep, IsNoWorse, MayAdmit, IsStepChoice}
use Rattle.office_base.specs.declared.person.ListId.{ListId}
use Rattle.office_base.specs.declared.person.Person.{Person}
use Rattle.office_base.specs.declared.step.Step.{Step}
use Rattle.placements.proofs.Sublists.{AllByRecursion-sublist}
use Rattle.placements.specs.Ranks.{AreDistinct, without}
use Rattle.placements.proofs.Greatest.{honoured-exists}
use Rattle.placements.proofs.Ranks.{any_all, any_among, among_sublist, monotone, pairwise_sublist, ranked_sublist, are_among}
use Rattle.placements.proofs.Without.{is_numbered, without_first, without_later, without_sublist, length_without}
use Rattle.placements.proofs.Merit.{ahead_again, not_ahead}
use Rattle.merit_choice.specs.InMerit.{CanBeRanked, IsNewTo, in_merit, with_person}
use Rattle.merit_choice.specs.Laws.{IsAmong, HasMorePeople, OneTooMany, SeatsForAll, RefusedBefore, OneByOne}
use Rattle.merit_choice.proofs.InMerit.{all_in_merit, with_any, any_with, ranked_in_order, ranked_with, sublist_with, whole_sublist}
use Rattle.merit_choice.proofs.StepLaws.{choice_exists, choice_size, refused_stays_refused, leaving_out_refused}

-- ---- everybody

pub seats_for_all : SeatsForAll
seats_for_all step ok room =
    let choice = choice_exists step ok in
    let size = choice_size step choice.0 ok choice.1 in
    let same : choice.0 ≡ step.people = whole_sublist choice.0 step.people choice.1.may.people (omega arith) in
    subst (IsStepChoice step) same choice.1

-- ---- one too many

-- a part with one person fewer is all without that one
one_shorter : (some all : List Person) → AreDistinct all → IsSublist some all → length all ≡ suc (length some) → (out : Person) × IsAmong out all × (some ≡ without out.id all)
one_shorter some [] distinct sub count = absurd (omega arith)
one_shorter some (person ∷ all) distinct sub count = elim sub [
  | inl later ↦
      let same : some ≡ all = whole_sublist some all later (omega arith) in
      (person, inl refl, same ∙ sym (without_first person.id person all refl))
  | inr now ↦
      let size = ap length now.1 in
      let rest = one_shorter now.0 all distinct.1 now.2 (omega arith) in
      let found = any_all (λ other. rest.0 ≡ other) (λ other. person.id ≢ other.id) all rest.1 distinct.0 in
      let apart : person.id ≢ rest.0.id = λ e. found.2 (e ∙ ap (λ (p : Person). p.id) found.1) in
      (rest.0, inr rest.1, now.1 ∙ ap (λ (those : List Person). person ∷ those) rest.2 ∙ sym (without_later rest.0.id person all apart))
]

-- of two of the people one is better
pub better_or_worse : (list : ListId) (people : List Person) (a b : Person) → Pairwise (IsBetter list) people → IsAmong a people → IsAmong b people → a.id ≢ b.id
    → IsBetter list a b ⊎ IsBetter list b a
better_or_worse list [] a b order in_a in_b apart = absurd in_a
better_or_worse list (person ∷ people) a b order in_a in_b apart = elim in_a [
  | inl here ↦ elim in_b [
    | inl too ↦ absurd (apart (ap (λ (p : Person). p.id) (here ∙ sym too)))
    | inr later ↦ inl (subst (λ (one : Person). IsBetter list one b) (sym here) (worse people b order.0 later))
  ]
  | inr later ↦ elim in_b [
    | inl here ↦ inr (subst (λ (one : Person). IsBetter list one a) (sym here) (worse people a order.0 later))
    | inr too ↦ better_or_worse list people a b order.1 later too apart
  ]
]
  where
    worse : (others : List Person) (one : Person) → AllByRecursion (IsBetter list person) others → IsAmong one others → IsBetter list person one
    worse others one all there = let found = any_all (λ other. one ≡ other) (IsBetter list person) others there all in subst (IsBetter list person) (sym found.1) found.2

-- without a better one the people are worse somewhere
better_left_out : (list : ListId) (people : List Person) (a b : Person) → Pairwise (IsBetter list) people → AreDistinct people → IsAmong a people → IsAmong b people → IsBetter list a b
    → IsNoWorse list (without a.id people) (without b.id people) → ⊥
better_left_out list [] a b order distinct in_a in_b better no_worse = absurd in_a
better_left_out list (person ∷ people) a b order distinct in_a in_b better no_worse = elim in_a [
  | inl here ↦
      let apart : person.id ≢ b.id = λ same. elim in_b [
        | inl too ↦ not_ahead (number_in list a) (subst (IsBetter list a) (too ∙ sym here) better)
        | inr later ↦ let found = any_all (λ other. b ≡ other) (λ other. person.id ≢ other.id) people later distinct.0 in
            found.2 (same ∙ ap (λ (p : Person). p.id) found.1)
      ] in
      let left : IsNoWorse list people (without b.id (person ∷ people)) =
      subst (λ (those : List Person). IsNoWorse list those (without b.id (person ∷ people))) (without_first a.id person people (ap (λ (p : Person). p.id) (sym here))) no_worse in
      first_worse person people (without b.id people) order.0 (subst (IsNoWorse list people) (without_later b.id person people apart) left)
  | inr later ↦ elim in_b [
    | inl too ↦
        let found = any_all (λ other. a ≡ other) (IsBetter list person) people later order.0 in
        let first : IsBetter list b a = subst (λ (one : Person). IsBetter list one a) (sym too) (subst (IsBetter list person) (sym found.1) found.2) in
        not_ahead (number_in list a) (ahead_again (number_in list a) (number_in list b) (number_in list a) better first)
    | inr there ↦
        let mine = without_later a.id person people (apart a later) in
        let theirs = without_later b.id person people (apart b there) in
        let both : IsNoWorse list (person ∷ without a.id people) (person ∷ without b.id people) =
        subst (IsNoWorse list (person ∷ without a.id people)) theirs (subst (λ (those : List Person). IsNoWorse list those (without b.id (person ∷ people))) mine no_worse) in
        better_left_out list people a b order.1 distinct.1 later there better both.1
  ]
]
  where
    apart : (one : Person) → IsAmong one people → person.id ≢ one.id
    apart one there same = let found = any_all (λ other. one ≡ other) (λ other. person.id ≢ other.id) people there distinct.0 in
        found.2 (same ∙ ap (λ (p : Person). p.id) found.1)

    first_worse : (one : Person) (rest others : List Person) → AllByRecursion (IsBetter list one) rest → IsNoWorse list rest (one ∷ others) → ⊥
    first_worse one [] others all worse = worse
    first_worse one (other ∷ rest) others all worse = elim worse.0 [
      | inl same ↦ not_ahead (number_in list one) (subst (IsBetter list one) same all.0)
      | inr ahead ↦ not_ahead (number_in list one) (ahead_again (number_in list one) (number_in list other) (number_in list one) all.0 ahead)
    ]

-- one of the people has their number
pub has_number : (person : Person) (people : List Person) → IsAmong person people → AnyByRecursion (λ (member : Person). member.id ≡ person.id) people
has_number person [] there = absurd there
has_number person (other ∷ people) there = elim there [ inl here ↦ inl (ap (λ (p : Person). p.id) (sym here)) | inr later ↦ inr (has_number person people later) ]

pub one_too_many : OneTooMany
one_too_many step out n ok count there all left worse =
    let distinct = ok.people.distinct in
    let choice = choice_exists step ok in
    let chosen = choice.0 in
    let size = choice_size step chosen ok choice.1 in
    let short = one_shorter chosen step.people distinct choice.1.may.people (omega arith) in
    let gone = short.0 in
    let mine = honoured-exists step.protections chosen (pairwise_sublist (λ (a : Person) (b : Person). a.id ≢ b.id) chosen step.people choice.1.may.people distinct) in
    let low = monotone step.protections chosen step.people mine.0 n (among_sublist chosen step.people choice.1.may.people) mine.1 all in
    let fits = length_without out.id step.people (has_number out step.people there) in
    let may : MayAdmit step (without out.id step.people) = record { people = without_sublist out.id step.people; seats = omega arith } in
    let high = choice.1.most (without out.id step.people) n mine.0 may left mine.1 in
    let e : mine.0 ≡ n = omega arith in
    let same : chosen ≡ without out.id step.people = elim (is_numbered gone.id out) [
      | inl one ↦ short.2 ∙ ap (λ c. without c step.people) (sym one)
      | inr other ↦ elim (better_or_worse step.list step.people gone out ok.people.in_order short.1 there (λ s. other (sym s))) [
        | inl better ↦ absurd (
            let no_worse = choice.1.best (without out.id step.people) n may left (subst (λ (k : ℕ). IsHonoured step.protections chosen k) e mine.1) in
            better_left_out step.list step.people gone out ok.people.in_order distinct short.1 there better
            (subst (λ (those : List Person). IsNoWorse step.list those (without out.id step.people)) short.2 no_worse))
        | inr bad ↦ absurd (
            let fewer = worse gone mine.0 short.1 bad (subst (λ (those : List Person). IsHonoured step.protections those mine.0) short.2 mine.1) in
            omega arith)
      ]
    ] in
    subst (IsStepChoice step) same choice.1

-- ---- one by one

pub refused_before : RefusedBefore
refused_before step small more chosen some others first second was now all gone =
    leaving_out_refused small more some others second now all (λ person in_more out there.
    let before = gone person in_more out in
    refused_stays_refused step more chosen others person first was all before.0 before.1 there)

-- who is new to all is new to some
pub new_to_part : (list : ListId) (some all : List Person) (person : Person) → IsSublist some all → IsNewTo list all person → IsNewTo list some person
new_to_part list some all person sub new = record {
  traits = new.traits;
  placed = new.placed;
  distinct = AllByRecursion-sublist (λ (other : Person). person.id ≢ other.id) some all sub new.distinct;
  numbers = AllByRecursion-sublist (λ (other : Person). number_in list person ≢ number_in list other) some all sub new.numbers;
}

pub one_by_one : OneByOne
one_by_one list seats protections [] held is_list room can after =
    let step : Step = record { list = list; seats = seats; protections = protections; people = [] } in
    let ok : IsStep step = record { list = is_list; people = record { traits = tt; placed = tt; in_order = tt; distinct = tt }; protections = room } in
    subst (IsStepChoice step) (sym after) (seats_for_all step ok (omega arith))
one_by_one list seats protections (person ∷ offered) held is_list room can after =
    let before = after.0 in
    let those = in_merit list offered in
    let can_rest : CanBeRanked list offered = record { traits = can.traits.1; placed = can.placed.1; numbers = can.numbers.1; distinct = can.distinct.1 } in
    let was = one_by_one list seats protections offered before is_list room can_rest after.1 in
    let ranked = ranked_in_order list offered can_rest in
    let new : IsNewTo list those person = record {
      traits = can.traits.0;
      placed = can.placed.0;
      distinct = all_in_merit (λ other. person.id ≢ other.id) list offered can.distinct.0;
      numbers = all_in_merit (λ other. number_in list person ≢ number_in list other) list offered can.numbers.0;
    } in
    let sub = was.may.people in
    let step : Step = record { list = list; seats = seats; protections = protections; people = those } in
    let small : Step = record { list = list; seats = seats; protections = protections; people = with_person list person before } in
    let more : Step = record { list = list; seats = seats; protections = protections; people = with_person list person those } in
    let step_ok : IsStep step = record { list = is_list; people = ranked; protections = room } in
    let small_ok : IsStep small =
    record { list = is_list; people = ranked_with list person before (ranked_sublist list before those ranked sub) (new_to_part list before those person sub new); protections = room } in
    let more_ok : IsStep more = record { list = is_list; people = ranked_with list person those ranked new; protections = room } in
    let choice = choice_exists more more_ok in
    let first : HasMorePeople step more = record {
      is_step = step_ok;
      more_is_step = more_ok;
      list = refl;
      seats = refl;
      protections = refl;
      people = among_sublist those (with_person list person those) (sublist_with list person those);
    } in
    let second : HasMorePeople small more = record {
      is_step = small_ok;
      more_is_step = more_ok;
      list = refl;
      seats = refl;
      protections = refl;
      people = are_among (with_person list person before) (with_person list person those) (λ one there.
          any_with (λ other. one ≡ other) list person those (elim (with_any (λ other. one ≡ other) list person before there) [
            | inl his ↦ inl his
            | inr theirs ↦ inr (any_among (λ other. one ≡ other) before those (among_sublist before those sub) theirs)
          ]));
    } in
    let same : held ≡ choice.0 = refused_before step small more before held choice.0 first second was after.2 choice.1 (λ one in_more out.
    elim (with_any (λ other. one ≡ other) list person those in_more) [
      | inl his ↦ absurd (out (any_with (λ other. one ≡ other) list person before (inl his)))
      | inr theirs ↦ (theirs, (λ there. out (any_with (λ other. one ≡ other) list person before (inr there))))
    ]) in
    subst (IsStepChoice more) (sym same) choice.1
