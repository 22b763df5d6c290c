-- Where no single exchange improves those listed, they are the choice.
use Rattle.std.proofs.Common.{◌≡◌, ◌≢◌, ◌<◌, ◌⊎◌, ℕ, suc, true, false, cond, List, [], ◌∷◌, length, refl, sym, ap, ◌∙◌, subst, inl, inr, arith}
use Rattle.std.proofs.lemmas.Bool.{cases_lt}
use Rattle.std.specs.List.{AllByRecursion}
use Rattle.office_base.specs.Lists.{IsAmong, IsSublist}
use Rattle.office_base.specs.Merit.{IsNewTo, is_better, with_person}
use Rattle.office_base.specs.Person.{IsBetter, number_in}
use Rattle.office_base.specs.Placement.{IsHonoured}
use Rattle.office_base.specs.StepChoice.{AreRanked, IsStep, IsStepChoice}
use Rattle.office_base.specs.declared.person.CandId.{CandId}
use Rattle.office_base.specs.declared.person.ListId.{ListId}
use Rattle.office_base.specs.declared.person.Person.{Person}
use Rattle.office_base.specs.declared.step.Step.{Step}
use Rattle.placements.specs.Ranks.{AreAmong, AreDistinct, without}
use Rattle.placements.proofs.Greatest.{honoured-exists, honoured-one}
use Rattle.placements.proofs.Merit.{not_ahead, length_with}
use Rattle.placements.proofs.Ranks.{among_again, among_itself, among_sublist, any_all, are_among, finds_person, monotone, one_person, pairwise_sublist, ranked_sublist, same_people, widen}
use Rattle.placements.proofs.Without.{among_without, without_among, without_apart, without_first, without_later}
use Rattle.merit_choice.specs.InMerit.{PartCanBeRanked, RankedInMerit, RankedPart, WithPersonRanks}
use Rattle.merit_choice.specs.Laws.{ChoiceExists, ChoiceSize, OneTooMany, RefusedStaysRefused, SeatsForAll}
use Rattle.merit_choice.proofs.InMerit.{whole_sublist}
use Rattle.axiom_laws.specs.Exchanges.{Overtakes}
use Rattle.axiom_laws.specs.Laws.{SingleExchanges}

-- ---- lists

-- one of all the people is listed, or is not
pub listed_or_not : (all listed : List Person) (one : Person) → AreDistinct all → IsSublist listed all → IsAmong one all → IsAmong one listed ⊎ (IsAmong one listed → ⊥)
listed_or_not all listed one distinct sub there = elim (finds_person one listed) [
  | inl found ↦
      let other = any_all (λ (o : Person). one.id ≡ o.id) (λ (o : Person). IsAmong o listed) listed found (among_itself listed) in
      let same : one ≡ other.0 = one_person all distinct one other.0 there (widen other.0 listed all (among_sublist listed all sub) other.2) other.1 in
      inl (subst (λ (p : Person). IsAmong p listed) (sym same) other.2)
  | inr none ↦ inr (λ here. let other = any_all (λ (o : Person). one ≡ o) (λ (o : Person). one.id ≢ o.id) listed here none in other.2 (ap (λ (p : Person). p.id) other.1))
]

-- ---- a person more

-- without the person all are as before
without_with : (list : ListId) (person : Person) (people : List Person) → AllByRecursion (λ other. person.id ≢ other.id) people → without person.id (with_person list person people) ≡ people
without_with list person [] apart = without_first person.id person [] refl
without_with list person (other ∷ people) apart =
    elim (is_better list person other) as (λ b. without person.id (cond b (person ∷ other ∷ people) (other ∷ with_person list person people)) ≡ other ∷ people) [
      | true ↦ without_first person.id person (other ∷ people) refl
      | false ↦
          without_later person.id other (with_person list person people) (λ e. apart.0 (sym e))
          ∙ ap (λ (those : List Person). other ∷ those) (without_with list person people apart.1)
    ]

-- a person who is left without one has another number
left_apart : (cand : CandId) (people : List Person) (one : Person) → AreDistinct people → IsAmong one (without cand people) → one.id ≢ cand
left_apart cand people one distinct there e =
    let found = any_all (λ (o : Person). one ≡ o) (λ (o : Person). cand ≢ o.id) (without cand people) there (without_apart cand people distinct) in
    found.2 (sym e ∙ ap (λ (p : Person). p.id) found.1)

-- the listed with a person in another's place are the listed with the person, without that one
exchanged_there : (person : Person) (cand : CandId) (listed more : List Person) → AreDistinct listed → AreAmong (person ∷ listed) more → person.id ≢ cand
    → AreAmong (person ∷ without cand listed) (without cand more)
exchanged_there person cand listed more distinct among apart = are_among (person ∷ without cand listed) (without cand more) (λ one there. elim there [
  | inl here ↦ subst (λ (p : Person). IsAmong p (without cand more)) (sym here) (among_without cand person more among.0 apart)
  | inr later ↦
      among_without cand one more (widen one listed more among.1 (widen one (without cand listed) listed (without_among cand listed) later)) (left_apart cand listed one distinct later)
])

exchanged_back : (person : Person) (cand : CandId) (listed more : List Person) → AreDistinct more → AreAmong more (person ∷ listed)
    → AreAmong (without cand more) (person ∷ without cand listed)
exchanged_back person cand listed more distinct among = are_among (without cand more) (person ∷ without cand listed) (λ one there.
    elim (widen one more (person ∷ listed) among (widen one (without cand more) more (without_among cand more) there)) [
      | inl here ↦ inl here
      | inr later ↦ inr (among_without cand one listed later (left_apart cand more one distinct there))
    ])

module _ (one_too_many : OneTooMany) (refused_stays_refused : RefusedStaysRefused) (choice_exists : ChoiceExists) (choice_size : ChoiceSize) (seats_for_all : SeatsForAll)
    (with_person_ranks : WithPersonRanks) (ranked_part : RankedPart) (ranked_in_merit : RankedInMerit) (part_can_be_ranked : PartCanBeRanked) where
  -- one of the people who is not listed is new to those who are
  new_to : (list : ListId) (all listed : List Person) (one : Person) → AreRanked list all → IsSublist listed all → IsAmong one all → (IsAmong one listed → ⊥) → IsNewTo list listed one
  new_to list all listed one ranked sub there gone =
      let apart : AllByRecursion (λ other. one.id ≢ other.id) listed = elim (finds_person one listed) [
        | inl found ↦ absurd (
            let other = any_all (λ (o : Person). one.id ≡ o.id) (λ (o : Person). IsAmong o listed) listed found (among_itself listed) in
            let same : one ≡ other.0 = one_person all ranked.distinct one other.0 there (widen other.0 listed all (among_sublist listed all sub) other.2) other.1 in
            gone (subst (λ (p : Person). IsAmong p listed) (sym same) other.2))
        | inr none ↦ none
      ] in
      let can = part_can_be_ranked list (one ∷ listed) all (apart, pairwise_sublist (λ (a : Person) (b : Person). a.id ≢ b.id) listed all sub ranked.distinct) (ranked_in_merit list all ranked).0
      (there, among_sublist listed all sub) in
      record { traits = can.traits.0; placed = can.placed.0; distinct = apart; numbers = can.numbers.0 }

  -- a person who is not listed is not chosen: among the listed and this one alone the choice is the listed
  not_chosen : (step : Step) (listed chosen : List Person) (n : ℕ) (one : Person) → IsStep step → IsSublist listed step.people → length listed ≡ step.seats
      → IsHonoured step.protections listed n → IsHonoured step.protections step.people n
      → ((person worse : Person) → Overtakes step.list step.protections step.people listed person worse → ⊥)
      → IsStepChoice step chosen → IsAmong one step.people → (IsAmong one listed → ⊥) → IsAmong one chosen → ⊥
  not_chosen step listed chosen n one ok sub full honoured honoured_all none choice there gone =
      let more : List Person = with_person step.list one listed in
      let small : Step = record { list = step.list; seats = step.seats; protections = step.protections; people = more } in
      let ranked = ranked_sublist step.list listed step.people ok.people sub in
      let new = new_to step.list step.people listed one ok.people sub there gone in
      let ranks = with_person_ranks step.list listed one ranked new in
      let small_ok : IsStep small = record { list = ok.list; people = ranks.0; protections = ok.protections } in
      let part : AreAmong more step.people = among_again more (one ∷ listed) step.people ranks.2 (there, among_sublist listed step.people sub) in
      let k = honoured-exists step.protections more ranks.0.distinct in
      let low = monotone step.protections listed more n k.0 (among_sublist listed more ranks.3) honoured k.1 in
      let high = monotone step.protections more step.people k.0 n part k.1 honoured_all in
      let same : k.0 ≡ n = omega (arith, low, high) in
      let all : IsHonoured step.protections more n = subst (IsHonoured step.protections more) same k.1 in
      let back : without one.id more ≡ listed = without_with step.list one listed new.distinct in
      let own : IsHonoured step.protections (without one.id more) n = subst (λ (those : List Person). IsHonoured step.protections those n) (sym back) honoured in
      let count : length more ≡ suc step.seats = length_with step.list one listed ∙ ap suc full in
      let here : IsAmong one more = ranks.1.0 in
      let worst = λ (other : Person) (m : ℕ) (in_more : IsAmong other more) (better : IsBetter step.list one other) (h : IsHonoured step.protections (without other.id more) m).
      worst_of step listed n one other m sub honoured none ranked.distinct ranks.0.distinct ranks.1 ranks.2 new.distinct there gone in_more better h in
      let left : IsStepChoice small listed = subst (IsStepChoice small) back (one_too_many small one n small_ok count here all own worst) in
      refused_stays_refused small step listed chosen one (record { is_step = small_ok; more_is_step = ok; list = refl; seats = refl; protections = refl; people = part }) left choice here gone
    where
      worst_of : (step : Step) (listed : List Person) (n : ℕ) (one other : Person) (m : ℕ) → IsSublist listed step.people → IsHonoured step.protections listed n
          → ((person worse : Person) → Overtakes step.list step.protections step.people listed person worse → ⊥) → AreDistinct listed → AreDistinct (with_person step.list one listed)
          → AreAmong (one ∷ listed) (with_person step.list one listed) → AreAmong (with_person step.list one listed) (one ∷ listed) → AllByRecursion (λ o. one.id ≢ o.id) listed
          → IsAmong one step.people → (IsAmong one listed → ⊥)
          → IsAmong other (with_person step.list one listed) → IsBetter step.list one other → IsHonoured step.protections (without other.id (with_person step.list one listed)) m → m < n
      worst_of step listed n one other m sub honoured none distinct distinct_more into back apart there gone in_more better h = elim (cases_lt m n) [
        | inl less ↦ less
        | inr far ↦ absurd (elim (widen other (with_person step.list one listed) (one ∷ listed) back in_more) [
          | inl here ↦ not_ahead (number_in step.list one) (subst (IsBetter step.list one) here better)
          | inr later ↦
              let found = any_all (λ (o : Person). other ≡ o) (λ (o : Person). one.id ≢ o.id) listed later apart in
              let others : one.id ≢ other.id = λ e. found.2 (e ∙ ap (λ (p : Person). p.id) found.1) in
              let as_many : IsHonoured step.protections (one ∷ without other.id listed) m =
              same_people step.protections (without other.id (with_person step.list one listed)) (one ∷ without other.id listed) m
              (exchanged_back one other.id listed (with_person step.list one listed) distinct_more back)
              (exchanged_there one other.id listed (with_person step.list one listed) distinct into others) h in
              none one other (record {
                stands = there;
                unlisted = gone;
                there = later;
                better = better;
                as_much = λ a b ha hb.
                    let e = honoured-one step.protections listed a n ha honoured in
                    let f = honoured-one step.protections (one ∷ without other.id listed) b m hb as_many in
                    omega (arith, far, e, f);
              })
        ])
      ]

  pub single_exchanges : SingleExchanges
  single_exchanges step listed n ok sub count honoured honoured_all none = elim (cases_lt step.seats (length step.people)) [
    | inl less ↦
        let full : length listed ≡ step.seats = omega (arith, count, less) in
        let choice = choice_exists step ok in
        let size = choice_size step choice.0 ok choice.1 in
        let inside : AreAmong choice.0 listed = are_among choice.0 listed (λ one chosen.
        let there = widen one choice.0 step.people (among_sublist choice.0 step.people choice.1.may.people) chosen in
        elim (listed_or_not step.people listed one ok.people.distinct sub there) [
          | inl here ↦ here
          | inr gone ↦ absurd (not_chosen step listed choice.0 n one ok sub full honoured honoured_all none choice.1 there gone chosen)
        ]) in
        let part = ranked_part step.list choice.0 listed (ranked_sublist step.list choice.0 step.people ok.people choice.1.may.people) (ranked_sublist step.list listed step.people ok.people sub) inside in
        let same : choice.0 ≡ listed = whole_sublist choice.0 listed part (omega (arith, count, size)) in
        subst (IsStepChoice step) same choice.1
    | inr room ↦
        let same : listed ≡ step.people = whole_sublist listed step.people sub (omega (arith, count, room)) in
        subst (IsStepChoice step) (sym same) (seats_for_all step ok room)
  ]
