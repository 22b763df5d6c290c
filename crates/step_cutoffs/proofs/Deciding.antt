-- A person is admitted exactly if within the cutoff: with one person too many, the worst is left out without whom as many protections are honoured.
use Rattle.std.proofs.Common.{◌≡◌, ◌≢◌, ◌⊎◌, ◌∙◌, inl, inr, ℕ, suc, ◌<◌, List, ◌∷◌, Some, true, length, arith, refl, sym, ap, subst}
use Rattle.std.specs.Prelude.{◌↔◌, IsSome}
use Rattle.std.specs.List.{AllByRecursion}
use Rattle.std.proofs.lemmas.Bool.{cases_eq}
use Rattle.office_base.specs.Lists.{IsAmong}
use Rattle.office_base.specs.Merit.{IsNewTo, with_person}
use Rattle.office_base.specs.Person.{IsAhead, IsBetter, IsTraitSet, number_in}
use Rattle.office_base.specs.Placement.{IsHonoured}
use Rattle.office_base.specs.StepChoice.{AreRanked, IsStep, IsStepChoice}
use Rattle.office_base.specs.declared.person.ListId.{ListId}
use Rattle.office_base.specs.declared.person.Person.{Person}
use Rattle.office_base.specs.declared.step.Step.{Step}
use Rattle.office_base.proofs.Lists.{all_among}
use Rattle.placements.specs.Ranks.{AreAmong, without}
use Rattle.placements.proofs.Greatest.{honoured-exists, honoured-one}
use Rattle.placements.proofs.Merit.{ahead_again, not_ahead}
use Rattle.placements.proofs.Ranks.{among_again, among_itself, among_sublist, are_among, monotone, one_person, ranked_sublist, same_people, widen}
use Rattle.placements.proofs.Without.{all_without, among_without, distinct_without, is_numbered, without_among, without_apart, without_sublist}
use Rattle.merit_choice.specs.Laws.{HasMorePeople}
use Rattle.merit_choice.specs.Marks.{IsRaise}
use Rattle.merit_choice.specs.State.{IsStepKept, StepKept, step_with}
use Rattle.merit_choice.proofs.InMerit.{among_with, length-with_person, part_can_be_ranked, ranked_can, ranked_same, ranked_with, with_among}
use Rattle.merit_choice.proofs.Needed.{decides, nobody_of, other_number}
use Rattle.merit_choice.proofs.OneByOne.{better_or_worse, one_too_many, refused_before, seats_for_all}
use Rattle.step_cutoffs.specs.Cutoff.{CanTakePlaceOf, IsCutoff, IsCutoffFor, IsFullFor, IsWithin}
use Rattle.step_cutoffs.specs.Laws.{AdmittedAreWithin, AreHeldBy, CutoffsDecide, CutoffsDecideOffers, IsJoinedBy, RefusedAreOutside, kept_of}
use Rattle.step_cutoffs.specs.StepLaws.{AreLawful}
use Rattle.step_cutoffs.specs.declared.cutoff.Cutoff.{Cutoff}
use Rattle.step_cutoffs.specs.declared.cutoff.Cutoff.TheVariants.{Nobody, UpTo, Anybody}
use Rattle.step_cutoffs.proofs.Alike.{ahead_within, honours_no_fewer, within_ahead, within_last}
use Rattle.step_cutoffs.proofs.Newcomers.{newcomer}

-- ---- those held, with a newcomer

module _ (kept : StepKept) (person : Person) (ok : IsStepKept kept) (new : IsNewTo kept.list kept.held person) where
  abbrev all : List Person
  all = with_person kept.list person kept.held

  all_ranked : AreRanked kept.list all
  all_ranked = ranked_with kept.list person kept.held ok.ranked new

  pub is_step : IsStep (step_with kept person)
  is_step = record { list = ok.list; people = all_ranked; protections = ok.protections }

  there : IsAmong person all
  there = (among_with kept.list person kept.held).0

  held_there : AreAmong kept.held all
  held_there = (among_with kept.list person kept.held).1

  person_or_held : (other : Person) → IsAmong other all → (other ≡ person) ⊎ IsAmong other kept.held
  person_or_held other here = widen other all (person ∷ kept.held) (with_among kept.list person kept.held) here

  -- as many protections are honoured with the newcomer in front
  honoured_all : (n : ℕ) → IsHonoured kept.protections (person ∷ kept.held) n → IsHonoured kept.protections all n
  honoured_all n h = same_people kept.protections (person ∷ kept.held) all n (among_with kept.list person kept.held) (with_among kept.list person kept.held) h

  -- without the newcomer those held are left
  left_held : without person.id all ≡ kept.held
  left_held = ranked_same kept.list (without person.id all) kept.held (ranked_sublist kept.list (without person.id all) all all_ranked (without_sublist person.id all)) ok.ranked
      (are_among (without person.id all) kept.held (λ other here. elim (person_or_held other (widen other (without person.id all) all (without_among person.id all) here)) [
        | inl same ↦ absurd (other_number other person.id (without person.id all) (without_apart person.id all all_ranked.distinct) here (ap (λ (p : Person). p.id) same))
        | inr held ↦ held
      ]))
      (are_among kept.held (without person.id all) (λ other here.
      among_without person.id other all (widen other kept.held all held_there here) (other_number other person.id kept.held new.distinct here)))

  -- without one of those held the rest and the newcomer are left
  rest_among : (out : Person) → AreAmong (without out.id all) (person ∷ without out.id kept.held)
  rest_among out = are_among (without out.id all) (person ∷ without out.id kept.held) (λ other here.
      elim (person_or_held other (widen other (without out.id all) all (without_among out.id all) here)) [
        | inl same ↦ inl same
        | inr held ↦ inr (among_without out.id other kept.held held (other_number other out.id (without out.id all) (without_apart out.id all all_ranked.distinct) here))
      ])

  among_rest : (out : Person) → IsAmong out kept.held → AreAmong (person ∷ without out.id kept.held) (without out.id all)
  among_rest out held = (
    among_without out.id person all there (λ same. other_number out person.id kept.held new.distinct held (sym same)),
    are_among (without out.id kept.held) (without out.id all) (λ other here.
        among_without out.id other all (widen other kept.held all held_there (widen other (without out.id kept.held) kept.held (without_among out.id kept.held) here))
        (other_number other out.id (without out.id kept.held) (without_apart out.id kept.held ok.ranked.distinct) here)),
  )

  -- ---- the choice from all

  module _ (laws : AreLawful) (chosen : List Person) (choice : IsStepChoice (step_with kept person) chosen) where
    chosen_there : AreAmong chosen all
    chosen_there = among_sublist chosen all choice.may.people

    -- the chosen are some of those held, if the newcomer is not one of them
    chosen_held : (IsAmong person chosen → ⊥) → AreAmong chosen kept.held
    chosen_held gone = are_among chosen kept.held (λ other here. elim (person_or_held other (widen other chosen all chosen_there here)) [
      | inl same ↦ absurd (gone (subst (λ p. IsAmong p chosen) same here))
      | inr held ↦ held
    ])

    -- so they are those held
    all_held : (IsAmong person chosen → ⊥) → kept.held ≡ chosen
    all_held gone =
        let before : Step = record { list = kept.list; seats = kept.seats; protections = kept.protections; people = kept.held } in
        let before_ok : IsStep before = record { list = ok.list; people = ok.ranked; protections = ok.protections } in
        laws.leaving_out_refused before (step_with kept person) kept.held chosen
        (record { is_step = before_ok; more_is_step = is_step; list = refl; seats = refl; protections = refl; people = held_there })
        (seats_for_all before before_ok ok.few) choice
        (λ other here out in_chosen. out (widen other chosen kept.held (chosen_held gone) in_chosen))

    decided : IsAmong person chosen ⊎ (IsAmong person chosen → ⊥)
    decided = elim (decides person chosen all all_ranked.distinct chosen_there there) [
      | inl here ↦ inl here
      | inr apart ↦ inr (nobody_of person chosen apart)
    ]

    by_room : length kept.held < kept.seats → IsAmong person chosen
    by_room less =
        let size = length-with_person kept.list person kept.held in
        let same = laws.one_choice (step_with kept person) all chosen is_step (seats_for_all (step_with kept person) is_step (omega (arith, size, less))) choice in
        subst (IsAmong person) same there

    by_raise : IsRaise kept.protections kept.held person true → IsAmong person chosen
    by_raise raise = elim decided [
      | inl here ↦ here
      | inr gone ↦ absurd (
          let n = honoured-exists kept.protections kept.held ok.ranked.distinct in
          let mine : IsHonoured kept.protections chosen n.0 = subst (λ those. IsHonoured kept.protections those n.0) (all_held gone) n.1 in
          let same = laws.honours_as_all (step_with kept person) chosen (suc n.0) n.0 is_step choice (honoured_all (suc n.0) (raise n.0 n.1)) mine in
          omega (arith, same))
    ]

    -- the newcomer is better than one whom they can replace
    by_place : (worst : Person) → IsAmong worst kept.held → CanTakePlaceOf kept person worst → IsBetter kept.list person worst → IsAmong person chosen
    by_place worst held can better = elim decided [
      | inl here ↦ here
      | inr gone ↦ absurd (
          let n = honoured-exists kept.protections kept.held ok.ranked.distinct in
          let before : IsStepChoice (step_with kept person) kept.held = subst (IsStepChoice (step_with kept person)) (sym (all_held gone)) choice in
          let out : IsAmong person kept.held → ⊥ = nobody_of person kept.held new.distinct in
          let less = laws.no_justified_envy (step_with kept person) kept.held person worst n.0 n.0 is_step before there out held better (can n.0 n.1) n.1 in
          omega (arith, less))
    ]

    -- without one whom the newcomer cannot replace fewer protections are honoured
    fewer : (n m : ℕ) (other : Person) → IsFullFor kept person → IsHonoured kept.protections kept.held n → IsAmong other kept.held → (CanTakePlaceOf kept person other → ⊥)
        → IsHonoured kept.protections (without other.id all) m → m < n
    fewer n m other full mine held cannot his =
        let low = monotone kept.protections (without other.id all) all m n (without_among other.id all) his (honoured_all n (full.no_more n mine)) in
        elim (cases_eq m n) [
          | inl same ↦ absurd (cannot (λ k its.
              let e : m ≡ k = same ∙ honoured-one kept.protections kept.held n k mine its in
              subst (IsHonoured kept.protections (person ∷ without other.id kept.held)) e
              (same_people kept.protections (without other.id all) (person ∷ without other.id kept.held) m (rest_among other) (among_rest other held) his)))
          | inr apart ↦ omega (arith, low, apart)
        ]

    -- the newcomer is left out, if they can replace nobody who is worse
    left_out : IsFullFor kept person → ((other : Person) → IsAmong other kept.held → IsBetter kept.list person other → CanTakePlaceOf kept person other → ⊥) → IsAmong person chosen → ⊥
    left_out full none here =
        let n = honoured-exists kept.protections kept.held ok.ranked.distinct in
        let size = length-with_person kept.list person kept.held in
        let count : length all ≡ suc kept.seats = omega (arith, size, full.full) in
        let rest : IsHonoured kept.protections (without person.id all) n.0 = subst (λ those. IsHonoured kept.protections those n.0) (sym left_held) n.1 in
        let out = one_too_many (step_with kept person) person n.0 is_step count there (honoured_all n.0 (full.no_more n.0 n.1)) rest
        (λ other m among better his. elim (person_or_held other among) [
          | inl same ↦ absurd (not_ahead (number_in kept.list person) (subst (IsBetter kept.list person) same better))
          | inr held ↦ fewer n.0 m other full n.1 held (none other held better) his
        ]) in
        let same = laws.one_choice (step_with kept person) chosen (without person.id all) is_step choice out in
        nobody_of person (without person.id all) (without_apart person.id all all_ranked.distinct) (subst (IsAmong person) same here)

    -- of the newcomer and the worst whom they can replace, one is better
    by_worst : (worst : Person) → IsFullFor kept person → IsAmong worst kept.held → ((other : Person) → IsAmong other kept.held → CanTakePlaceOf kept person other → IsBetter kept.list worst other → ⊥)
        → IsAmong person chosen → IsBetter kept.list person worst
    by_worst worst full held none here =
        elim (better_or_worse kept.list all person worst all_ranked.in_order there (widen worst kept.held all held_there held)
        (λ same. other_number worst person.id kept.held new.distinct held (sym same))) [
          | inl better ↦ better
          | inr worse ↦ absurd (left_out full (λ other in_held ahead can.
              none other in_held can (ahead_again (number_in kept.list worst) (number_in kept.list person) (number_in kept.list other) worse ahead)) here)
        ]

    pub decide : (cutoff : Cutoff) → IsCutoffFor kept person cutoff → IsAmong person chosen ↔ IsWithin cutoff (number_in kept.list person)
    decide Nobody cut = ((λ here. absurd (left_out cut.0 (λ other held better can. cut.1 other held can) here)), (λ within. absurd within))
    decide (UpTo last) cut = (
      (λ here. within_ahead (number_in kept.list person) last (subst (λ k. IsAhead (number_in kept.list person) k) cut.4 (by_worst cut.1 cut.0 cut.2 cut.5 here))),
      (λ within.
          let apart : number_in kept.list person ≢ Some last = λ same.
          all_among (λ other. number_in kept.list person ≢ number_in kept.list other) kept.held cut.1 new.numbers cut.2 (same ∙ sym cut.4) in
          by_place cut.1 cut.2 cut.3 (subst (λ k. IsAhead (number_in kept.list person) k) (sym cut.4) (ahead_within (number_in kept.list person) last apart within))),
    )
    decide Anybody cut = ((λ here. new.placed), (λ placed. elim cut [ inl less ↦ by_room less | inr raise ↦ by_raise raise ]))

-- ---- those held

module _ (kept : StepKept) (ok : IsStepKept kept) (person : Person) (here : IsAmong person kept.held) where
  -- somebody else with the same traits can take the place
  can_replace : (other : Person) → IsNewTo kept.list kept.held other → other.traits ≡ person.traits → CanTakePlaceOf kept other person
  can_replace other new same n mine =
      let rest = without person.id kept.held in
      let rest_distinct = distinct_without person.id kept.held ok.ranked.distinct in
      let far = without_apart person.id kept.held ok.ranked.distinct in
      let far' = all_without (λ (p : Person). other.id ≢ p.id) person.id kept.held new.distinct in
      let with_them : AreAmong kept.held (person ∷ rest) = are_among kept.held (person ∷ rest) (λ one there. elim (is_numbered person.id one) [
        | inl numbered ↦ inl (one_person kept.held ok.ranked.distinct one person there here numbered)
        | inr apart ↦ inr (among_without person.id one kept.held there apart)
      ]) in
      let mine' = same_people kept.protections kept.held (person ∷ rest) n with_them (here, without_among person.id kept.held) mine in
      let its = honoured-exists kept.protections (other ∷ rest) (far', rest_distinct) in
      let low = honours_no_fewer kept.protections person other rest n its.0 (subst (λ those. AreHeldBy those other.traits) same (λ t has. has)) (far, rest_distinct) (far', rest_distinct) mine' its.1 in
      let high = honours_no_fewer kept.protections other person rest its.0 n (subst (AreHeldBy other.traits) same (λ t has. has)) (far', rest_distinct) (far, rest_distinct) its.1 mine' in
      subst (IsHonoured kept.protections (other ∷ rest)) (omega (arith, low, high)) its.1

  within_for : (other : Person) (cutoff : Cutoff) → IsNewTo kept.list kept.held other → other.traits ≡ person.traits → IsCutoffFor kept other cutoff
      → IsWithin cutoff (number_in kept.list person)
  within_for other Nobody new same cut = absurd (cut.1 person here (can_replace other new same))
  within_for other (UpTo last) new same cut = elim (is_numbered person.id cut.1) [
    | inl numbered ↦ within_last (number_in kept.list person) last (ap (number_in kept.list) (one_person kept.held ok.ranked.distinct person cut.1 here cut.2 (sym numbered)) ∙ cut.4)
    | inr apart ↦ elim (better_or_worse kept.list kept.held person cut.1 ok.ranked.in_order here cut.2 (λ e. apart (sym e))) [
      | inl better ↦ within_ahead (number_in kept.list person) last (subst (IsAhead (number_in kept.list person)) cut.4 better)
      | inr worse ↦ absurd (cut.5 person here (can_replace other new same) worse)
    ]
  ]
  within_for other Anybody new same cut = all_among (λ one. IsSome (number_in kept.list one)) kept.held person ok.ranked.placed here

pub admitted_are_within : AdmittedAreWithin
admitted_are_within kept person cutoff ok here cut =
    let small = all_among (λ (one : Person). IsTraitSet one.traits) kept.held person ok.ranked.traits here in
    let one = newcomer kept.list kept.held person.traits ok.list small in
    within_for kept ok person here one.0 cutoff one.1 one.2 (cut one.0 one.1 one.2)

-- ---- the laws

pub cutoffs_decide_offers : AreLawful → CutoffsDecideOffers
cutoffs_decide_offers laws kept person chosen cutoff ok new choice cut = decide kept person ok new laws chosen choice cutoff (cut person new refl)

module _ (laws : AreLawful) (step more : Step) (chosen others : List Person) (person : Person) (cutoff : Cutoff) (joined : IsJoinedBy step more person) (first : IsStepChoice step chosen)
    (second : IsStepChoice more others) (cut : IsCutoff (kept_of step chosen) person.traits cutoff) where
  abbrev both : HasMorePeople step more
  both = joined.both

  abbrev kept : StepKept
  kept = kept_of step chosen

  chosen_step : AreAmong chosen step.people
  chosen_step = among_sublist chosen step.people first.may.people

  chosen_more : AreAmong chosen more.people
  chosen_more = among_again chosen step.people more.people chosen_step both.people

  ok : IsStepKept kept
  ok = record { list = both.is_step.list; ranked = ranked_sublist step.list chosen step.people both.is_step.people first.may.people; few = first.may.seats; protections = both.is_step.protections }

  -- who was admitted competes with the same people, and is admitted again
  was_admitted : IsAmong person chosen → IsAmong person others ↔ IsWithin cutoff (number_in step.list person)
  was_admitted here =
      let same : chosen ≡ others = laws.leaving_out_refused step more chosen others both first second (λ other in_more out in_others. elim (joined.nobody_else other in_more) [
        | inl there ↦ out there
        | inr is_person ↦ out (subst (λ p. IsAmong p step.people) (sym is_person) (widen person chosen step.people chosen_step here))
      ]) in
      ((λ there. admitted_are_within kept person cutoff ok here cut), (λ within. subst (IsAmong person) same here))

  -- a newcomer to those admitted is decided by the cutoff
  was_refused : AllByRecursion (λ (other : Person). person.id ≢ other.id) chosen → IsAmong person others ↔ IsWithin cutoff (number_in step.list person)
  was_refused apart =
      let ranked : AreRanked step.list more.people = subst (λ (l : ListId). AreRanked l more.people) both.list both.more_is_step.people in
      let can = part_can_be_ranked step.list (person ∷ chosen) more.people (apart, ok.ranked.distinct) (ranked_can step.list more.people ranked) (joined.there, chosen_more) in
      let new : IsNewTo step.list chosen person = record { traits = can.traits.0; placed = can.placed.0; distinct = apart; numbers = can.numbers.0 } in
      let small = step_with kept person in
      let small_ok = is_step kept person ok new in
      let choice = laws.choice_exists small small_ok in
      let fewer : HasMorePeople small more = record {
        is_step = small_ok;
        more_is_step = both.more_is_step;
        list = both.list;
        seats = both.seats;
        protections = both.protections;
        people = among_again small.people (person ∷ chosen) more.people (with_among step.list person chosen) (joined.there, chosen_more);
      } in
      let in_small = among_with step.list person chosen in
      let same : choice.0 ≡ others = refused_before step small more chosen choice.0 others both fewer first choice.1 second (λ other in_more out. (
        elim (joined.nobody_else other in_more) [
          | inl there ↦ there
          | inr is_person ↦ absurd (out (subst (λ p. IsAmong p small.people) (sym is_person) in_small.0))
        ],
        (λ here. out (widen other chosen small.people in_small.1 here)),
      )) in
      subst (λ those. IsAmong person those ↔ IsWithin cutoff (number_in step.list person)) same (decide kept person ok new laws choice.0 choice.1 cutoff (cut person new refl))

  pub joined_decided : IsAmong person others ↔ IsWithin cutoff (number_in step.list person)
  joined_decided =
      let ranked : AreRanked step.list more.people = subst (λ (l : ListId). AreRanked l more.people) both.list both.more_is_step.people in
      elim (decides person chosen more.people ranked.distinct chosen_more joined.there) [ inl here ↦ was_admitted here | inr apart ↦ was_refused apart ]

pub cutoffs_decide : AreLawful → CutoffsDecide
cutoffs_decide laws step more chosen others person cutoff joined first second cut = joined_decided laws step more chosen others person cutoff joined first second cut

pub refused_are_outside : AreLawful → RefusedAreOutside
refused_are_outside laws step chosen person cutoff ok choice there gone cut within =
    let same : HasMorePeople step step = record { is_step = ok; more_is_step = ok; list = refl; seats = refl; protections = refl; people = among_itself step.people } in
    gone ((cutoffs_decide laws step step chosen chosen person cutoff (record { both = same; there = there; nobody_else = λ other here. inl here }) choice choice cut).1 within)
