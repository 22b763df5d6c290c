-- A person comes to the steps in their order: what each of them then holds is the choice from its people with the
-- person who came to it.
use Rattle.std.proofs.Common.{◌≡◌, ◌≢◌, ◌⊎◌, ℕ, Bool, true, false, cond, List, [], ◌∷◌, Option, Some, None, take, refl, sym, ap, ◌∙◌, subst, inl, inr}
use Rattle.std.proofs.lemmas.Bool.{cases_Bool, cond-true, cond-false}
use Rattle.std.specs.List.{AllByRecursion, filter}
use Rattle.std.specs.Prelude.{IsSome, MatchOption, slice_get}
use Rattle.std.specs.Option.{option_or}
use Rattle.office_base.specs.CategorySteps.{category_steps}
use Rattle.office_base.specs.Lists.{IsAmong, IsSublist, Pairwise}
use Rattle.office_base.specs.Merit.{IsNewTo, in_merit, with_person}
use Rattle.office_base.specs.Person.{IsList, IsTraitSet, is_common, number_in}
use Rattle.office_base.specs.StepChoice.{AreRanked, IsStep, IsStepChoice}
use Rattle.office_base.specs.declared.category_steps.CategoryStep.{CategoryStep}
use Rattle.office_base.specs.declared.person.Category.{Category}
use Rattle.office_base.specs.declared.person.ListId.{ListId}
use Rattle.office_base.specs.declared.person.Person.{Person}
use Rattle.office_base.specs.declared.step.StepKind.{StepKind}
use Rattle.office_base.specs.declared.step.StepKind.TheVariants.{Open, Dereserved}
use Rattle.placements.proofs.Sublists.{IsSublist-take, sublist_again}
use Rattle.placements.specs.Ranks.{AreAmong, AreDistinct}
use Rattle.placements.specs.Ranks as words
use Rattle.placements.proofs.Ranks.{among_again, among_itself, among_sublist, any_all, ranked_sublist, are_among, widen}
use Rattle.placements.proofs.Without.{among_without as among_others, without_among as others_among, without_apart}
use Rattle.placements.proofs.Filters.{filter-sublist, among_filter, among_filter_from}
use Rattle.merit_choice.specs.State.{StepKept}
use Rattle.seat_matrix.specs.Seats.{AreProgrammeSeats, IsSeated, seats_of}
use Rattle.seat_matrix.specs.declared.seats.ProgrammeSeats.{ProgrammeSeats}
use Rattle.seat_matrix.specs.declared.seats.Seating.{Seating}
use Rattle.programme_lists.specs.Chosen.{AreApplicants, everybody}
use Rattle.programme_lists.specs.Programme.{Admissions, IsProgrammeChoice, is_of, left_by, left_over, people_of, step_with, unfilled, without}
use Rattle.open_then_category.specs.State.{AreOffered, HoldsAllBut, IsLastOffer, IsOffer, IsOffered, OffersKeepChoices, joining}
use Rattle.open_then_category.specs.StepLaws.{AreLawful}
use Rattle.open_then_category.proofs.Decide.{is_among_or_not}
use Rattle.open_then_category.proofs.Once.{from_everybody}
use Rattle.open_then_category.proofs.ProgrammeLaws.{is_left, last_sublist}
use Rattle.open_then_category.proofs.Rows.{AreThere, are_there, kind_or_last, made_choice, open_choice, rest_of, row_choice, steps_of, there_next}
use Rattle.programme_lists.proofs.Table.{of_row}
use Rattle.programme_lists.proofs.Walk.{ranked_without, same_category}
use Rattle.programme_lists.proofs.Taken.{among_without, among_without_from}

-- ---- a person who joins

pub joining_some : (test : Person → Bool) (coming : Option Person) (person : Person) → joining test coming ≡ Some person → (coming ≡ Some person) × (test person ≡ true)
joining_some test None person e = cc e
joining_some test (Some other) person e = by (test other) refl e
  where
    by : (b : Bool) → test other ≡ b → cond b (Some other) None ≡ Some person → (Some other ≡ Some person) × (test person ≡ true)
    by true holds h = let same : other ≡ person = cc h in (h, subst (λ (one : Person). test one ≡ true) same holds)
    by false fails h = cc h

some_joining : (test : Person → Bool) (coming : Option Person) (person : Person) → coming ≡ Some person → test person ≡ true → joining test coming ≡ Some person
some_joining test None person e holds = cc e
some_joining test (Some other) person e holds =
    let same : other ≡ person = cc e in
    cond-true (test other) (Some other) None (subst (λ (one : Person). test one ≡ true) (sym same) holds) ∙ e

none_joining : (test : Person → Bool) (coming : Option Person) → ((person : Person) → coming ≡ Some person → test person ≡ false) → joining test coming ≡ None
none_joining test None fails = refl
none_joining test (Some person) fails = cond-false (test person) (Some person) None (fails person refl)

-- ---- sets of people

-- nobody of distinct people without one of a number is that one
gone_apart : (leaver : Person) (people : List Person) → AreDistinct people → IsAmong leaver (words.without leaver.id people) → ⊥
gone_apart leaver people distinct here =
    let found = any_all (λ one. leaver ≡ one) (λ other. leaver.id ≢ other.id) (words.without leaver.id people) here (without_apart leaver.id people distinct) in
    found.2 (ap (λ (p : Person). p.id) found.1)

-- one of the people has another number than another of them, where keys differ in pairs
pub key_apart : {K : Type 0} (key : Person → K) (all : List Person) (a b : Person) → Pairwise (λ x y. key x ≢ key y) all → IsAmong a all → IsAmong b all → (a ≡ b → ⊥) → key a ≢ key b
key_apart key [] a b pairs in_a in_b differ = absurd in_a
key_apart key (person ∷ all) a b pairs in_a in_b differ = elim in_a [
  | inl a_here ↦ elim in_b [
    | inl b_here ↦ absurd (differ (a_here ∙ sym b_here))
    | inr b_later ↦
        let found = any_all (λ one. b ≡ one) (λ other. key person ≢ key other) all b_later pairs.0 in
        λ same. found.2 (ap key (sym a_here) ∙ same ∙ ap key found.1)
  ]
  | inr a_later ↦ elim in_b [
    | inl b_here ↦
        let found = any_all (λ one. a ≡ one) (λ other. key person ≢ key other) all a_later pairs.0 in
        λ same. found.2 (ap key (sym b_here) ∙ sym same ∙ ap key found.1)
    | inr b_later ↦ key_apart key all a b pairs.1 a_later b_later differ
  ]
]

-- where one of the people is none of some of them, all these have another key
keys_apart : {K : Type 0} (key : Person → K) (all : List Person) (person : Person) (some : List Person) → Pairwise (λ x y. key x ≢ key y) all → IsAmong person all → AreAmong some all → (IsAmong person some → ⊥)
    → AllByRecursion (λ other. key person ≢ key other) some
keys_apart key all person [] pairs here within leaver = tt
keys_apart key all person (other ∷ some) pairs here within leaver =
    (key_apart key all person other pairs here within.0 (λ same. leaver (inl same)), keys_apart key all person some pairs here within.1 (λ later. leaver (inr later)))

-- the second people are the first with the person who comes
pub record Joins (list : ListId) (before after : List Person) (coming : Option Person) : Type 0 where
  pub ranked : AreRanked list before
  pub more_ranked : AreRanked list after
  pub part : AreAmong before after
  pub here : (person : Person) → coming ≡ Some person → IsAmong person after
  pub nobody_else : (person : Person) → IsAmong person after → IsAmong person before ⊎ (coming ≡ Some person)
  pub fresh : (person : Person) → coming ≡ Some person → IsAmong person before → ⊥

-- those held and the person who comes are those held after and the person who goes
pub record Passes (before : List Person) (coming leaver : Option Person) (after : List Person) : Type 0 where
  pub stay : (person : Person) → IsAmong person before ⊎ (coming ≡ Some person) → IsAmong person after ⊎ (leaver ≡ Some person)
  pub back : (person : Person) → IsAmong person after ⊎ (leaver ≡ Some person) → IsAmong person before ⊎ (coming ≡ Some person)
  pub out : (person : Person) → leaver ≡ Some person → IsAmong person after → ⊥

-- those who pass a test, joined by the person who comes and passes it
filter_joins : (list : ListId) (test : Person → Bool) (before after : List Person) (coming : Option Person) → Joins list before after coming → Joins list (filter test before) (filter test after) (joining test coming)
filter_joins list test before after coming j = record {
  ranked = ranked_sublist list (filter test before) before j.ranked (filter-sublist test before);
  more_ranked = ranked_sublist list (filter test after) after j.more_ranked (filter-sublist test after);
  part = are_among (filter test before) (filter test after) (λ person here.
      let found = among_filter test person before here in
      among_filter_from test person after (widen person before after j.part found.0) found.1);
  here = λ person e. let found = joining_some test coming person e in among_filter_from test person after (j.here person found.0) found.1;
  nobody_else = λ person here.
      let found = among_filter test person after here in
      elim (j.nobody_else person found.0) [
        | inl old ↦ inl (among_filter_from test person before old found.1)
        | inr new ↦ inr (some_joining test coming person new found.1)
      ];
  fresh = λ person e here. j.fresh person (joining_some test coming person e).0 (among_filter test person before here).0;
}

-- the people who are left, joined by the person who goes
pub without_joins : (list : ListId) (before after old new : List Person) (coming leaver : Option Person) → Joins list before after coming → AreAmong old before → Passes old coming leaver new
    → Joins list (without before old) (without after new) leaver
without_joins list before after old new coming leaver j within p =
    let new_within : AreAmong new after = are_among new after (λ person here. elim (p.back person (inl here)) [
      | inl held ↦ widen person before after j.part (widen person old before within held)
      | inr came ↦ j.here person came
    ]) in
    record {
      ranked = ranked_without list before old j.ranked;
      more_ranked = ranked_without list after new j.more_ranked;
      part = are_among (without before old) (without after new) (λ person here.
          let found = among_without person before old here in
          among_without_from after after new person j.more_ranked.distinct (among_itself after) new_within (widen person before after j.part found.0)
          (λ there. elim (p.back person (inl there)) [ inl held ↦ found.1 held | inr came ↦ j.fresh person came found.0 ]));
      here = λ person e.
          among_without_from after after new person j.more_ranked.distinct (among_itself after) new_within
          (elim (p.back person (inr e)) [ inl held ↦ widen person before after j.part (widen person old before within held) | inr came ↦ j.here person came ]) (p.out person e);
      nobody_else = λ person here.
          let found = among_without person after new here in
          let goes = λ (e : IsAmong person old ⊎ (coming ≡ Some person)).
          let g : leaver ≡ Some person = elim (p.stay person e) [ inl there ↦ absurd (found.1 there) | inr left ↦ left ] in g in
          elim (j.nobody_else person found.0) [
            | inl there ↦ elim (is_among_or_not person old) [
              | inl held ↦ inr (goes (inl held))
              | inr free ↦ inl (among_without_from before before old person j.ranked.distinct (among_itself before) within there free)
            ]
            | inr came ↦ inr (goes (inr came))
          ];
      fresh = λ person e here.
          let found = among_without person before old here in
          elim (p.back person (inr e)) [ inl held ↦ found.1 held | inr came ↦ j.fresh person came found.0 ];
    }

-- the choice of a step after a person came
abbrev ChosenWith : ListId → Seating → List Person → Option Person → List Person → Type 0
ChosenWith list seats old None new = new ≡ old
ChosenWith list seats old (Some person) new = IsStepChoice (step_with list seats (with_person list person old)) new

-- the people with the person who joins them
abbrev pub entered : ListId → List Person → Option Person → List Person
entered list people None = people
entered list people (Some person) = with_person list person people

-- a step that holds these people
abbrev pub step_at : ListId → Seating → List Person → StepKept
step_at list seats held = record { list = list; seats = seats.seats; protections = seats.protections; held = held }

-- what a step does where nobody joins it, and where somebody does
abbrev pub Stays : List Person → Option Person → Option Person → List Person → Type 0
Stays old coming leaver new = (leaver ≡ coming) × (new ≡ old)

abbrev pub Takes : ListId → Seating → List Person → Option Person → List Person → Person → Type 0
Takes list seats old leaver new person = IsStepChoice (step_with list seats (with_person list person old)) new × HoldsAllBut leaver (with_person list person old) new

-- what a step holds after a person came to it
offered_choice : (test : Person → Bool) (list : ListId) (seats : Seating) (old : List Person) (coming leaver : Option Person) (new : List Person)
    → IsOffer test (step_at list seats old) coming leaver new → ChosenWith list seats old (joining test coming) new
offered_choice test list seats old coming leaver new p = by (joining test coming) p
  where
    by : (joins : Option Person) → MatchOption joins (Stays old coming leaver new) (Takes list seats old leaver new) → ChosenWith list seats old joins new
    by None h = h.1
    by (Some person) h = h.0

-- whom the de-reserved step holds after a person came to it
last_best : (list : ListId) (n : ℕ) (old : List Person) (coming leaver : Option Person) (new : List Person)
    → IsLastOffer list n old coming leaver new → new ≡ take n (entered list old (joining (is_common list) coming))
last_best list n old coming leaver new p = by (joining (is_common list) coming) p
  where
    by : (joins : Option Person) → MatchOption joins ((leaver ≡ option_or coming (slice_get old n)) × (new ≡ take n old))
        (λ person. (leaver ≡ slice_get (with_person list person old) n) × (new ≡ take n (with_person list person old)))
        → new ≡ take n (entered list old joins)
    by None h = h.1
    by (Some person) h = h.1

-- the people who are left after the open step, and after all categories
pub record Course (seats : ProgrammeSeats) (people more : List Person) (before after : Admissions) (person : Person) (left_by_open left_by_categories : Option Person) : Type 0 where
  pub open_passes : Passes (before Open) (Some person) left_by_open (after Open)
  pub rest : Joins seats.list (rest_of people before) (rest_of more after) left_by_open
  pub last : Joins seats.list (left_over people before) (left_over more after) left_by_categories

module _ (laws : AreLawful) where
  -- ranked people who are the same persons are one list
  ranked_same : (list : ListId) (some others : List Person) → AreRanked list some → AreRanked list others → AreAmong some others → AreAmong others some → some ≡ others
  ranked_same list some others one two part back =
      let can = laws.ranked_in_merit list some one in
      sym can.1 ∙ sym (laws.one_merit_order list some others can.0 two part back)

  -- a person who joins people is new to those of them
  pub new_to : (list : ListId) (all some : List Person) (person : Person) → AreRanked list all → AreAmong some all → IsAmong person all → (IsAmong person some → ⊥) → IsNewTo list some person
  new_to list all some person ranked within here leaver =
      let can = (laws.ranked_in_merit list all ranked).0 in
      let traits = any_all (λ one. person ≡ one) (λ one. IsTraitSet one.traits) all here can.traits in
      let placed = any_all (λ one. person ≡ one) (λ one. IsSome (number_in list one)) all here can.placed in
      record {
        traits = subst (λ (one : Person). IsTraitSet one.traits) (sym traits.1) traits.2;
        placed = subst (λ (one : Person). IsSome (number_in list one)) (sym placed.1) placed.2;
        distinct = keys_apart (λ (one : Person). one.id) all person some can.distinct here within leaver;
        numbers = keys_apart (number_in list) all person some can.numbers here within leaver;
      }

  -- those held and the person who came are those held after and the person who left
  handed_passes : (list : ListId) (seats : Seating) (all old new : List Person) (person : Person) (leaver : Option Person) → AreRanked list all → AreRanked list old → AreAmong old all → IsAmong person all
      → (IsAmong person old → ⊥) → HoldsAllBut leaver (with_person list person old) new → Passes old (Some person) leaver new
  handed_passes list seats all old new person None ranked old_ranked within here free hands =
      let with_one = laws.with_person_ranks list old person old_ranked (new_to list all old person ranked within here free) in
      let joined = with_person list person old in
      record {
        stay = λ other h. inl (subst (IsAmong other) (sym hands) (widen other (person ∷ old) joined with_one.1 (elim h [ inl held ↦ inr held | inr came ↦ (let same : person ≡ other = cc came in inl (sym same)) ])));
        back = λ other h. elim h [
          | inl held ↦ elim (widen other joined (person ∷ old) with_one.2 (subst (IsAmong other) hands held)) [ inl same ↦ inr (ap (λ (one : Person). Some one) (sym same)) | inr was ↦ inl was ]
          | inr left ↦ cc left
        ];
        out = λ other e. cc e;
      }
  handed_passes list seats all old new person (Some leaver) ranked old_ranked within here free hands =
      let with_one = laws.with_person_ranks list old person old_ranked (new_to list all old person ranked within here free) in
      let joined = with_person list person old in
      let back_to = λ (other : Person) (there : IsAmong other joined).
      let found : IsAmong other old ⊎ (Some person ≡ Some other) = elim (widen other joined (person ∷ old) with_one.2 there) [ inl same ↦ inr (ap (λ (one : Person). Some one) (sym same)) | inr was ↦ inl was ] in found in
      record {
        stay = λ other h.
            let there : IsAmong other joined = widen other (person ∷ old) joined with_one.1 (elim h [ inl held ↦ inr held | inr came ↦ (let same : person ≡ other = cc came in inl (sym same)) ]) in
            elim (is_among_or_not other new) [
              | inl held ↦ inl held
              | inr left ↦ elim (is_among_or_not other (leaver ∷ [])) [
                | inl found ↦ elim found [ inl same ↦ inr (ap (λ (one : Person). Some one) (sym same)) | inr nothing ↦ absurd nothing ]
                | inr differs ↦ absurd (left (subst (IsAmong other) (sym hands.1) (among_others leaver.id other joined there
                    (key_apart (λ (one : Person). one.id) joined other leaver with_one.0.distinct there hands.0 (λ same. differs (inl same))))))
              ]
            ];
        back = λ other h. elim h [
          | inl held ↦ back_to other (widen other (words.without leaver.id joined) joined (others_among leaver.id joined) (subst (IsAmong other) hands.1 held))
          | inr left ↦ (let same : leaver ≡ other = cc left in back_to other (subst (λ (one : Person). IsAmong one joined) same hands.0))
        ];
        out = λ other e held. (
            let same : leaver ≡ other = cc e in
            gone_apart leaver joined with_one.0.distinct (subst (IsAmong leaver) hands.1 (subst (λ (one : Person). IsAmong one new) (sym same) held))
            );
      }

  -- and this holds for each step, for any person who comes
  pub passes : (test : Person → Bool) (list : ListId) (seats : Seating) (before after old new : List Person) (coming leaver : Option Person) → Joins list before after coming → AreAmong old before → AreRanked list old
      → IsOffer test (step_at list seats old) coming leaver new → Passes old coming leaver new
  passes test list seats before after old new coming leaver j within old_ranked p = by (joining test coming) refl p
    where
      by : (joins : Option Person) → joining test coming ≡ joins → MatchOption joins (Stays old coming leaver new) (Takes list seats old leaver new) → Passes old coming leaver new
      by None nobody h = record {
        stay = λ other e. elim e [ inl held ↦ inl (subst (IsAmong other) (sym h.1) held) | inr came ↦ inr (h.0 ∙ came) ];
        back = λ other e. elim e [ inl held ↦ inl (subst (IsAmong other) h.1 held) | inr left ↦ inr (sym h.0 ∙ left) ];
        out = λ other e held. j.fresh other (sym h.0 ∙ e) (widen other old before within (subst (IsAmong other) h.1 held));
      }
      by (Some person) somebody h =
          let came = (joining_some test coming person somebody).0 in
          subst (λ (o : Option Person). Passes old o leaver new) (sym came)
          (handed_passes list seats after old new person leaver j.more_ranked old_ranked (among_again old before after within j.part) (j.here person came)
          (λ held. j.fresh person came (widen person old before within held)) h.1)

  -- the choice from those held and the person who comes is that from all the people
  joined_choice : (list : ListId) (seats : Seating) (before after old new : List Person) (coming : Option Person) → IsList list → IsSeated seats → Joins list before after coming
      → IsStepChoice (step_with list seats before) old → ChosenWith list seats old coming new → IsStepChoice (step_with list seats after) new
  joined_choice list seats before after old new None is_list seated j choice same =
      let one = ranked_same list before after j.ranked j.more_ranked j.part
      (are_among after before (λ person here. elim (j.nobody_else person here) [ inl there ↦ there | inr came ↦ cc came ])) in
      subst (λ (people : List Person). IsStepChoice (step_with list seats people) new) one (subst (IsStepChoice (step_with list seats before)) (sym same) choice)
  joined_choice list seats before after old new (Some person) is_list seated j choice chosen =
      let within = among_sublist old before choice.may.people in
      let old_ranked = ranked_sublist list old before j.ranked choice.may.people in
      let fresh = new_to list after old person j.more_ranked (among_again old before after within j.part) (j.here person refl) (λ held. j.fresh person refl (widen person old before within held)) in
      let with_one = laws.with_person_ranks list old person old_ranked fresh in
      let small = with_person list person old in
      let step : IsStep (step_with list seats before) = record { list = is_list; people = j.ranked; protections = seated.protections } in
      let small_step : IsStep (step_with list seats small) = record { list = is_list; people = with_one.0; protections = seated.protections } in
      let more_step : IsStep (step_with list seats after) = record { list = is_list; people = j.more_ranked; protections = seated.protections } in
      let whole = laws.choice_exists (step_with list seats after) more_step in
      let small_within : AreAmong small after = are_among small after (λ other here. elim (widen other small (person ∷ old) with_one.2 here) [
        | inl same ↦ subst (λ (one : Person). IsAmong one after) (sym same) (j.here person refl)
        | inr held ↦ widen other before after j.part (widen other old before within held)
      ]) in
      let same : new ≡ whole.0 = laws.refused_before (step_with list seats before) (step_with list seats small) (step_with list seats after) old new whole.0
      (record { is_step = step; more_is_step = more_step; list = refl; seats = refl; protections = refl; people = j.part })
      (record { is_step = small_step; more_is_step = more_step; list = refl; seats = refl; protections = refl; people = small_within })
      choice chosen whole.1
      (λ other here out. elim (j.nobody_else other here) [
        | inl there ↦ (there, λ held. out (widen other (person ∷ old) small with_one.1 (inr held)))
        | inr came ↦ (let is : person ≡ other = cc came in absurd (out (widen other (person ∷ old) small with_one.1 (inl (sym is)))))
      ]) in
      subst (IsStepChoice (step_with list seats after)) (sym same) whole.1

  -- the person who joins people who are ranked, put in at the merit place
  joined_people : (list : ListId) (before after : List Person) (coming : Option Person) → Joins list before after coming → after ≡ entered list before coming
  joined_people list before after None j =
      sym (ranked_same list before after j.ranked j.more_ranked j.part (are_among after before (λ person here. elim (j.nobody_else person here) [ inl there ↦ there | inr came ↦ cc came ])))
  joined_people list before after (Some person) j =
      let fresh = new_to list after before person j.more_ranked j.part (j.here person refl) (j.fresh person refl) in
      let with_one = laws.with_person_ranks list before person j.ranked fresh in
      ranked_same list after (with_person list person before) j.more_ranked with_one.0
      (are_among after (with_person list person before) (λ other here. widen other (person ∷ before) (with_person list person before) with_one.1
      (elim (j.nobody_else other here) [ inl there ↦ inr there | inr came ↦ (let is : person ≡ other = cc came in inl (sym is)) ])))
      (are_among (with_person list person before) after (λ other here. elim (widen other (with_person list person before) (person ∷ before) with_one.2 here) [
        | inl same ↦ subst (λ (one : Person). IsAmong one after) (sym same) (j.here person refl)
        | inr there ↦ widen other before after j.part there
      ]))

  -- ---- a person whom a category leaves out is in no other category

  joining_later : (one other : Category) (list : ListId) (seats : Seating) (old new : List Person) (coming leaver : Option Person) → (one ≡ other → ⊥)
      → ((person : Person) → IsAmong person old → one ≡ person.category)
      → Passes old coming leaver new → IsOffer (is_of one) (step_at list seats old) coming leaver new → joining (is_of other) leaver ≡ joining (is_of other) coming
  joining_later one other list seats old new coming leaver differ members p offered = by (joining (is_of one) coming) refl offered
    where
      not_other : (someone : Person) → one ≡ someone.category → is_of other someone ≡ false
      not_other someone holds = elim (cases_Bool (is_of other someone)) [
        | inl too ↦ absurd (differ (holds ∙ sym (same_category other someone.category too)))
        | inr fails ↦ fails
      ]

      by : (joins : Option Person) → joining (is_of one) coming ≡ joins → MatchOption joins (Stays old coming leaver new) (Takes list seats old leaver new) → joining (is_of other) leaver ≡ joining (is_of other) coming
      by None nobody h = ap (joining (is_of other)) h.0
      by (Some person) somebody h =
          let found = joining_some (is_of one) coming person somebody in
          let is_one = λ (someone : Person) (came : coming ≡ Some someone).
          let same : Some person ≡ Some someone = sym found.0 ∙ came in
          let is : person ≡ someone = cc same in
          let holds : one ≡ someone.category = same_category one someone.category (subst (λ (p : Person). is_of one p ≡ true) is found.1) in holds in
          none_joining (is_of other) leaver (λ someone e. not_other someone (elim (p.back someone (inr e)) [
            | inl held ↦ members someone held
            | inr came ↦ is_one someone came
          ]))
          ∙ sym (none_joining (is_of other) coming (λ someone came. not_other someone (is_one someone came)))

  -- ---- the steps of rows, one after another

  -- what the step of the first row does in its turn
  pub row_passes : (seats : ProgrammeSeats) (row : CategoryStep) (rows : List CategoryStep) (old new : List Person) (before : Admissions) (coming leaver : Option Person) (held : List Person)
      → AreThere (row ∷ rows) old before → Joins seats.list old new coming → IsOffer (is_of row.category) (step_at seats.list (seats_of seats row.step) (before row.step)) coming leaver held
      → Passes (before row.step) coming leaver held
  row_passes seats row rows old new before coming leaver held there j offer =
      let sub = there.within row (inl refl) in
      passes (is_of row.category) seats.list (seats_of seats row.step) old new (before row.step) held coming leaver j (among_sublist (before row.step) old sub)
      (ranked_sublist seats.list (before row.step) old j.ranked sub) offer

  -- and who is left after it
  pub row_joins : (seats : ProgrammeSeats) (row : CategoryStep) (rows : List CategoryStep) (old new : List Person) (before : Admissions) (coming leaver : Option Person) (held : List Person)
      → AreThere (row ∷ rows) old before → Joins seats.list old new coming → IsOffer (is_of row.category) (step_at seats.list (seats_of seats row.step) (before row.step)) coming leaver held
      → Joins seats.list (without old (before row.step)) (without new held) leaver
  row_joins seats row rows old new before coming leaver held there j offer =
      without_joins seats.list old new (before row.step) held coming leaver j (among_sublist (before row.step) old (there.within row (inl refl)))
      (row_passes seats row rows old new before coming leaver held there j offer)

  -- who is left after all of them
  pub rows_join : (seats : ProgrammeSeats) (rows : List CategoryStep) (old new : List Person) (before after : Admissions) (coming leaver : Option Person) → AreThere rows old before → Joins seats.list old new coming
      → AreOffered seats before after rows coming leaver → Joins seats.list (left_by (steps_of rows) old before) (left_by (steps_of rows) new after) leaver
  rows_join seats [] old new before after coming leaver there j offered = subst (Joins seats.list old new) (sym offered) j
  rows_join seats (row ∷ rows) old new before after coming leaver there j offered =
      rows_join seats rows (without old (before row.step)) (without new (after row.step)) before after offered.0 leaver (there_next row rows old before there)
      (row_joins seats row rows old new before coming offered.0 (after row.step) there j offered.1) offered.2

  -- each of them holds the choice with the person who came to the first, where that person is a member
  rows_choose : (seats : ProgrammeSeats) (rows : List CategoryStep) (old new : List Person) (before after : Admissions) (coming leaver : Option Person) → AreThere rows old before → Joins seats.list old new coming
      → AreOffered seats before after rows coming leaver → (row : CategoryStep) → IsAmong row rows
      → ChosenWith seats.list (seats_of seats row.step) (before row.step) (joining (is_of row.category) coming) (after row.step)
  rows_choose seats [] old new before after coming leaver there j offered row here = absurd here
  rows_choose seats (first ∷ rows) old new before after coming leaver there j offered row here = elim here [
    | inl same ↦ subst (λ (r : CategoryStep). ChosenWith seats.list (seats_of seats r.step) (before r.step) (joining (is_of r.category) coming) (after r.step)) (sym same)
        (offered_choice (is_of first.category) seats.list (seats_of seats first.step) (before first.step) coming offered.0 (after first.step) offered.1)
    | inr later ↦
        let next = rows_choose seats rows (without old (before first.step)) (without new (after first.step)) before after offered.0 leaver (there_next first rows old before there)
        (row_joins seats first rows old new before coming offered.0 (after first.step) there j offered.1) offered.2 row later in
        let same : joining (is_of row.category) offered.0 ≡ joining (is_of row.category) coming =
        joining_later first.category row.category seats.list (seats_of seats first.step) (before first.step) (after first.step) coming offered.0 (of_row _ rows row there.apart.0 later).0
        (there.members first (inl refl)) (row_passes seats first rows old new before coming offered.0 (after first.step) there j offered.1) offered.1 in
        subst (λ (o : Option Person). ChosenWith seats.list (seats_of seats row.step) (before row.step) o (after row.step)) same next
  ]

  -- ---- the whole programme

  -- where all applicants are admitted, the de-reserved step has all who are left to it
  pub last_whole : (version : ℕ) (seats : ProgrammeSeats) (people : List Person) (admissions : Admissions) → AreRanked seats.list people → AreAmong people (everybody admissions)
      → IsProgrammeChoice version seats people admissions → admissions Dereserved ≡ people_of seats.list people admissions Dereserved
  last_whole version seats people admissions ranked all choice =
      let whole = people_of seats.list people admissions Dereserved in
      let n = unfilled version seats admissions in
      let whole_ranked = ranked_sublist seats.list whole people ranked (last_sublist seats.list people admissions) in
      let sub : IsSublist (admissions Dereserved) whole = subst (λ (some : List Person). IsSublist some whole) (sym choice.dereserved) (IsSublist-take n whole) in
      ranked_same seats.list (admissions Dereserved) whole (ranked_sublist seats.list (admissions Dereserved) whole whole_ranked sub) whole_ranked (among_sublist (admissions Dereserved) whole sub)
      (are_among whole (admissions Dereserved) (λ person here.
      let left = is_left person people admissions (among_filter (is_common seats.list) person (left_over people admissions) here).0 in
      let found = from_everybody admissions person (widen person people (everybody admissions) all left.here) in
      elim (kind_or_last found.0) [
        | inl own ↦ absurd (left.free found.0 own found.1)
        | inr last ↦ subst (λ (kind : StepKind). IsAmong person (admissions kind)) last found.1
      ]))

  -- what the open step does in its turn, and the people who are left after it and after all categories
  pub course : (version : ℕ) (seats : ProgrammeSeats) (people more : List Person) (before after : Admissions) (person : Person) → Joins seats.list people more (Some person)
      → IsProgrammeChoice version seats people before → (offered : IsOffered version seats before person after)
      → Course seats people more before after person offered.left_by_open offered.left_by_categories
  course version seats people more before after person j choice offered =
      let list = seats.list in
      let common = filter (is_common list) people in
      let sub = sublist_again (before Open) common people (open_choice version seats people before choice).may.people (filter-sublist (is_common list) people) in
      let within = among_sublist (before Open) people sub in
      let open_passes = passes (is_common list) list (seats_of seats Open) people more (before Open) (after Open) (Some person) offered.left_by_open j within
      (ranked_sublist list (before Open) people j.ranked sub) offered.open_step in
      let rest = without_joins list people more (before Open) (after Open) (Some person) offered.left_by_open j within open_passes in
      record {
        open_passes = open_passes;
        rest = rest;
        last = rows_join seats category_steps (rest_of people before) (rest_of more after) before after offered.left_by_open offered.left_by_categories
            (are_there version seats people before j.ranked.distinct choice) rest offered.categories;
      }

  -- a person who comes to the de-reserved step joins those it has
  pub last_joins : (version : ℕ) (seats : ProgrammeSeats) (people more : List Person) (before after : Admissions) (person : Person) → Joins seats.list people more (Some person)
      → AreAmong people (everybody before) → IsProgrammeChoice version seats people before → (offered : IsOffered version seats before person after)
      → Joins seats.list (before Dereserved) (entered seats.list (before Dereserved) (joining (is_common seats.list) offered.left_by_categories)) (joining (is_common seats.list) offered.left_by_categories)
  last_joins version seats people more before after person j all choice offered =
      let list = seats.list in
      let coming = joining (is_common list) offered.left_by_categories in
      let joined = filter_joins list (is_common list) (left_over people before) (left_over more after) offered.left_by_categories (course version seats people more before after person j choice offered).last in
      let whole = last_whole version seats people before j.ranked all choice in
      let there : Joins list (before Dereserved) (people_of list more after Dereserved) coming = subst (λ (some : List Person). Joins list some (people_of list more after Dereserved) coming) (sym whole) joined in
      subst (λ (some : List Person). Joins list (before Dereserved) some coming) (joined_people list (before Dereserved) (people_of list more after Dereserved) coming there) there

  pub ranked_offer : (version : ℕ) (seats : ProgrammeSeats) (people more : List Person) (before after : Admissions) (person : Person) → AreProgrammeSeats seats → Joins seats.list people more (Some person)
      → AreAmong people (everybody before) → IsProgrammeChoice version seats people before → IsOffered version seats before person after → IsProgrammeChoice version seats more after
  ranked_offer version seats people more before after person ok j all choice offered =
      let list = seats.list in
      let way = course version seats people more before after person j choice offered in
      let old = rest_of people before in
      let new = rest_of more after in
      let come = offered.left_by_categories in
      let last : people_of list more after Dereserved ≡ entered list (before Dereserved) (joining (is_common list) come) =
      joined_people list (filter (is_common list) (left_over people before)) (filter (is_common list) (left_over more after)) (joining (is_common list) come)
      (filter_joins list (is_common list) (left_over people before) (left_over more after) come way.last)
      ∙ ap (λ (some : List Person). entered list some (joining (is_common list) come)) (sym (last_whole version seats people before j.ranked all choice)) in
      made_choice version seats more after
      (joined_choice list (seats_of seats Open) (filter (is_common list) people) (filter (is_common list) more) (before Open) (after Open) (joining (is_common list) (Some person)) ok.list (ok.steps Open)
      (filter_joins list (is_common list) people more (Some person) j) (open_choice version seats people before choice)
      (offered_choice (is_common list) list (seats_of seats Open) (before Open) (Some person) offered.left_by_open (after Open) offered.open_step))
      (λ row here. joined_choice list (seats_of seats row.step) (filter (is_of row.category) old) (filter (is_of row.category) new) (before row.step) (after row.step)
      (joining (is_of row.category) offered.left_by_open) ok.list (ok.steps row.step)
      (filter_joins list (is_of row.category) old new offered.left_by_open way.rest) (row_choice version seats people before choice row here)
      (rows_choose seats category_steps old new before after offered.left_by_open come (are_there version seats people before j.ranked.distinct choice) way.rest offered.categories row here))
      (last_best list (unfilled version seats after) (before Dereserved) come offered.left_out (after Dereserved) offered.dereserved
      ∙ ap (λ (some : List Person). take (unfilled version seats after) some) (sym last))

  -- one applicant more, by merit
  pub starts : (list : ListId) (held : List Person) (person : Person) → AreApplicants list (person ∷ held) → Joins list (in_merit list held) (in_merit list (person ∷ held)) (Some person)
  starts list held person may =
      let ranks = laws.in_merit_ranks list (person ∷ held) may in
      let held_may = laws.part_can_be_ranked list held (person ∷ held) may.distinct.1 may (are_among held (person ∷ held) (λ other here. inr here)) in
      let held_ranks = laws.in_merit_ranks list held held_may in
      record {
        ranked = held_ranks.0;
        more_ranked = ranks.0;
        part = are_among (in_merit list held) (in_merit list (person ∷ held)) (λ other here. widen other (person ∷ held) (in_merit list (person ∷ held)) ranks.1 (inr (widen other (in_merit list held) held held_ranks.2 here)));
        here = λ other e. (let is : person ≡ other = cc e in widen other (person ∷ held) (in_merit list (person ∷ held)) ranks.1 (inl (sym is)));
        nobody_else = λ other here. elim (widen other (in_merit list (person ∷ held)) (person ∷ held) ranks.2 here) [
          | inl same ↦ inr (ap (λ (one : Person). Some one) (sym same))
          | inr there ↦ inl (widen other held (in_merit list held) held_ranks.1 there)
        ];
        fresh = λ other e here. (
            let is : person ≡ other = cc e in
            let there = widen other (in_merit list held) held held_ranks.2 here in
            let found = any_all (λ one. other ≡ one) (λ one. person.id ≢ one.id) held there may.distinct.0 in
            found.2 (ap (λ (p : Person). p.id) (is ∙ found.1))
            );
      }

  pub offers_keep_choices : OffersKeepChoices
  offers_keep_choices version seats before after person ok may choice offered =
      let list = seats.list in
      let held = everybody before in
      let held_may = laws.part_can_be_ranked list held (person ∷ held) may.distinct.1 may (are_among held (person ∷ held) (λ other here. inr here)) in
      let held_ranks = laws.in_merit_ranks list held held_may in
      let j = starts list held person may in
      ranked_offer version seats (in_merit list held) (in_merit list (person ∷ held)) before after person ok j held_ranks.2 choice offered
