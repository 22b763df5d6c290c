-- A person comes down the steps of a programme, by what each step keeps and what it does in its turn.
use Rattle.std.proofs.Common.{◌≡◌, ◌≤◌, ◌+◌, ℕ, false, List, [], ◌∷◌, map, length, length-append, get_or, refl, sym, ap, ◌∙◌, subst, arith}
use Rattle.std.specs.Prelude.{Option, Some}
use Rattle.std.proofs.lemmas.List.{length-map}
use Rattle.std.specs.List.{AllByRecursion, AllZip}
use Rattle.office_base.specs.CategorySteps.{all_steps, category_steps}
use Rattle.office_base.specs.Limits.{most_step_seats}
use Rattle.office_base.specs.Lists.{IsAmong}
use Rattle.office_base.specs.Merit.{IsNewTo}
use Rattle.office_base.specs.Person.{is_common}
use Rattle.office_base.specs.StepChoice.{AreRanked}
use Rattle.office_base.specs.StepNumbers.{step_number}
use Rattle.office_base.specs.declared.category_steps.CategoryStep.{CategoryStep}
use Rattle.office_base.specs.declared.person.Person.{Person}
use Rattle.office_base.specs.declared.step.StepKind.{StepKind}
use Rattle.office_base.specs.declared.step.StepKind.TheVariants.{Open, Dereserved}
use Rattle.placements.specs.Ranks.{AreDistinct}
use Rattle.merit_choice.specs.State.{StepKept}
use Rattle.seat_matrix.specs.Seats.{is_dereserved, of_step, seats_of}
use Rattle.seat_matrix.specs.Unfilled.{left_unfilled}
use Rattle.seat_matrix.proofs.SeatsLemmas.{own_number}
use Rattle.dereserve.specs.Unfilled.{AreHeld, held_at}
use Rattle.programme_lists.specs.Chosen.{AreApplicants, ChoosesFrom, IsWith, everybody}
use Rattle.programme_lists.specs.Programme.{Admissions, unfilled}
use Rattle.programme_lists.proofs.Table.{row_facts}
use Rattle.open_then_category.specs.Laws.{Resumes}
use Rattle.open_then_category.specs.State.{AreHanded, AreNew, AreOffered, IsLastOffer, IsOffer, IsOffered, IsStateKept, LeavesOut, OffersKeepChoices, OffersLeaveOne, ProgrammeKept, admissions_of, by_number, categories_kept, people_held, people_or_none, step_kept}
use Rattle.open_then_category.specs.StepLaws.{AreLawful}
use Rattle.open_then_category.proofs.Handed.{At, categories_before, handed_kept, handed_length, handed_offered, last_at, size_at}
use Rattle.open_then_category.proofs.Leaving.{count}
use Rattle.open_then_category.proofs.Keeping.{few_last, last_ranked, new_last, new_open, new_rows, own_few, settled}
use Rattle.open_then_category.proofs.ProgrammeLaws.{given}
use Rattle.open_then_category.proofs.Rows.{sum_same}

module _ (laws : AreLawful) (state now : ProgrammeKept) (person : Person) (o : StepKept) (steps : List StepKept) (size : ℕ) (kept : IsStateKept state o steps size) (is : state ≡ now)
    (asked : AreApplicants now.seats.list (person ∷ everybody (admissions_of now))) (tail : List Person) (whole : state.held ≡ people_held o steps tail) where
  pub may_come : AreApplicants state.seats.list (person ∷ everybody (admissions_of state))
  may_come = subst (λ (p : ProgrammeKept). AreApplicants p.seats.list (person ∷ everybody (admissions_of p))) (sym is) asked

  -- the de-reserved step holds the last people
  tail_is : admissions_of state Dereserved ≡ tail
  tail_is =
      let long : length steps ≡ length category_steps = ap length kept.of_categories in
      ap (λ (held : List (List Person)). by_number held Dereserved) whole
      ∙ ap people_or_none (last_at o.held (map (λ (step : StepKept). step.held) steps) tail (length-map steps (λ (step : StepKept). step.held) ∙ long))

  pub tail_ranked : AreRanked state.seats.list tail
  tail_ranked = subst (AreRanked state.seats.list) tail_is (last_ranked laws state.version state.seats (admissions_of state) person may_come kept.kept.choice)

  -- a person who comes to a step is new to it
  pub to_open : IsNewTo o.list o.held person
  to_open = subst (λ (k : StepKept). IsNewTo k.list k.held person) (sym kept.of_open) (new_open laws state.version state.seats (admissions_of state) person may_come kept.kept.choice)

  -- a step has no more seats than a step may have
  pub open_most : (o_new : StepKept) → o_new ≡ record o { held = o_new.held } → o_new.seats ≤ most_step_seats
  open_most o_new stays =
      let same = ap (λ (k : StepKept). k.seats) stays in
      let was = ap (λ (k : StepKept). k.seats) kept.of_open in
      let most = (kept.kept.are_seats.steps Open).seats in
      omega (arith, same, was, most)

  module _ (o_new : StepKept) (by_open : Option Person) (offer : IsOffer (is_common state.seats.list) o (Some person) by_open o_new.held) where
    open_offer : IsOffer (is_common state.seats.list) (step_kept state.seats Open (admissions_of state Open)) (Some person) by_open o_new.held
    open_offer = subst (λ (k : StepKept). IsOffer (is_common state.seats.list) k (Some person) by_open o_new.held) kept.of_open offer

    pub to_categories : AreNew category_steps steps by_open
    to_categories = subst (λ (all : List StepKept). AreNew category_steps all by_open) (sym kept.of_categories)
        (new_rows laws state.version state.seats (admissions_of state) person may_come kept.kept.choice by_open o_new.held open_offer)

    module _ (news : List StepKept) (come : Option Person) (down : AreHanded category_steps steps news by_open come) where
      handed : AreHanded category_steps (categories_kept state.seats (admissions_of state)) news by_open come
      handed = subst (λ (all : List StepKept). AreHanded category_steps all news by_open come) kept.of_categories down

      long : length news ≡ length category_steps
      long = handed_length category_steps (categories_kept state.seats (admissions_of state)) news by_open come handed refl

      -- whom each step admits then
      abbrev lists : List Person → List (List Person)
      lists last = people_held o_new news last

      abbrev after : List Person → Admissions
      after last = by_number (lists last)

      at : (last : List Person) → AllZip (λ (row : CategoryStep) (held : List Person). At (lists last) row.step held) category_steps (map (λ (step : StepKept). step.held) news)
      at last = categories_before o_new.held (map (λ (step : StepKept). step.held) news) (last ∷ []) (length-map news (λ (step : StepKept). step.held) ∙ long)

      pub all_there : (last : List Person) → length (lists last) ≡ length all_steps
      all_there last =
          let all = map (λ (step : StepKept). step.held) news in
          let some = length-map news (λ (step : StepKept). step.held) in
          let size = length-append (o_new.held ∷ all) (last ∷ []) in
          omega (arith, long, some, size)

      offered_rows : (last : List Person) → AreOffered state.seats (admissions_of state) (after last) category_steps by_open come
      offered_rows last = handed_offered state.seats (admissions_of state) (lists last) category_steps news by_open come (at last) handed

      pub steps_most : AllByRecursion (λ (step : StepKept). step.seats ≤ most_step_seats) news
      steps_most = subst (AllByRecursion (λ (step : StepKept). step.seats ≤ most_step_seats))
          (sym (handed_kept state.seats (admissions_of state) (lists []) category_steps news by_open come (at []) handed))
          (each_most category_steps)
        where
          each_most : (rows : List CategoryStep)
              → AllByRecursion (λ (step : StepKept). step.seats ≤ most_step_seats) (map (λ row. step_kept state.seats row.step (after [] row.step)) rows)
          each_most [] = tt
          each_most (row ∷ rows) = ((kept.kept.are_seats.steps row.step).seats, each_most rows)

      to_dereserved : (other : Person) → come ≡ Some other → IsNewTo state.seats.list (admissions_of state Dereserved) other
      to_dereserved = new_last laws state.version state.seats (admissions_of state) person may_come kept.kept.choice by_open o_new.held open_offer (after (admissions_of state Dereserved)) come
          (offered_rows (admissions_of state Dereserved))

      pub to_last : (other : Person) → come ≡ Some other → IsNewTo state.seats.list tail other
      to_last other came = subst (λ (people : List Person). IsNewTo state.seats.list people other) tail_is (to_dereserved other came)

      module _ (held : List ℕ) (sizes : held ≡ map (λ (step : StepKept). length step.held) (o_new ∷ news)) where
        held_is : (last : List Person) (kind : StepKind) → is_dereserved kind ≡ false → held_at held kind ≡ length (after last kind)
        held_is last kind own =
            let below = own_number kind own in
            ap (λ (ns : List ℕ). get_or ns (step_number kind) 0) sizes ∙ size_at (o_new ∷ news) (last ∷ []) (step_number kind) (omega (arith, long, below))

        -- no step holds more than its seats
        pub are_held : AreHeld (λ step. (of_step state.seats.steps step).seats) held
        are_held kind own =
            let last = (admissions_of state) Dereserved in
            let same = held_is last kind own in
            let few = own_few laws state.version state.seats (admissions_of state) person may_come kept.kept.choice by_open o_new.held open_offer (after last) come refl (offered_rows last) kind own in
            omega (arith, same, few)

        module _ (empty : ℕ) (left : empty ≡ left_unfilled state.version (λ step. (of_step state.seats.steps step).seats) (held_at held)) where
          empty_is : (last : List Person) → empty ≡ unfilled state.version state.seats (after last)
          empty_is last =
              left
              ∙ sum_same category_steps (λ row. given state.version (seats_of state.seats row.step).seats (held_at held row.step) row)
              (λ row. given state.version (seats_of state.seats row.step).seats (length (after last row.step)) row)
              (λ row here. ap (λ (n : ℕ). given state.version (seats_of state.seats row.step).seats n row) (held_is last row.step (row_facts row here).own))

          -- one too many at most come to the de-reserved step
          pub few : length tail + count come ≤ empty + 1
          few =
              let last = (admissions_of state) Dereserved in
              let most = few_last laws state.version state.seats (admissions_of state) person may_come kept.kept.choice by_open o_new.held open_offer (after last) come (offered_rows last) in
              let same = empty_is last in
              let size = ap length tail_is in
              omega (arith, most, same, size)

          module _ (out : Option Person) (last : List Person) (best : IsLastOffer state.seats.list empty tail come out last) where
            abbrev offered : IsOffered state.version state.seats (admissions_of state) person (after last)
            offered = record {
              left_by_open = by_open;
              left_by_categories = come;
              left_out = out;
              open_step = open_offer;
              categories = offered_rows last;
              dereserved = subst (λ (people : List Person). IsLastOffer state.seats.list (unfilled state.version state.seats (after last)) (admissions_of state Dereserved) come out people)
                  (sym (ap people_or_none (last_at o_new.held (map (λ (step : StepKept). step.held) news) last (length-map news (λ (step : StepKept). step.held) ∙ long))))
                  (subst (λ (n : ℕ). IsLastOffer state.seats.list n (admissions_of state Dereserved) come out last) (empty_is last)
                  (subst (λ (people : List Person). IsLastOffer state.seats.list empty people come out last) (sym tail_is) best));
            }

            -- the steps hold the choice from those whom they held and the person
            pub chosen : OffersKeepChoices → ChoosesFrom state.version state.seats (person ∷ everybody (admissions_of state)) (after last)
            chosen law = law state.version state.seats (admissions_of state) (after last) person kept.kept.are_seats may_come kept.kept.choice offered

            -- and so each keeps its own
            pub keeps : OffersKeepChoices → (room : ℕ) → size ≤ room → o_new ≡ record o { held = o_new.held }
                → IsStateKept (record { version = state.version; seats = state.seats; held = lists last }) o_new news room
            keeps law room grown stays =
                let was = kept.room in
                record {
                  kept = settled laws state.version state.seats (person ∷ everybody (admissions_of state)) (lists last) kept.kept.is_version kept.kept.are_seats (all_there last) may_come (chosen law);
                  of_open = stays ∙ ap (λ (k : StepKept). let now : StepKept = record k { held = o_new.held } in now) kept.of_open;
                  of_categories = handed_kept state.seats (admissions_of state) (lists last) category_steps news by_open come (at last) handed;
                  room = omega (arith, was, grown);
                }

            -- who is left without a seat
            pub leaves : OffersLeaveOne → LeavesOut (admissions_of state) person out (after last)
            leaves law = law state.version state.seats (admissions_of state) (after last) person kept.kept.are_seats may_come kept.kept.choice offered

            -- the same of the programme as it was at the call
            pub chooses : OffersKeepChoices → ChoosesFrom now.version now.seats (person ∷ everybody (admissions_of now)) (after last)
            chooses law = subst (λ (p : ProgrammeKept). ChoosesFrom p.version p.seats (person ∷ everybody (admissions_of p)) (after last)) is (chosen law)

            -- where the steps held the choice from some people, they hold the choice from those and the person
            pub goes_on : OffersKeepChoices → Resumes → (some all : List Person) → AreDistinct some → AreApplicants now.seats.list all → IsWith person some all → (IsAmong person some → ⊥)
                → ChoosesFrom now.version now.seats some (admissions_of now) → ChoosesFrom now.version now.seats all (after last)
            goes_on law resumes =
                let whole : ProgrammeKept → Type 0 = λ p. (some all : List Person) → AreDistinct some → AreApplicants p.seats.list all → IsWith person some all → (IsAmong person some → ⊥)
                → ChoosesFrom p.version p.seats some (admissions_of p) → ChoosesFrom p.version p.seats all (after last) in
                subst whole is (λ some all distinct all_may joined fresh one.
                resumes state.version state.seats some all person (admissions_of state) (after last) kept.kept.are_seats distinct all_may joined fresh one (chosen law))
