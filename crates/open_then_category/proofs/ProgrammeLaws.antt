-- The laws of the choice of a programme from applicants in merit order, step by step from those of the choice of a
-- step.
use Rattle.std.proofs.Common.{◌≡◌, ◌≤◌, ◌-◌, ◌+◌, ℕ, Bool, true, false, cond, List, [], ◌∷◌, ◌++◌, map, take, length, refl, sym, ap, ◌∙◌, subst, inl, inr, min, arith}
use Rattle.std.specs.Prelude.{Option, Some, None, sum, if◌then◌else◌}
use Rattle.std.proofs.lemmas.List.{length-take}
use Rattle.std.specs.List.{filter}
use Rattle.office_base.specs.CategorySteps.{category_steps, gives_up, own_steps, row_of}
use Rattle.office_base.specs.Lists.{IsAmong, IsSublist}
use Rattle.office_base.specs.Person.{IsList, is_common}
use Rattle.office_base.specs.StepChoice.{AreRanked, IsStep, IsStepChoice}
use Rattle.office_base.specs.declared.category_steps.CategoryStep.{CategoryStep}
use Rattle.office_base.specs.declared.person.ListId.{ListId}
use Rattle.office_base.specs.declared.person.Person.{Person}
use Rattle.office_base.specs.declared.step.StepKind.{StepKind}
use Rattle.office_base.specs.declared.step.StepKind.TheVariants.{Open, Dereserved}
use Rattle.placements.proofs.Sublists.{IsSublist-same, IsSublist-take, length-sublist, sublist_again}
use Rattle.placements.specs.Ranks.{AreAmong, AreDistinct}
use Rattle.placements.proofs.Ranks.{any_among, among_sublist, among_again, among_itself, ranked_sublist, widen}
use Rattle.placements.proofs.Filters.{filter_mono, filter-sublist, among_filter, among_filter_from}
use Rattle.merit_choice.specs.Laws.{HasMorePeople}
use Rattle.seat_matrix.specs.Seats.{IsSeated, is_dereserved, seats_of}
use Rattle.seat_matrix.specs.declared.seats.ProgrammeSeats.{ProgrammeSeats}
use Rattle.seat_matrix.specs.declared.seats.Seating.{Seating}
use Rattle.programme_lists.specs.Programme.{Admissions, is_of, members_by, without, left_over, people_of, step_of, step_with, unfilled, IsProgrammeChoice}
use Rattle.programme_lists.proofs.Table.{IsRow}
use Rattle.programme_lists.proofs.Taken.{among_without, among_without_from}
use Rattle.open_then_category.proofs.Lists.{without_mono, among_or_not, among_best, best_of_some}
use Rattle.open_then_category.specs.Laws.{admitted_in_all}
use Rattle.open_then_category.specs.StepLaws.{AreLawful}
use Rattle.programme_lists.proofs.Parts.{own_among}
use Rattle.open_then_category.proofs.Rows.{among_left_by, each_kind, each_own, each_step, is_left_by, left_by_mono, left_sublist, open_choice, own_back, rest_of, row_choice, steps_of, sum-cons, sum_rises, sum_same, sums_rise}
use Rattle.open_then_category.proofs.RankedWords.{RankedOneProgrammeChoice, RankedProgrammeChoiceExists, RankedFromMore, RankedRefusedFromMore, RankedUnfilledFalls, RankedNoFewerAdmitted, RankedLeavingOutTheRefused}

-- ---- one step

-- a step whose people are some of ranked ones is a step
pub filtered_step : (list : ListId) (seats : Seating) (test : Person → Bool) (people : List Person) → IsList list → IsSeated seats → AreRanked list people
    → IsStep (step_with list seats (filter test people))
filtered_step list seats test people is_list ok ranked = record {
  list = is_list;
  people = ranked_sublist list (filter test people) people ranked (filter-sublist test people);
  protections = ok.protections;
}

-- one step of a programme chooses by a test from some people, and from those and maybe more
pub record Stage (list : ListId) (seats : Seating) (test : Person → Bool) (some more chosen others : List Person) : Type 0 where
  pub is_list : IsList list
  pub are_seats : IsSeated seats
  pub ranked : AreRanked list more
  pub part : IsSublist some more
  pub choice : IsStepChoice (step_with list seats (filter test some)) chosen
  pub more_choice : IsStepChoice (step_with list seats (filter test more)) others

-- the step from the more people
stage_more : (list : ListId) (seats : Seating) (test : Person → Bool) (some more chosen others : List Person) → Stage list seats test some more chosen others
    → HasMorePeople (step_with list seats (filter test some)) (step_with list seats (filter test more))
stage_more list seats test some more chosen others s = record {
  is_step = filtered_step list seats test some s.is_list s.are_seats (ranked_sublist list some more s.ranked s.part);
  more_is_step = filtered_step list seats test more s.is_list s.are_seats s.ranked;
  list = refl;
  seats = refl;
  protections = refl;
  people = among_sublist (filter test some) (filter test more) (filter_mono test test some more s.part (λ x here holds. holds));
}

-- who is chosen by a test is one of the people, and the test says so
pub chosen_passes : (list : ListId) (seats : Seating) (test : Person → Bool) (people chosen : List Person) (person : Person) → IsStepChoice (step_with list seats (filter test people)) chosen
    → IsAmong person chosen → IsAmong person people × (test person ≡ true)
chosen_passes list seats test people chosen person choice here =
    among_filter test person people (any_among (λ one. person ≡ one) chosen (filter test people) (among_sublist chosen (filter test people) choice.may.people) here)

-- the chosen are among the people
pub chosen_among : (list : ListId) (seats : Seating) (test : Person → Bool) (people chosen : List Person) → IsStepChoice (step_with list seats (filter test people)) chosen → AreAmong chosen people
chosen_among list seats test people chosen choice =
    among_again chosen (filter test people) people (among_sublist chosen (filter test people) choice.may.people) (among_sublist (filter test people) people (filter-sublist test people))

-- ---- the steps of a programme

-- The steps before the de-reserved one, from some applicants and from more: the open one, and after it that of each row.
pub record Stages (seats : ProgrammeSeats) (some all : List Person) (before after : Admissions) : Type 0 where
  pub open_step : Stage seats.list (seats_of seats Open) (is_common seats.list) some all (before Open) (after Open)
  pub rest : IsSublist (rest_of some before) (rest_of all after)
  pub category : (row : CategoryStep) → IsRow row
      → Stage seats.list (seats_of seats row.step) (is_of row.category) (rest_of some before) (rest_of all after) (before row.step) (after row.step)

-- ---- those whom the steps left

-- the people of the de-reserved step are a sublist of the applicants
pub last_sublist : (list : ListId) (applicants : List Person) (admissions : Admissions) → IsSublist (people_of list applicants admissions Dereserved) applicants
last_sublist list applicants admissions =
    let left = left_over applicants admissions in
    sublist_again (filter (is_common list) left) left applicants (filter-sublist (is_common list) left) (left_sublist own_steps applicants applicants admissions (IsSublist-same applicants))

-- who is left is one of the applicants, and nobody whom a step with seats of its own admits
pub record IsLeft (applicants : List Person) (admissions : Admissions) (person : Person) : Type 0 where
  pub here : IsAmong person applicants
  pub free : (kind : StepKind) → is_dereserved kind ≡ false → IsAmong person (admissions kind) → ⊥

pub is_left : (person : Person) (applicants : List Person) (admissions : Admissions) → IsAmong person (left_over applicants admissions) → IsLeft applicants admissions person
is_left person applicants admissions here =
    let found = is_left_by own_steps person applicants admissions here in
    record { here = found.0; free = λ kind own. found.1 kind (own_among kind own) }

-- the admitted of the steps with seats of their own are among the applicants
abbrev pub AllAmong : List Person → Admissions → Type 0
AllAmong applicants admissions = (kind : StepKind) → is_dereserved kind ≡ false → AreAmong (admissions kind) applicants

pub all_among : (version : ℕ) (seats : ProgrammeSeats) (applicants : List Person) (admissions : Admissions) → IsProgrammeChoice version seats applicants admissions → AllAmong applicants admissions
all_among version seats applicants admissions c =
    let rest = rest_of applicants admissions in
    each_own (λ kind. AreAmong (admissions kind) applicants)
    (chosen_among seats.list (seats_of seats Open) (is_common seats.list) applicants (admissions Open) (open_choice version seats applicants admissions c))
    (λ row here. among_again (admissions row.step) rest applicants
    (chosen_among seats.list (seats_of seats row.step) (is_of row.category) rest (admissions row.step) (row_choice version seats applicants admissions c row here))
    (among_sublist rest applicants (filter-sublist _ applicants)))

pub among_left : (person : Person) (applicants : List Person) (admissions : Admissions) → AreDistinct applicants → AllAmong applicants admissions
    → IsLeft applicants admissions person → IsAmong person (left_over applicants admissions)
among_left person applicants admissions distinct within l =
    among_left_by own_steps person applicants applicants admissions distinct (among_itself applicants) (λ kind here. within kind (own_back kind here)) l.here
    (λ kind here. l.free kind (own_back kind here))

-- whom the de-reserved step admits is one of its people
pub last_among : (version : ℕ) (seats : ProgrammeSeats) (applicants : List Person) (admissions : Admissions) (person : Person) → IsProgrammeChoice version seats applicants admissions
    → IsAmong person (admissions Dereserved) → IsAmong person (left_over applicants admissions) × (is_common seats.list person ≡ true)
last_among version seats applicants admissions person choice here =
    let whole = people_of seats.list applicants admissions Dereserved in
    let n = unfilled version seats admissions in
    let best : IsAmong person (take n whole) = subst (IsAmong person) choice.dereserved here in
    among_filter (is_common seats.list) person (left_over applicants admissions) (widen person (take n whole) whole (among_sublist (take n whole) whole (IsSublist-take n whole)) best)

-- ---- the seats of the de-reserved step

-- what a row gives up, where it has that many seats and admits that many
abbrev pub given : ℕ → ℕ → ℕ → CategoryStep → ℕ
given version seats held row = if gives_up row version then seats - held else 0

-- where a row admits more, it gives up fewer
given_falls : (b : Bool) (seats few more : ℕ) → few ≤ more → cond b (seats - more) 0 ≤ cond b (seats - few) 0
given_falls true seats few more e = omega arith
given_falls false seats few more e = omega arith

-- those admitted rise by no less than the seats that are given up fall
filled_rises : (b : Bool) (seats few more : ℕ) → few ≤ more → more ≤ seats → few + cond b (seats - few) 0 ≤ more + cond b (seats - more) 0
filled_rises true seats few more e most = omega arith
filled_rises false seats few more e most = omega arith

-- all who are admitted: by the open step, by the rows' steps, and by the de-reserved one
pub in_all : (a : Admissions) → admitted_in_all a ≡ length (a Open) + sum (map (λ (row : CategoryStep). length (a row.step)) category_steps) + length (a Dereserved)
in_all a =
    let first = sum-cons (length (a Open)) (map (λ kind. length (a kind)) (steps_of category_steps ++ Dereserved ∷ [])) in
    let rest = by category_steps in
    omega (arith, first, rest)
  where
    by : (rows : List CategoryStep) → sum (map (λ kind. length (a kind)) (steps_of rows ++ Dereserved ∷ [])) ≡ sum (map (λ (row : CategoryStep). length (a row.step)) rows) + length (a Dereserved)
    by [] = let last = sum-cons (length (a Dereserved)) [] in omega (arith, last)
    by (row ∷ rows) =
        let later = by rows in
        let one = sum-cons (length (a row.step)) (map (λ kind. length (a kind)) (steps_of rows ++ Dereserved ∷ [])) in
        let two = sum-cons (length (a row.step)) (map (λ (r : CategoryStep). length (a r.step)) rows) in
        omega (arith, later, one, two)

-- sums of persons rise step by step
persons_rise : (a b c d e f p q m n x y : ℕ) → x ≡ min m p → y ≡ min n q → a ≤ d → b + m ≤ e + n → b ≤ e → n ≤ m → p ≤ q → a + b + x ≤ d + e + y
persons_rise a b c d e f p q m n x y one two first rise more falls people = omega arith

-- the open step admits these, each of the others those, and the de-reserved one the last
abbrev admitting : List Person → Admissions → List Person → Admissions
admitting first members last Open = first
admitting first members last Dereserved = last
admitting first members last kind = members kind

module _ (laws : AreLawful) where
  -- who is refused from some people is refused from more
  pub stage_refused : (list : ListId) (seats : Seating) (test : Person → Bool) (some more chosen others : List Person) → Stage list seats test some more chosen others
      → (person : Person) → IsAmong person some → (IsAmong person chosen → ⊥) → IsAmong person others → ⊥
  stage_refused list seats test some more chosen others s person here refused there =
      let passes = chosen_passes list seats test more others person s.more_choice there in
      laws.refused_stays_refused (step_with list seats (filter test some)) (step_with list seats (filter test more)) chosen others person
      (stage_more list seats test some more chosen others s) s.choice s.more_choice (among_filter_from test person some here passes.1) refused there

  -- no fewer are chosen from more
  stage_fewer : (list : ListId) (seats : Seating) (test : Person → Bool) (some more chosen others : List Person) → Stage list seats test some more chosen others → length chosen ≤ length others
  stage_fewer list seats test some more chosen others s =
      laws.no_fewer (step_with list seats (filter test some)) (step_with list seats (filter test more)) chosen others (stage_more list seats test some more chosen others s) s.choice s.more_choice

  -- without some people who are refused the chosen are the same
  stage_same : (list : ListId) (seats : Seating) (test : Person → Bool) (some more chosen others : List Person) → Stage list seats test some more chosen others
      → ((person : Person) → IsAmong person more → (IsAmong person some → ⊥) → IsAmong person others → ⊥) → chosen ≡ others
  stage_same list seats test some more chosen others s refused =
      laws.leaving_out_refused (step_with list seats (filter test some)) (step_with list seats (filter test more)) chosen others
      (stage_more list seats test some more chosen others s) s.choice s.more_choice (λ person here gone there.
      let passes = among_filter test person more here in
      refused person passes.0 (λ in_some. gone (among_filter_from test person some in_some passes.1)) there)

  -- those who are left of some people are left of more
  stage_left : (list : ListId) (seats : Seating) (test : Person → Bool) (some more chosen others : List Person) → Stage list seats test some more chosen others
      → IsSublist (without some chosen) (without more others)
  stage_left list seats test some more chosen others s =
      without_mono more some more chosen others s.ranked.distinct s.part (among_itself more) (chosen_among list seats test more others s.more_choice)
      (stage_refused list seats test some more chosen others s)

  stages : (version : ℕ) (seats : ProgrammeSeats) (some all : List Person) (before after : Admissions) → RankedFromMore version seats some all before after → Stages seats some all before after
  stages version seats some all before after h =
      let first : Stage seats.list (seats_of seats Open) (is_common seats.list) some all (before Open) (after Open) = record {
        is_list = h.are_seats.list;
        are_seats = h.are_seats.steps Open;
        ranked = h.ranked;
        part = h.part;
        choice = open_choice version seats some before h.choice;
        more_choice = open_choice version seats all after h.more_choice;
      } in
      let rest : IsSublist (rest_of some before) (rest_of all after) =
      stage_left seats.list (seats_of seats Open) (is_common seats.list) some all (before Open) (after Open) first in
      record {
        open_step = first;
        rest = rest;
        category = λ row here. record {
          is_list = h.are_seats.list;
          are_seats = h.are_seats.steps row.step;
          ranked = ranked_sublist seats.list (rest_of all after) all h.ranked (filter-sublist _ all);
          part = rest;
          choice = row_choice version seats some before h.choice row here;
          more_choice = row_choice version seats all after h.more_choice row here;
        };
      }

  -- a row's step refuses from more whom it refuses from some
  row_refused : (seats : ProgrammeSeats) (some all : List Person) (before after : Admissions) → Stages seats some all before after → (row : CategoryStep) → IsRow row
      → (person : Person) → IsAmong person (rest_of some before) → (IsAmong person (before row.step) → ⊥) → IsAmong person (after row.step) → ⊥
  row_refused seats some all before after s row here =
      stage_refused seats.list (seats_of seats row.step) (is_of row.category) (rest_of some before) (rest_of all after) (before row.step) (after row.step) (s.category row here)

  -- and admits no fewer
  row_fewer : (seats : ProgrammeSeats) (some all : List Person) (before after : Admissions) → Stages seats some all before after → (row : CategoryStep) → IsRow row
      → length (before row.step) ≤ length (after row.step)
  row_fewer seats some all before after s row here =
      stage_fewer seats.list (seats_of seats row.step) (is_of row.category) (rest_of some before) (rest_of all after) (before row.step) (after row.step) (s.category row here)

  left_mono : (seats : ProgrammeSeats) (some all : List Person) (before after : Admissions) → Stages seats some all before after → IsSublist (left_over some before) (left_over all after)
  left_mono seats some all before after s =
      let less = rest_of some before in
      let more = rest_of all after in
      left_by_mono (steps_of category_steps) more less more before after (ranked_sublist seats.list more all s.open_step.ranked (filter-sublist _ all)).distinct s.rest (among_itself more)
      (each_step (λ kind. AreAmong (after kind) more) category_steps
      (λ row here. chosen_among seats.list (seats_of seats row.step) (is_of row.category) more (after row.step) (s.category row here).more_choice))
      (each_step (λ kind. (person : Person) → IsAmong person less → (IsAmong person (before kind) → ⊥) → IsAmong person (after kind) → ⊥) category_steps (row_refused seats some all before after s))

  -- so do the people of the de-reserved step
  last_mono : (seats : ProgrammeSeats) (some all : List Person) (before after : Admissions) → Stages seats some all before after
      → IsSublist (people_of seats.list some before Dereserved) (people_of seats.list all after Dereserved)
  last_mono seats some all before after s =
      filter_mono (is_common seats.list) (is_common seats.list) (left_over some before) (left_over all after) (left_mono seats some all before after s) (λ x found holds. holds)

  pub unfilled_falls : RankedUnfilledFalls
  unfilled_falls version seats some all before after h =
      let s = stages version seats some all before after h in
      sum_rises category_steps (λ row. given version (seats_of seats row.step).seats (length (after row.step)) row) (λ row. given version (seats_of seats row.step).seats (length (before row.step)) row)
      (λ row here. given_falls (gives_up row version) (seats_of seats row.step).seats (length (before row.step)) (length (after row.step)) (row_fewer seats some all before after s row here))

  -- who is left of some applicants, with a common place, and is refused, is refused by the de-reserved step from more
  last_refused : (version : ℕ) (seats : ProgrammeSeats) (some all : List Person) (before after : Admissions) (person : Person) → RankedFromMore version seats some all before after
      → IsAmong person (left_over some before) → (IsAmong person (before Dereserved) → ⊥) → IsAmong person (after Dereserved) → ⊥
  last_refused version seats some all before after person h here refused there =
      let s = stages version seats some all before after h in
      let less = people_of seats.list some before Dereserved in
      let more = people_of seats.list all after Dereserved in
      let distinct : AreDistinct more = (ranked_sublist seats.list more all h.ranked (last_sublist seats.list all after)).distinct in
      let best : IsAmong person (take (unfilled version seats after) more) = subst (IsAmong person) h.more_choice.dereserved there in
      let found : IsAmong person less = among_filter_from (is_common seats.list) person (left_over some before) here (last_among version seats all after person h.more_choice there).1 in
      refused (subst (IsAmong person) (sym h.choice.dereserved)
      (among_best person (unfilled version seats after) (unfilled version seats before) less more distinct (last_mono seats some all before after s) (unfilled_falls version seats some all before after h) found best))

  pub refused_from_more : RankedRefusedFromMore
  refused_from_more version seats some all before after person h here refused =
      let s = stages version seats some all before after h in
      let some_ranked = ranked_sublist seats.list some all h.ranked h.part in
      let within = all_among version seats some before h.choice in
      let rest : IsAmong person (rest_of some before) = among_without_from some some (before Open) person some_ranked.distinct (among_itself some) (within Open refl) here (refused Open) in
      let left : IsAmong person (left_over some before) = among_left person some before some_ranked.distinct within (record { here = here; free = λ kind own. refused kind }) in
      each_kind (λ kind. IsAmong person (after kind) → ⊥)
      (stage_refused seats.list (seats_of seats Open) (is_common seats.list) some all (before Open) (after Open) s.open_step person here (refused Open))
      (λ row found. row_refused seats some all before after s row found person rest (refused row.step))
      (last_refused version seats some all before after person h left (refused Dereserved))

  pub no_fewer_admitted : RankedNoFewerAdmitted
  no_fewer_admitted version seats some all before after h =
      let s = stages version seats some all before after h in
      let less = people_of seats.list some before Dereserved in
      let more = people_of seats.list all after Dereserved in
      let held = λ (a : Admissions) (row : CategoryStep). length (a row.step) in
      let gives = λ (a : Admissions) (row : CategoryStep). given version (seats_of seats row.step).seats (length (a row.step)) row in
      let people = length-sublist less more (last_mono seats some all before after s) in
      let few = ap length h.choice.dereserved ∙ length-take (unfilled version seats before) less in
      let many = ap length h.more_choice.dereserved ∙ length-take (unfilled version seats after) more in
      let first = stage_fewer seats.list (seats_of seats Open) (is_common seats.list) some all (before Open) (after Open) s.open_step in
      let rises = sums_rise category_steps (held before) (gives before) (held after) (gives after) (λ row here.
      filled_rises (gives_up row version) (seats_of seats row.step).seats (length (before row.step)) (length (after row.step)) (row_fewer seats some all before after s row here)
      (row_choice version seats all after h.more_choice row here).may.seats) in
      let members = sum_rises category_steps (held before) (held after) (row_fewer seats some all before after s) in
      let sizes = persons_rise (length (before Open)) (sum (map (held before) category_steps)) 0 (length (after Open)) (sum (map (held after) category_steps)) 0 (length less) (length more)
      (unfilled version seats before) (unfilled version seats after) (length (before Dereserved)) (length (after Dereserved)) few many first rises members (unfilled_falls version seats some all before after h) people in
      subst (λ n. n ≤ admitted_in_all after) (sym (in_all before)) (subst (λ n. length (before Open) + sum (map (held before) category_steps) + length (before Dereserved) ≤ n) (sym (in_all after)) sizes)

  pub leaving_out_the_refused : RankedLeavingOutTheRefused
  leaving_out_the_refused version seats some all before after h refused =
      let s = stages version seats some all before after h in
      let some_distinct = (ranked_sublist seats.list some all h.ranked h.part).distinct in
      let within = all_among version seats some before h.choice in
      let first : before Open ≡ after Open =
      stage_same seats.list (seats_of seats Open) (is_common seats.list) some all (before Open) (after Open) s.open_step (λ person here gone. refused person here gone Open) in
      -- of a category, those whom the open step left and the more people add are refused
      let category = λ (row : CategoryStep) (found : IsRow row).
      let same : before row.step ≡ after row.step =
      stage_same seats.list (seats_of seats row.step) (is_of row.category) (rest_of some before) (rest_of all after) (before row.step) (after row.step) (s.category row found) (λ person here gone there.
      let left = among_without person all (after Open) here in
      refused person left.0 (λ in_some. gone (among_without_from some some (before Open) person some_distinct (among_itself some) (within Open refl) in_some
      (λ taken. left.1 (subst (IsAmong person) first taken)))) row.step there) in same in
      let own = each_own (λ kind. before kind ≡ after kind) first category in
      let less = people_of seats.list some before Dereserved in
      let more = people_of seats.list all after Dereserved in
      let n = unfilled version seats after in
      let distinct : AreDistinct more = (ranked_sublist seats.list more all h.ranked (last_sublist seats.list all after)).distinct in
      let best : take n less ≡ take n more = best_of_some n less more distinct (last_mono seats some all before after s) (λ person there.
      let admitted : IsAmong person (after Dereserved) = subst (IsAmong person) (sym h.more_choice.dereserved) there in
      let passes = last_among version seats all after person h.more_choice admitted in
      let l = is_left person all after passes.0 in
      let here : IsAmong person some = elim (among_or_not all some person h.ranked.distinct (among_sublist some all h.part) l.here) [
        | inl found ↦ found
        | inr gone ↦ absurd (refused person l.here gone Dereserved admitted)
      ] in
      among_filter_from (is_common seats.list) person (left_over some before)
      (among_left person some before some_distinct within (record { here = here; free = λ kind is_own found. l.free kind is_own (subst (IsAmong person) (own kind is_own) found) })) passes.1) in
      let seats_same : unfilled version seats before ≡ n =
      sum_same category_steps (λ row. given version (seats_of seats row.step).seats (length (before row.step)) row) (λ row. given version (seats_of seats row.step).seats (length (after row.step)) row)
      (λ row here. ap (λ (people : List Person). given version (seats_of seats row.step).seats (length people) row) (category row here)) in
      let last : before Dereserved ≡ after Dereserved =
      h.choice.dereserved ∙ ap (λ (m : ℕ). take m less) seats_same ∙ best ∙ sym h.more_choice.dereserved in
      let same = each_kind (λ kind. before kind ≡ after kind) first category last in
      λ i kind. same kind i

  pub one_programme_choice : RankedOneProgrammeChoice
  one_programme_choice version seats applicants first second ok ranked one other =
      leaving_out_the_refused version seats applicants applicants first second
      (record { are_seats = ok; ranked = ranked; part = IsSublist-same applicants; choice = one; more_choice = other })
      (λ person here gone. absurd (gone here))

  -- a step that chooses by a test from ranked people has a choice
  step_choice : (list : ListId) (seats : Seating) (test : Person → Bool) (people : List Person) → IsList list → IsSeated seats → AreRanked list people
      → (chosen : List Person) × IsStepChoice (step_with list seats (filter test people)) chosen
  step_choice list seats test people is_list ok ranked = laws.choice_exists (step_with list seats (filter test people)) (filtered_step list seats test people is_list ok ranked)

  pub programme_choice_exists : RankedProgrammeChoiceExists
  programme_choice_exists version seats applicants ok ranked = (whole, record { own = own; dereserved = refl {a = best} })
    where
      first : (chosen : List Person) × IsStepChoice (step_with seats.list (seats_of seats Open) (filter (is_common seats.list) applicants)) chosen
      first = step_choice seats.list (seats_of seats Open) (is_common seats.list) applicants ok.list (ok.steps Open) ranked

      rest : List Person
      rest = without applicants first.0

      -- of a step that is not the open one
      members : (kind : StepKind) → (chosen : List Person) × IsStepChoice (step_with seats.list (seats_of seats kind) (members_by (row_of kind) rest)) chosen
      members kind = by (row_of kind)
        where
          by : (row : Option CategoryStep) → (chosen : List Person) × IsStepChoice (step_with seats.list (seats_of seats kind) (members_by row rest)) chosen
          by None = step_choice seats.list (seats_of seats kind) (λ person. false) [] ok.list (ok.steps kind) (record { traits = tt; placed = tt; in_order = tt; distinct = tt })
          by (Some row) = step_choice seats.list (seats_of seats kind) (is_of row.category) rest ok.list (ok.steps kind) (ranked_sublist seats.list rest applicants ranked (filter-sublist _ applicants))

      given_with : List Person → Admissions
      given_with last = admitting first.0 (λ kind. (members kind).0) last

      best : List Person
      best = take (unfilled version seats (given_with [])) (people_of seats.list applicants (given_with []) Dereserved)

      whole : Admissions
      whole = given_with best

      own : (kind : StepKind) → is_dereserved kind ≡ false → IsStepChoice (step_of seats applicants whole kind) (whole kind)
      own Open is_own = first.1
      own Dereserved is_own = absurd (cc is_own)
      own kind is_own = (members kind).1
