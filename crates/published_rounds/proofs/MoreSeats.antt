-- With more seats a programme admits from the same people at most as many more as there are seats more.
use Rattle.std.proofs.Common.{◌≡◌, ◌≤◌, ◌+◌, ◌-◌, inl, inr, ℕ, Bool, true, false, List, [], ◌∷◌, Option, Some, None, length, map, not, arith, refl, ap, ◌∙◌, if◌then◌else◌}
use Rattle.std.specs.Prelude.{sum_by}
use Rattle.std.specs.List.{filter}
use Rattle.std.proofs.lemmas.List.{length-take}
use Rattle.std.proofs.lemmas.List.Sums.{sum-map}
use Rattle.office_base.specs.CategorySteps.{category_steps, gives_up, own_steps, row_of}
use Rattle.office_base.specs.Lists.{IsAmong, IsSublist}
use Rattle.office_base.specs.Person.{is_common}
use Rattle.office_base.specs.StepChoice.{AreRanked, IsStep, IsStepChoice}
use Rattle.office_base.specs.declared.category_steps.CategoryStep.{CategoryStep}
use Rattle.office_base.specs.declared.person.Person.{Person}
use Rattle.office_base.specs.declared.step.StepKind.{StepKind}
use Rattle.office_base.specs.declared.step.StepKind.TheVariants.{Open, Dereserved}
use Rattle.placements.proofs.Filters.{among_filter, among_filter_from, filter-sublist, filter_mono}
use Rattle.placements.proofs.Ranks.{among_sublist, ranked_sublist, widen}
use Rattle.placements.proofs.Sublists.{IsSublist-same, length-sublist, sublist_again}
use Rattle.merit_choice.specs.Laws.{ChoiceExists, ChoiceSize, MoreSeats, RefusedStaysRefused}
use Rattle.merit_choice.proofs.Needed.{decides, nobody_of}
use Rattle.seat_matrix.specs.Seats.{AreProgrammeSeats, HaveMoreSeats, is_dereserved, seats_of}
use Rattle.seat_matrix.specs.declared.seats.ProgrammeSeats.{ProgrammeSeats}
use Rattle.seat_matrix.specs.declared.seats.Seatings.{Seatings}
use Rattle.programme_lists.specs.Programme.{Admissions, IsProgrammeChoice, is_of, is_taken, left_by, left_over, members_by, people_of, step_with, unfilled, without}
use Rattle.programme_lists.proofs.Table.{IsRow, row_facts}
use Rattle.programme_lists.proofs.Taken.{among_without, taken_among, taken_from}
use Rattle.open_then_category.specs.Laws.{admitted_in_all}
use Rattle.programme_lists.proofs.Parts.{people_part}
use Rattle.office_moves.proofs.Sums.{rows_less, rows_plus}

-- who is not taken by more is not taken by fewer
untaken : (b c : Bool) → (b ≡ true → c ≡ true) → not c ≡ true → not b ≡ true
untaken true true h e = absurd (cc)
untaken true false h e = absurd (let f = h refl in cc)
untaken false c h e = refl

module _ (more_seats : MoreSeats) (refused : RefusedStaysRefused) (exists : ChoiceExists) (sized : ChoiceSize) (version : ℕ) (seats : ProgrammeSeats) (steps : Seatings) (all : List Person)
    (a b : Admissions) (ok : AreProgrammeSeats seats) (ok' : AreProgrammeSeats (record { list = seats.list; steps = steps }))
    (have : HaveMoreSeats seats (record { list = seats.list; steps = steps })) (ranked : AreRanked seats.list all) (choice : IsProgrammeChoice version seats all a)
    (choice' : IsProgrammeChoice version (record { list = seats.list; steps = steps }) all b) where
  abbrev more : ProgrammeSeats
  more = record { list = seats.list; steps = steps }

  is_step : (kind : StepKind) (people : List Person) → IsSublist people all → IsStep (step_with seats.list (seats_of seats kind) people)
  is_step kind people part = record { list = ok.list; people = ranked_sublist seats.list people all ranked part; protections = (ok.steps kind).protections }

  is_more_step : (kind : StepKind) (people : List Person) → IsSublist people all → IsStep (step_with seats.list (seats_of more kind) people)
  is_more_step kind people part = record { list = ok.list; people = ranked_sublist seats.list people all ranked part; protections = (ok'.steps kind).protections }

  -- who is chosen is chosen from fewer people for more seats
  still_chosen : (kind : StepKind) (people fewer chosen others : List Person) (x : Person) → IsSublist people all → IsSublist fewer people
      → IsStepChoice (step_with seats.list (seats_of seats kind) people) chosen → IsStepChoice (step_with seats.list (seats_of more kind) fewer) others
      → IsAmong x fewer → IsAmong x chosen → IsAmong x others
  still_chosen kind people fewer chosen others x part less first second there here =
      let part' = sublist_again fewer people all less part in
      let middle = exists (step_with seats.list (seats_of seats kind) fewer) (is_step kind fewer part') in
      let within = among_sublist middle.0 fewer middle.1.may.people in
      let distinct = (ranked_sublist seats.list fewer all ranked part').distinct in
      let kept : IsAmong x middle.0 = elim (decides x middle.0 fewer distinct within there) [
        | inl found ↦ found
        | inr apart ↦ absurd (refused (step_with seats.list (seats_of seats kind) fewer) (step_with seats.list (seats_of seats kind) people) middle.0 chosen x (record {
          is_step = is_step kind fewer part';
          more_is_step = is_step kind people part;
          list = refl;
          seats = refl;
          protections = refl;
          people = among_sublist fewer people less;
        }) middle.1 first there (nobody_of x middle.0 apart) here)
      ] in
      more_seats (step_with seats.list (seats_of seats kind) fewer) (step_with seats.list (seats_of more kind) fewer) middle.0 others x (record {
        is_step = is_step kind fewer part';
        more_is_step = is_more_step kind fewer part';
        list = refl;
        seats = have.seats kind;
        protections = have.protections kind;
        people = refl;
      }) middle.1 second kept

  a_part : (kind : StepKind) → is_dereserved kind ≡ false → IsSublist (a kind) all
  a_part kind own = sublist_again (a kind) _ all (choice.own kind own).may.people (people_part seats.list all a kind)

  open_kept : (x : Person) → IsAmong x (a Open) → IsAmong x (b Open)
  open_kept x here =
      still_chosen Open (filter (is_common seats.list) all) (filter (is_common seats.list) all) (a Open) (b Open) x (filter-sublist _ all) (IsSublist-same _) (choice.own Open refl) (choice'.own Open refl)
      (widen x (a Open) _ (among_sublist (a Open) _ (choice.own Open refl).may.people) here) here

  rest_part : IsSublist (without all (b Open)) (without all (a Open))
  rest_part = filter_mono (λ x. not (is_taken (b Open) x)) (λ x. not (is_taken (a Open) x)) all all (IsSublist-same all)
      (λ x there e. untaken (is_taken (a Open) x) (is_taken (b Open) x)
      (λ taken. taken_from x (b Open) (open_kept x (taken_among all (a Open) x ranked.distinct (among_sublist (a Open) all (a_part Open refl)) there taken))) e)

  -- with more seats no more people stand for a step
  members_part : (row : Option CategoryStep) → IsSublist (members_by row (without all (b Open))) (members_by row (without all (a Open)))
  members_part None = IsSublist-same []
  members_part (Some row) = filter_mono (is_of row.category) (is_of row.category) (without all (b Open)) (without all (a Open)) rest_part (λ x there e. e)

  step_part : (kind : StepKind) → is_dereserved kind ≡ false → IsSublist (people_of seats.list all b kind) (people_of seats.list all a kind)
  step_part Open own = IsSublist-same _
  step_part Dereserved own = absurd (cc)
  step_part kind own = members_part (row_of kind)

  -- and who stood for a category's step still does, if the open step leaves them
  member_stands : (row : Option CategoryStep) (x : Person) → IsAmong x (without all (b Open)) → IsAmong x (members_by row (without all (a Open))) → IsAmong x (members_by row (without all (b Open)))
  member_stands None x left stood = absurd stood
  member_stands (Some row) x left stood = among_filter_from (is_of row.category) x (without all (b Open)) left (among_filter (is_of row.category) x (without all (a Open)) stood).1

  still_stands : (kind : StepKind) → is_dereserved kind ≡ false → (kind ≡ Open → ⊥) → (x : Person) → IsAmong x (without all (b Open)) → IsAmong x (people_of seats.list all a kind)
      → IsAmong x (people_of seats.list all b kind)
  still_stands Open own category x left stood = absurd (category refl)
  still_stands Dereserved own category x left stood = absurd (cc)
  still_stands kind own category x left stood = member_stands (row_of kind) x left stood

  -- a member whom the open seats leave keeps the category's seat
  member_kept : (kind : StepKind) → is_dereserved kind ≡ false → (kind ≡ Open → ⊥) → (x : Person) → IsAmong x (without all (b Open)) → is_taken (a kind) x ≡ true → is_taken (b kind) x ≡ true
  member_kept kind own category x left e =
      let there = (among_without x all (b Open) left).0 in
      let here = taken_among all (a kind) x ranked.distinct (among_sublist (a kind) all (a_part kind own)) there e in
      let stood = widen x (a kind) _ (among_sublist (a kind) _ (choice.own kind own).may.people) here in
      taken_from x (b kind) (still_chosen kind (people_of seats.list all a kind) (people_of seats.list all b kind) (a kind) (b kind) x (people_part seats.list all a kind)
      (step_part kind own) (choice.own kind own) (choice'.own kind own) (still_stands kind own category x left stood) here)

  -- the ones of some people whom the steps of categories leave are those whom they left before
  all_kept : (rows : List CategoryStep) (people fewer : List Person) → ((row : CategoryStep) → IsAmong row rows → IsRow row) → IsSublist fewer people → IsSublist fewer (without all (b Open))
      → IsSublist (left_by (map (λ row. row.step) rows) fewer b) (left_by (map (λ row. row.step) rows) people a)
  all_kept [] people fewer are less from = less
  all_kept (row ∷ rows) people fewer are less from =
      let facts = row_facts row (are row (inl refl)) in
      let left = filter_mono (λ x. not (is_taken (b row.step) x)) (λ x. not (is_taken (a row.step) x)) fewer people less
      (λ x there e. untaken (is_taken (a row.step) x) (is_taken (b row.step) x) (member_kept row.step facts.own facts.not_open x (widen x fewer _ (among_sublist fewer _ from) there)) e) in
      all_kept rows (without people (a row.step)) (without fewer (b row.step)) (λ other there. are other (inr there)) left (sublist_again _ fewer _ (filter-sublist _ fewer) from)

  all_left : IsSublist (left_over all b) (left_over all a)
  all_left = all_kept category_steps (without all (a Open)) (without all (b Open)) (λ row there. there) rest_part (IsSublist-same _)

  -- ---- numbers

  abbrev raise : StepKind → ℕ
  raise kind = (seats_of more kind).seats - (seats_of seats kind).seats

  raise_is : (kind : StepKind) → (seats_of more kind).seats ≡ (seats_of seats kind).seats + raise kind
  raise_is kind = let le = have.seats kind in omega (arith, le)

  few_more : (kind : StepKind) (people fewer chosen others : List Person) → IsSublist people all → IsSublist fewer people
      → IsStepChoice (step_with seats.list (seats_of seats kind) people) chosen → IsStepChoice (step_with seats.list (seats_of more kind) fewer) others
      → length others ≤ length chosen + raise kind
  few_more kind people fewer chosen others part less first second =
      let one = sized (step_with seats.list (seats_of seats kind) people) chosen (is_step kind people part) first in
      let two = sized (step_with seats.list (seats_of more kind) fewer) others (is_more_step kind fewer (sublist_again fewer people all less part)) second in
      let size = length-sublist fewer people less in
      let r = raise_is kind in
      omega (arith, one, two, size, r)

  few_of : (kind : StepKind) → is_dereserved kind ≡ false → length (b kind) ≤ length (a kind) + raise kind
  few_of kind own =
      few_more kind (people_of seats.list all a kind) (people_of seats.list all b kind) (a kind) (b kind) (people_part seats.list all a kind) (step_part kind own) (choice.own kind own) (choice'.own kind own)

  -- those admitted under the steps of categories, and all seats of the categories whose empty ones are given away
  few_rows : sum_by (λ row. length (b row.step)) category_steps ≤ sum_by (λ row. length (a row.step)) category_steps + sum_by (λ row. raise row.step) category_steps
  few_rows =
      let plus = rows_plus (λ row. length (a row.step)) (λ row. raise row.step) category_steps in
      let less = rows_less (λ row. length (b row.step)) (λ row. length (a row.step) + raise row.step) category_steps (λ row there. few_of row.step (row_facts row there).own) in
      omega (arith, plus, less)

  few_seats : sum_by (λ row. length (b row.step)) category_steps + unfilled version more b
      ≤ sum_by (λ row. length (a row.step)) category_steps + unfilled version seats a + sum_by (λ row. raise row.step) category_steps
  few_seats =
      let m : CategoryStep → ℕ = λ row. length (b row.step) in
      let n : CategoryStep → ℕ = λ row. length (a row.step) in
      let r : CategoryStep → ℕ = λ row. raise row.step in
      let u : CategoryStep → ℕ = λ row. if gives_up row version then (seats_of more row.step).seats - m row else 0 in
      let v : CategoryStep → ℕ = λ row. if gives_up row version then (seats_of seats row.step).seats - n row else 0 in
      let less = rows_less (λ row. m row + u row) (λ row. (n row + v row) + r row) category_steps (λ row there.
      let own = (row_facts row there).own in
      by (gives_up row version) (m row) (n row) (r row) (seats_of seats row.step).seats (seats_of more row.step).seats (few_of row.step own) (raise_is row.step)
      (choice.own row.step own).may.seats (choice'.own row.step own).may.seats) in
      omega (arith, less, rows_plus m u category_steps, rows_plus n v category_steps, rows_plus (λ row. n row + v row) r category_steps, sum-map u category_steps, sum-map v category_steps)
    where
      by : (g : Bool) (m n r s t : ℕ) → m ≤ n + r → t ≡ s + r → n ≤ s → m ≤ t → m + (if g then t - m else 0) ≤ (n + (if g then s - n else 0)) + r
      by true m n r s t few more first second = omega (arith, few, more, first, second)
      by false m n r s t few more first second = omega (arith, few)

  -- where D is short of people it admits no more; where it is short of seats, all seats of its categories are counted
  pub at_most_raised : admitted_in_all b ≤ admitted_in_all a + sum_by raise own_steps
  at_most_raised =
      let people = people_of seats.list all a Dereserved in
      let people' = people_of seats.list all b Dereserved in
      let less = length-sublist people' people (filter_mono (is_common seats.list) (is_common seats.list) (left_over all b) (left_over all a) all_left (λ x there e. e)) in
      let m = ap (λ (l : List Person). length l) choice.dereserved ∙ length-take (unfilled version seats a) people in
      let m' = ap (λ (l : List Person). length l) choice'.dereserved ∙ length-take (unfilled version more b) people' in
      omega (arith, less, m, m', few_of Open refl, few_rows, few_seats)
