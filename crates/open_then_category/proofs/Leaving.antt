-- At most one is left without a seat by an offer to a programme.
use Rattle.std.proofs.Common.{◌≡◌, ◌≤◌, ◌-◌, ◌+◌, ◌⊎◌, ℕ, zero, suc, Bool, true, false, cond, List, [], ◌∷◌, ◌++◌, map, take, length, length-append, refl, sym, ap, ◌∙◌, subst, inl, inr, arith}
use Rattle.std.specs.Prelude.{Option, Some, None, MatchOption, slice_get, sum}
use Rattle.std.proofs.lemmas.List.{length-take}
use Rattle.office_base.specs.CategorySteps.{category_steps, gives_up}
use Rattle.office_base.specs.Lists.{AnyByRecursion, IsAmong}
use Rattle.office_base.specs.Merit.{in_merit, with_person}
use Rattle.office_base.specs.Person.{is_common}
use Rattle.office_base.specs.declared.category_steps.CategoryStep.{CategoryStep}
use Rattle.office_base.specs.declared.person.ListId.{ListId}
use Rattle.office_base.specs.declared.person.Person.{Person}
use Rattle.office_base.specs.declared.step.StepKind.{StepKind}
use Rattle.office_base.specs.declared.step.StepKind.TheVariants.{Open, Dereserved}
use Rattle.placements.proofs.Sublists.{length-sublist}
use Rattle.placements.specs.Ranks.{AreAmong, AreDistinct}
use Rattle.placements.proofs.Ranks.{among_again, among_back, among_front, any_append, are_among, widen}
use Rattle.placements.proofs.Without.{length_without}
use Rattle.placements.proofs.Merit.{length_with}
use Rattle.seat_matrix.specs.Seats.{seats_of}
use Rattle.seat_matrix.specs.declared.seats.ProgrammeSeats.{ProgrammeSeats}
use Rattle.seat_matrix.specs.declared.seats.Seating.{Seating}
use Rattle.programme_lists.specs.Chosen.{AreApplicants, all_by, everybody}
use Rattle.programme_lists.specs.Programme.{Admissions, IsProgrammeChoice, is_of, people_of, unfilled, without}
use Rattle.open_then_category.specs.State.{AreOffered, HoldsAllBut, IsLastOffer, IsOffer, IsOffered, LeavesOut, OffersLeaveOne, joining}
use Rattle.open_then_category.specs.StepLaws.{AreLawful}
use Rattle.open_then_category.proofs.Once.{ranked_once}
use Rattle.open_then_category.proofs.Passing.{Joins, Passes, Stays, Takes, course, entered, joining_some, last_joins, offers_keep_choices, row_joins, row_passes, starts, step_at}
use Rattle.open_then_category.proofs.ProgrammeLaws.{given}
use Rattle.open_then_category.proofs.Rows.{AreThere, are_there, rest_of, row_choice, steps_of, sum-cons, there_next}

-- ---- lengths

-- one where somebody comes
abbrev pub count : Option Person → ℕ
count None = 0
count (Some person) = 1

pub has_number : (person : Person) (people : List Person) → IsAmong person people → AnyByRecursion (λ (member : Person). member.id ≡ person.id) people
has_number person [] there = absurd there
has_number person (other ∷ people) there = elim there [ inl here ↦ inl (ap (λ (p : Person). p.id) (sym here)) | inr later ↦ inr (has_number person people later) ]

handed_size : (list : ListId) (before : List Person) (person : Person) (leaver : Option Person) (after : List Person) → HoldsAllBut leaver (with_person list person before) after → length after + count leaver ≡ length before + 1
handed_size list before person None after hands = let size = ap length hands in omega (arith, size, length_with list person before)
handed_size list before person (Some leaver) after hands =
    let size = ap length hands.1 in
    let whole = length_without leaver.id (with_person list person before) (has_number leaver (with_person list person before) hands.0) in
    omega (arith, size, whole, length_with list person before)

-- those held and the one who goes are as many as those held before and the one who comes
pub offered_size : (test : Person → Bool) (list : ListId) (seats : Seating) (before : List Person) (coming leaver : Option Person) (after : List Person)
    → IsOffer test (step_at list seats before) coming leaver after → length after + count leaver ≡ length before + count coming
offered_size test list seats before coming leaver after p = by (joining test coming) refl p
  where
    by : (joins : Option Person) → joining test coming ≡ joins → MatchOption joins (Stays before coming leaver after) (Takes list seats before leaver after) → length after + count leaver ≡ length before + count coming
    by None nobody h = let size = ap length h.1 in let same = ap count h.0 in omega (arith, size, same)
    by (Some person) somebody h =
        let one = ap count (joining_some test coming person somebody).0 in
        let size = handed_size list before person leaver after h.1 in
        omega (arith, one, size)

-- nobody goes where nobody comes
pub offered_count : (test : Person → Bool) (list : ListId) (seats : Seating) (before : List Person) (coming leaver : Option Person) (after : List Person)
    → IsOffer test (step_at list seats before) coming leaver after → count leaver ≤ count coming
offered_count test list seats before None leaver after p = let none = ap count p.0 in omega arith
offered_count test list seats before (Some person) None after p = omega arith
offered_count test list seats before (Some person) (Some leaver) after p = omega arith

-- a step holds no more than its seats, where it held no more before
pub offered_few : (test : Person → Bool) (list : ListId) (seats : Seating) (before : List Person) (coming leaver : Option Person) (after : List Person)
    → IsOffer test (step_at list seats before) coming leaver after → length before ≤ seats.seats → length after ≤ seats.seats
offered_few test list seats before coming leaver after p few = by (joining test coming) p
  where
    by : (joins : Option Person) → MatchOption joins (Stays before coming leaver after) (Takes list seats before leaver after) → length after ≤ seats.seats
    by None h = let size = ap length h.1 in omega (arith, size, few)
    by (Some person) h = h.0.may.seats

-- so it is with the steps of rows
pub rows_few : (seats : ProgrammeSeats) (rows : List CategoryStep) (before after : Admissions) (coming leaver : Option Person) → AreOffered seats before after rows coming leaver
    → ((row : CategoryStep) → IsAmong row rows → length (before row.step) ≤ (seats_of seats row.step).seats)
    → (row : CategoryStep) → IsAmong row rows → length (after row.step) ≤ (seats_of seats row.step).seats
rows_few seats [] before after coming leaver offered few row here = absurd here
rows_few seats (first ∷ rows) before after coming leaver offered few row here = elim here [
  | inl same ↦ subst (λ (r : CategoryStep). length (after r.step) ≤ (seats_of seats r.step).seats) (sym same)
      (offered_few (is_of first.category) seats.list (seats_of seats first.step) (before first.step) coming offered.0 (after first.step) offered.1 (few first (inl refl)))
  | inr later ↦ rows_few seats rows before after offered.0 leaver offered.2 (λ other found. few other (inr found)) row later
]

-- the seats that a row gives up, with the one who goes, are no more than those that it gives up then, with the one who comes
given_falls : (b : Bool) (seats before after goes comes : ℕ) → after + goes ≡ before + comes → goes ≤ comes → before ≤ seats → after ≤ seats
    → cond b (seats - before) 0 + goes ≤ cond b (seats - after) 0 + comes
given_falls true seats before after goes comes sizes fewer few few_after = omega arith
given_falls false seats before after goes comes sizes fewer few few_after = omega arith

-- what the rows give up, where their steps admit these
abbrev pub given_by : ℕ → ProgrammeSeats → Admissions → List CategoryStep → ℕ
given_by version seats a rows = sum (map (λ row. given version (seats_of seats row.step).seats (length (a row.step)) row) rows)

-- so the seats that are left to the de-reserved step fall by at most one, and by none where somebody comes there
pub falls_by_one : (version : ℕ) (seats : ProgrammeSeats) (rows : List CategoryStep) (before after : Admissions) (coming leaver : Option Person) → AreOffered seats before after rows coming leaver
    → ((row : CategoryStep) → IsAmong row rows → length (before row.step) ≤ (seats_of seats row.step).seats)
    → given_by version seats before rows + count leaver ≤ given_by version seats after rows + count coming
falls_by_one version seats [] before after coming leaver offered few = let same = ap count offered in omega (arith, same)
falls_by_one version seats (row ∷ rows) before after coming leaver offered few =
    let room = (seats_of seats row.step).seats in
    let size = offered_size (is_of row.category) seats.list (seats_of seats row.step) (before row.step) coming offered.0 (after row.step) offered.1 in
    let fewer = offered_count (is_of row.category) seats.list (seats_of seats row.step) (before row.step) coming offered.0 (after row.step) offered.1 in
    let was = few row (inl refl) in
    let is = offered_few (is_of row.category) seats.list (seats_of seats row.step) (before row.step) coming offered.0 (after row.step) offered.1 was in
    let now = given_falls (gives_up row version) room (length (before row.step)) (length (after row.step)) (count offered.0) (count coming) size fewer was is in
    let later = falls_by_one version seats rows before after offered.0 leaver offered.2 (λ other found. few other (inr found)) in
    let a = sum-cons (given version room (length (before row.step)) row) (map (λ other. given version (seats_of seats other.step).seats (length (before other.step)) other) rows) in
    let b = sum-cons (given version room (length (after row.step)) row) (map (λ other. given version (seats_of seats other.step).seats (length (after other.step)) other) rows) in
    omega (arith, now, later, a, b)

-- ---- one too many

taken_or_next : (people : List Person) (n : ℕ) (person : Person) → length people ≤ n + 1 → IsAmong person people → IsAmong person (take n people) ⊎ (slice_get people n ≡ Some person)
taken_or_next [] n person few here = absurd here
taken_or_next (other ∷ []) zero person few here = elim here [ inl same ↦ inr (ap (λ (p : Person). Some p) (sym same)) | inr nothing ↦ absurd nothing ]
taken_or_next (other ∷ next ∷ people) zero person few here = absurd (omega arith)
taken_or_next (other ∷ people) (suc n) person few here = elim here [
  | inl same ↦ inl (inl same)
  | inr later ↦ elim (taken_or_next people n person (omega arith) later) [ inl taken ↦ inl (inr taken) | inr next ↦ inr next ]
]

next_size : (people : List Person) (n : ℕ) → length people ≤ n + 1 → length (take n people) + count (slice_get people n) ≡ length people
next_size [] zero few = refl
next_size [] (suc n) few = refl
next_size (other ∷ []) zero few = refl
next_size (other ∷ next ∷ people) zero few = absurd (omega arith)
next_size (other ∷ people) (suc n) few = let rest = next_size people n (omega arith) in omega arith

next_among : (people : List Person) (n : ℕ) (person : Person) → slice_get people n ≡ Some person → IsAmong person people
next_among [] n person e = cc e
next_among (other ∷ people) zero person e = let same : other ≡ person = cc e in inl (sym same)
next_among (other ∷ people) (suc n) person e = inr (next_among people n person e)

-- What one step or more do in their turn: those held before and the one who comes are held then, but for the one who goes.
record Moves (before : List Person) (coming leaver : Option Person) (after : List Person) : Type 0 where
  stay : (person : Person) → IsAmong person before ⊎ (coming ≡ Some person) → IsAmong person after ⊎ (leaver ≡ Some person)
  back : (person : Person) → leaver ≡ Some person → IsAmong person before ⊎ (coming ≡ Some person)
  sizes : length after + count leaver ≡ length before + count coming

-- the same of the one who goes and of those held, by other names
told : (before : List Person) (coming leaver other : Option Person) (after people : List Person) → leaver ≡ other → after ≡ people → Moves before coming other people → Moves before coming leaver after
told before coming leaver other after people goes held last = subst (λ (o : Option Person). Moves before coming o after) (sym goes) (subst (Moves before coming other) (sym held) last)

last_of : (list : ListId) (n : ℕ) (before : List Person) (coming leaver : Option Person) (after : List Person)
    → Joins list before (entered list before (joining (is_common list) coming)) (joining (is_common list) coming) → length before + count coming ≤ n + 1
    → IsLastOffer list n before coming leaver after → Moves before coming leaver after
last_of list n before None leaver after j few p = told before None leaver (slice_get before n) after (take n before) p.0 p.1 (record {
  stay = λ person h. elim h [ inl there ↦ taken_or_next before n person (omega arith) there | inr came ↦ cc came ];
  back = λ person e. inl (next_among before n person e);
  sizes = let size = next_size before n (omega arith) in omega arith;
})
last_of list n before (Some person) leaver after j few p = by (is_common list person) j p
  where
    by : (b : Bool) → Joins list before (entered list before (cond b (Some person) None)) (cond b (Some person) None)
        → MatchOption (cond b (Some person) None) ((leaver ≡ Some person) × (after ≡ take n before)) (λ one. (leaver ≡ slice_get (with_person list one before) n) × (after ≡ take n (with_person list one before)))
        → Moves before (Some person) leaver after
    by true joins h =
        let joined = with_person list person before in
        let long = length_with list person before in
        told before (Some person) leaver (slice_get joined n) after (take n joined) h.0 h.1 (record {
          stay = λ other h. taken_or_next joined n other (omega arith) (elim h [ inl there ↦ widen other before joined joins.part there | inr came ↦ joins.here other came ]);
          back = λ other e. joins.nobody_else other (next_among joined n other e);
          sizes = let size = next_size joined n (omega arith) in omega arith;
        })
    by false joins h =
        let room : length before ≤ n = omega arith in
        told before (Some person) leaver (Some person) after (take n before) h.0 h.1 (record {
          stay = λ other h. elim h [
            | inl there ↦ elim (taken_or_next before n other (omega arith) there) [ inl taken ↦ inl taken | inr next ↦ absurd (past before n other room next) ]
            | inr came ↦ inr came
          ];
          back = λ other e. inr e;
          sizes = let size = length-take n before in omega (arith, size);
        })
      where
        past : (people : List Person) (n : ℕ) (other : Person) → length people ≤ n → slice_get people n ≡ Some other → ⊥
        past [] n other few e = cc e
        past (first ∷ people) zero other few e = absurd (omega arith)
        past (first ∷ people) (suc n) other few e = past people n other (omega arith) e

-- one step after another
moves_joined : (before more after others : List Person) (coming next leaver : Option Person) → Moves before coming next after → Moves more next leaver others → Moves (before ++ more) coming leaver (after ++ others)
moves_joined before more after others coming next leaver one two = record {
  stay = λ person h.
      let first = λ (e : IsAmong person before ⊎ (coming ≡ Some person)).
      let found : IsAmong person (after ++ others) ⊎ (leaver ≡ Some person) = elim (one.stay person e) [
        | inl there ↦ inl (widen person after (after ++ others) (among_front after others) there)
        | inr goes ↦ second person (inr goes)
      ] in found in
      elim h [
        | inl here ↦ elim (any_append (λ other. person ≡ other) before more here) [ inl now ↦ first (inl now) | inr later ↦ second person (inl later) ]
        | inr came ↦ first (inr came)
      ];
  back = λ person e. elim (two.back person e) [
    | inl there ↦ inl (widen person more (before ++ more) (among_back before more) there)
    | inr goes ↦ elim (one.back person goes) [ inl there ↦ inl (widen person before (before ++ more) (among_front before more) there) | inr came ↦ inr came ]
  ];
  sizes = let a = one.sizes in let b = two.sizes in omega (arith, a, b, length-append before more, length-append after others);
}
  where
    second : (person : Person) → IsAmong person more ⊎ (next ≡ Some person) → IsAmong person (after ++ others) ⊎ (leaver ≡ Some person)
    second person h = elim (two.stay person h) [ inl there ↦ inl (widen person others (after ++ others) (among_back after others) there) | inr goes ↦ inr goes ]

-- nobody is held, and the one who comes goes
nothing_moves : (coming : Option Person) → Moves [] coming coming []
nothing_moves coming = record { stay = λ person h. elim h [ inl there ↦ absurd there | inr came ↦ inr came ]; back = λ person e. inr e; sizes = refl }

-- a step with seats of its own, by what it holds
passed_on : (test : Person → Bool) (list : ListId) (seats : Seating) (before : List Person) (coming leaver : Option Person) (after : List Person) → Passes before coming leaver after
    → IsOffer test (step_at list seats before) coming leaver after → Moves before coming leaver after
passed_on test list seats before coming leaver after p offer =
    record { stay = p.stay; back = λ person e. p.back person (inr e); sizes = offered_size test list seats before coming leaver after offer }

-- one too many at most come to the de-reserved step, whatever it holds then
pub few_come : (version : ℕ) (seats : ProgrammeSeats) (people : List Person) (before after : Admissions) (person : Person) (by_open come : Option Person) (held : List Person)
    → IsProgrammeChoice version seats people before → IsOffer (is_common seats.list) (step_at seats.list (seats_of seats Open) (before Open)) (Some person) by_open held
    → AreOffered seats before after category_steps by_open come → length (before Dereserved) + count come ≤ unfilled version seats after + 1
few_come version seats people before after person by_open come held choice offer offered =
    let whole = people_of seats.list people before Dereserved in
    let size = ap length choice.dereserved ∙ length-take (unfilled version seats before) whole in
    let one = offered_count (is_common seats.list) seats.list (seats_of seats Open) (before Open) (Some person) by_open held offer in
    let falls : unfilled version seats before + count come ≤ unfilled version seats after + count by_open =
    falls_by_one version seats category_steps before after by_open come offered (λ row here. (row_choice version seats people before choice row here).may.seats) in
    omega (arith, size, one, falls)

pub last_few : (version : ℕ) (seats : ProgrammeSeats) (people : List Person) (before after : Admissions) (person : Person) → IsProgrammeChoice version seats people before
    → (offered : IsOffered version seats before person after) → length (before Dereserved) + count offered.left_by_categories ≤ unfilled version seats after + 1
last_few version seats people before after person choice offered =
    few_come version seats people before after person offered.left_by_open offered.left_by_categories (after Open) choice offered.open_step offered.categories

module _ (laws : AreLawful) where
  -- the steps of rows, and those after them
  rows_move : (seats : ProgrammeSeats) (rows : List CategoryStep) (kinds : List StepKind) (old new : List Person) (before after : Admissions) (coming next leaver : Option Person) → AreThere rows old before
      → Joins seats.list old new coming → AreOffered seats before after rows coming next → Moves (all_by kinds before) next leaver (all_by kinds after)
      → Moves (all_by (steps_of rows ++ kinds) before) coming leaver (all_by (steps_of rows ++ kinds) after)
  rows_move seats [] kinds old new before after coming next leaver there j offered last =
      subst (λ (o : Option Person). Moves (all_by kinds before) o leaver (all_by kinds after)) offered last
  rows_move seats (row ∷ rows) kinds old new before after coming next leaver there j offered last =
      moves_joined (before row.step) (all_by (steps_of rows ++ kinds) before) (after row.step) (all_by (steps_of rows ++ kinds) after) coming offered.0 leaver
      (passed_on (is_of row.category) seats.list (seats_of seats row.step) (before row.step) coming offered.0 (after row.step)
      (row_passes laws seats row rows old new before coming offered.0 (after row.step) there j offered.1) offered.1)
      (rows_move seats rows kinds (without old (before row.step)) (without new (after row.step)) before after offered.0 next leaver (there_next row rows old before there)
      (row_joins laws seats row rows old new before coming offered.0 (after row.step) there j offered.1) offered.2 last)

  pub offers_leave_one : OffersLeaveOne
  offers_leave_one version seats before after person ok may choice offered =
      let list = seats.list in
      let held = everybody before in
      let all = person ∷ held in
      let now = everybody after in
      let people = in_merit list held in
      let more = in_merit list all in
      let held_may = laws.part_can_be_ranked list held all may.distinct.1 may (are_among held all (λ other here. inr here)) in
      let held_ranks = laws.in_merit_ranks list held held_may in
      let ranks = laws.in_merit_ranks list all may in
      let j = starts laws list held person may in
      let way = course laws version seats people more before after person j choice offered in
      let new_choice = offers_keep_choices laws version seats before after person ok may choice offered in
      let once = ranked_once version seats more after ranks.0.distinct new_choice in
      let within : AreAmong now all = among_again now more all once.within ranks.2 in
      let n = unfilled version seats after in
      let come = offered.left_by_categories in
      let leaver = offered.left_out in
      let joins = last_joins laws version seats people more before after person j held_ranks.2 choice offered in
      let few = last_few version seats people before after person choice offered in
      let last = last_of list n (before Dereserved) come leaver (after Dereserved) joins few offered.dereserved in
      let end = moves_joined (before Dereserved) [] (after Dereserved) [] come leaver leaver last (nothing_moves leaver) in
      let moves : Moves held (Some person) leaver now = moves_joined (before Open) (all_by (steps_of category_steps ++ Dereserved ∷ []) before) (after Open) (all_by (steps_of category_steps ++ Dereserved ∷ []) after)
      (Some person) offered.left_by_open leaver
      (passed_on (is_common list) list (seats_of seats Open) (before Open) (Some person) offered.left_by_open (after Open) way.open_passes offered.open_step)
      (rows_move seats category_steps (Dereserved ∷ []) (rest_of people before) (rest_of more after) before after offered.left_by_open come leaver
      (are_there version seats people before j.ranked.distinct choice) way.rest offered.categories end) in
      let each = λ (other : Person) (here : IsAmong other all).
      let found : IsAmong other now ⊎ (leaver ≡ Some other) = elim here [
        | inl same ↦ moves.stay other (inr (ap (λ (p : Person). Some p) (sym same)))
        | inr there ↦ moves.stay other (inl there)
      ] in found in
      let back = λ (other : Person) (e : leaver ≡ Some other).
      let found : IsAmong other all = elim (moves.back other e) [ inl there ↦ inr there | inr came ↦ (let is : person ≡ other = cc came in inl (sym is)) ] in found in
      let sizes = moves.sizes in
      let whole : length now + count leaver ≡ suc (length held) = omega (arith, sizes) in
      answered version seats before after person leaver may once.distinct within each back whole
    where
      -- where all are held but one, that one is not
      fewer : (list : ListId) (all now : List Person) (other : Person) → AreApplicants list all → AreDistinct now → AreAmong now all → ((one : Person) → IsAmong one all → IsAmong one now ⊎ (Some other ≡ Some one))
          → length now + 1 ≡ length all → IsAmong other now → ⊥
      fewer list all now other may distinct within each short here =
          let now_may = laws.part_can_be_ranked list now all distinct may within in
          let back : AreAmong all now = are_among all now (λ one there. elim (each one there) [ inl found ↦ found | inr e ↦ (let is : other ≡ one = cc e in subst (λ (p : Person). IsAmong p now) is here) ]) in
          let sub = length-sublist (in_merit list all) (in_merit list now) (laws.part_in_merit list all now may.distinct now_may back) in
          let one = (laws.in_merit_ranks list all may).3 in
          let two = (laws.in_merit_ranks list now now_may).3 in
          absurd (omega arith)

      answered : (version : ℕ) (seats : ProgrammeSeats) (before after : Admissions) (person : Person) (leaver : Option Person) → AreApplicants seats.list (person ∷ everybody before) → AreDistinct (everybody after)
          → AreAmong (everybody after) (person ∷ everybody before) → ((other : Person) → IsAmong other (person ∷ everybody before) → IsAmong other (everybody after) ⊎ (leaver ≡ Some other))
          → ((other : Person) → leaver ≡ Some other → IsAmong other (person ∷ everybody before)) → length (everybody after) + count leaver ≡ suc (length (everybody before))
          → LeavesOut before person leaver after
      answered version seats before after person None may distinct within each back whole = λ other. (
        λ here. widen other (everybody after) (person ∷ everybody before) within here,
        λ here. elim (each other here) [ inl found ↦ found | inr left ↦ cc left ],
      )
      answered version seats before after person (Some leaver) may distinct within each back whole =
          let out = fewer seats.list (person ∷ everybody before) (everybody after) leaver may distinct within each whole in (
            back leaver refl,
            λ other. (
              λ here. (widen other (everybody after) (person ∷ everybody before) within here, λ same. out (subst (λ (p : Person). IsAmong p (everybody after)) same here)),
              λ both. elim (each other both.0) [ inl found ↦ found | inr left ↦ absurd (both.1 (let is : leaver ≡ other = cc left in sym is)) ],
            ),
          )
