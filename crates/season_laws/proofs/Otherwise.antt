-- A candidate who floats does no worse in the next round than by other answers, and raises hurt nobody there.
use Rattle.std.proofs.Common.{◌≡◌, ◌≢◌, ◌<◌, ◌≤◌, ◌+◌, inl, ℕ, zero, suc, List, [], ◌∷◌, Option, Some, None, length, map, arith, refl, sym, ap, ◌∙◌, subst, if◌then◌else◌}
use Rattle.std.specs.Prelude.{slice_get, option_map}
use Rattle.std.specs.Option.{option_and_then}
use Rattle.std.proofs.lemmas.List.{length-map}
use Rattle.std.proofs.lemmas.Option.{slice_get_within}
use Rattle.office_base.proofs.People.{at_person-get}
use Rattle.office_base.specs.declared.seat.Seat.{Seat}
use Rattle.office_base.specs.declared.person.Person.{Person}
use Rattle.office_base.specs.declared.person.ProgId.{ProgId}
use Rattle.office_base.proofs.Lists.{there_is}
use Rattle.office_base.proofs.Options.{some_value}
use Rattle.allocations.specs.Fair.{IsBest, IsFair}
use Rattle.allocations.specs.Market.{place_of, rank_of}
use Rattle.choice_lists.specs.Choices.{list_of}
use Rattle.seat_matrix.specs.Matrix.{SeatTable}
use Rattle.seeks.specs.Seek.{seek_leaves}
use Rattle.seeks.specs.declared.seek.Seek.{Seek}
use Rattle.seeks.specs.declared.seek.Seek.TheVariants.{UpTo}
use Rattle.rounds.specs.Round.{IsRound}
use Rattle.rounds.specs.Rule.{guarantees, nobody, rule_of, seekers_of}
use Rattle.rounds.specs.declared.round.Round.{Round}
use Rattle.rounds.proofs.Entrants.{length_seekers}
use Rattle.round_options.specs.Options.{after_cut, holds, seek_after}
use Rattle.round_options.specs.declared.standing.Standing.{Standing}
use Rattle.round_options.specs.declared.standing.Standing.TheVariants.{Waiting, Freeze, Float, Slide}
use Rattle.round_laws.specs.Laws.{AreOtherwise, IsUpTo, MoreSeatsHurtNobody, WiderIsNoWorse}
use Rattle.round_laws.proofs.People.{one_row}
use Rattle.office_moves.specs.Facts.{IsSound, SeasonFacts, lists_in_order}
use Rattle.office_moves.specs.Moves.{IsNextRound, guaranteed_next, kept_programmes, next_seek, next_seeks}
use Rattle.office_moves.specs.Promise.{standing_then}
use Rattle.office_moves.specs.Raised.{matrix_at, raised}
use Rattle.office_moves.specs.State.{State, View, last_seat, left_by, rows_of, seat_in, seat_of, standing_at, view_of}
use Rattle.history_laws.specs.Orderly.{IsOrderly}
use Rattle.history_laws.proofs.Entering.{entrants, list_there, lists_full}
use Rattle.history_laws.proofs.Fits.{is_seated, map_at, still_waits}
use Rattle.season_laws.specs.Otherwise.{AnswersOtherwise, FloatIsNoWorse, IsRaisedAlone, RaisesHurtNobody}

-- ---- one candidate

-- a cut that leaves a candidate waiting gave no seat
no_seat_given : (standing : Standing) (seat : Option Seat) → after_cut standing seat ≡ Waiting → seat ≡ None
no_seat_given standing None e = refl
no_seat_given Waiting (Some seat) e = absurd (cc)
no_seat_given _ (Some seat) e = absurd (cc)

left_waiting : (facts : SeasonFacts) (view : View) (id n : ℕ) → left_by facts view id n ≡ Waiting → seat_in facts view.rounds n id ≡ None
left_waiting facts view id zero e = refl
left_waiting facts view id (suc window) e = no_seat_given _ (seat_in facts view.rounds (suc window) id) e

-- a candidate who does not wait seeks nothing behind their own seat
up_after : (standing : Standing) (k : ℕ) → standing ≢ Waiting → IsUpTo k (seek_after standing (Some k))
up_after Waiting k apart = absurd (apart refl)
up_after Freeze k apart = omega arith
up_after Float k apart = omega arith
up_after Slide k apart = omega arith
up_after _ k apart = tt

-- a candidate who had a seat is among the people
record Stands (facts : SeasonFacts) (id : ℕ) : Type 0 where
  pub place : ℕ
  pub person : Person
  pub there : slice_get facts.people place ≡ Some person
  pub is : person.id.0 ≡ id

stands : (facts : SeasonFacts) (rounds : List Round) (n id : ℕ) (seat : Seat) → seat_in facts rounds n id ≡ Some seat → Stands facts id
stands facts rounds zero id seat e = absurd (cc)
stands facts rounds (suc before) id seat e =
    let found = (is_seated facts rounds before id seat e).stands in
    record { place = found.place; person = found.person; there = found.person_at; is = found.is }

map_same : (f g : Person → Seek) (people : List Person) (j : ℕ) → ((q : Person) → slice_get people j ≡ Some q → f q ≡ g q) → slice_get (map f people) j ≡ slice_get (map g people) j
map_same f g [] j same = refl
map_same f g (q ∷ people) zero same = ap Some (same q refl)
map_same f g (q ∷ people) (suc j) same = map_same f g people j (λ r at. same r at)

-- ---- two states

-- all others seek the same
seeks_same : (facts : SeasonFacts) (state other : State) (id n : ℕ) → AnswersOtherwise state other id → n ≢ id → next_seek facts other n ≡ next_seek facts state n
seeks_same facts state other id n h apart =
    let view : view_of other n ≡ view_of state n = λ i. record { now = h.now i; rounds = h.rounds i; rows = h.others n apart i } in
    λ i. seek_after (standing_at facts (view i) n (h.now i)) (option_map (λ (seat : Seat). place_of (list_of facts.lists n) seat.prog.0) (last_seat facts (h.rounds i) n))

-- the place of a seat in the candidate's own list
abbrev place_in : SeasonFacts → ℕ → Option Seat → Option ℕ
place_in facts id seat = option_map (λ (held : Seat). place_of (list_of facts.lists id) held.prog.0) seat

seat_at : (facts : SeasonFacts) (round : Round) (i : ℕ) (person : Person) (seat : Option Seat) → IsSound facts → slice_get facts.people i ≡ Some person → slice_get round.seats i ≡ Some seat
    → seat_of facts (Some round) person.id.0 ≡ seat
seat_at facts round i person seat sound at has = ap (λ o. option_and_then (λ s. s) o) (at_person-get facts.people round.seats i person sound.ranks.rising at ∙ has)

module _ (wider : WiderIsNoWorse) (facts : SeasonFacts) (state other : State) (first second : Round) (sound : IsSound facts) (orderly : IsOrderly facts state) (orderly' : IsOrderly facts other)
    (open_now : state.now < facts.rounds) (i : ℕ) (person : Person) (seat : Seat) (there : slice_get facts.people i ≡ Some person) (h : AnswersOtherwise state other person.id.0)
    (floats : standing_then facts state state.now person.id.0 ≡ Float) (last : last_seat facts state.rounds person.id.0 ≡ Some seat) (follows : IsNextRound facts state first)
    (follows' : IsNextRound facts other second) where
  next : IsRound facts.version nobody (matrix_at facts state) facts.people (lists_in_order facts) (state.now + 1) (next_seeks facts state) first
  next = orderly.next_alone open_now first follows

  next' : IsRound facts.version nobody (matrix_at facts other) facts.people (lists_in_order facts) (other.now + 1) (next_seeks facts other) second
  next' = orderly'.next_alone (let now = h.now in omega (arith, now, open_now)) second follows'

  abbrev k : ℕ
  k = place_of (list_of facts.lists person.id.0) seat.prog.0

  abbrev table : SeatTable
  table = matrix_at facts state

  last' : last_seat facts other.rounds person.id.0 ≡ Some seat
  last' = ap (λ rounds. last_seat facts rounds person.id.0) h.rounds ∙ last

  mine : next_seek facts state person.id.0 ≡ UpTo k
  mine = ap (λ s. seek_after s (place_in facts person.id.0 (last_seat facts state.rounds person.id.0))) floats ∙ ap (λ o. seek_after Float (place_in facts person.id.0 o)) last

  his : next_seek facts other person.id.0 ≡ seek_after (standing_then facts other other.now person.id.0) (Some k)
  his = ap (λ o. seek_after (standing_then facts other other.now person.id.0) (place_in facts person.id.0 o)) last'

  not_waiting : standing_then facts other other.now person.id.0 ≢ Waiting
  not_waiting e =
      let now = h.now in
      let count : length other.rounds ≡ other.now = orderly'.course.order (omega (arith, now, open_now)) in
      let left = still_waits _ _ (seat_in facts other.rounds other.now person.id.0) (orderly'.course.answers other.now person.id.0) e in
      let none = left_waiting facts (view_of other person.id.0) person.id.0 other.now left in
      let none' : last_seat facts other.rounds person.id.0 ≡ None = ap (λ n. seat_in facts other.rounds n person.id.0) count ∙ none in
      let some = last' in
      cc

  up : IsUpTo k (next_seek facts other person.id.0)
  up = subst (IsUpTo k) (sym his) (up_after (standing_then facts other other.now person.id.0) k not_waiting)

  otherwise : AreOtherwise i (lists_in_order facts) (lists_in_order facts) (next_seeks facts state) (next_seeks facts other)
  otherwise = record {
    as_many_lists = refl;
    as_many_seeks = length-map facts.people (λ (q : Person). next_seek facts other q.id.0) ∙ sym (length-map facts.people (λ (q : Person). next_seek facts state q.id.0));
    same_lists = λ j apart. refl;
    same_seeks = λ j apart. map_same (λ q. next_seek facts other q.id.0) (λ q. next_seek facts state q.id.0) facts.people j (λ q at. seeks_same facts state other person.id.0 q.id.0 h
        (λ e. apart (one_row facts.people j i q person sound.ranks.rising at there e)));
  }

  full : length (seekers_of table facts.people (lists_in_order facts) (next_seeks facts state)) ≡ length facts.people
  full = length_seekers table facts.people (lists_in_order facts) (next_seeks facts state) (lists_full facts sound)
      (length-map facts.people (λ (q : Person). next_seek facts state q.id.0) ∙ sym (lists_full facts sound))

  full' : length (seekers_of table facts.people (lists_in_order facts) (next_seeks facts other)) ≡ length facts.people
  full' = length_seekers table facts.people (lists_in_order facts) (next_seeks facts other) (lists_full facts sound)
      (length-map facts.people (λ (q : Person). next_seek facts other q.id.0) ∙ sym (lists_full facts sound))

  fair : IsFair (rule_of facts.version nobody table) (length table.programmes) (seekers_of table facts.people (lists_in_order facts) (next_seeks facts other)) second.seats
  fair =
      let same : matrix_at facts other ≡ matrix_at facts state = ap (raised facts.matrix) h.raises in
      subst (λ (t : SeatTable). IsFair (rule_of facts.version nobody t) (length t.programmes) (seekers_of t facts.people (lists_in_order facts) (next_seeks facts other)) second.seats) same next'.best.fair

  pub no_worse : rank_of (list_of facts.lists person.id.0) (seat_of facts (Some first) person.id.0) ≤ rank_of (list_of facts.lists person.id.0) (seat_of facts (Some second) person.id.0)
  no_worse =
      let less = slice_get_within facts.people i person there in
      let size = next.best.fair.allocation.full in
      let size' = fair.allocation.full in
      let count = full in
      let count' = full' in
      let lists = lists_full facts sound in
      let list = there_is (lists_in_order facts) i (omega (arith, less, lists)) in
      let x = there_is first.seats i (omega (arith, less, size, count)) in
      let y = there_is second.seats i (omega (arith, less, size', count')) in
      let own = list_there facts i person list.0 sound there list.1 in
      let sought = map_at (λ (q : Person). next_seek facts state q.id.0) facts.people i person there ∙ ap Some mine in
      let sought' = map_at (λ (q : Person). next_seek facts other q.id.0) facts.people i person there in
      let given = seat_at facts first i person x.0 sound there x.1 in
      let given' = seat_at facts second i person y.0 sound there y.1 in
      let result = wider facts.version nobody table facts.people (lists_in_order facts) (next_seeks facts state) (next_seeks facts other) first.seats second.seats i k list.0
      (next_seek facts other person.id.0) x.0 y.0 orderly.seats (entrants facts table sound orderly.programmes) otherwise list.1 sought sought' up next.best fair x.1 y.1 in
      let by_list = subst (λ l. rank_of l x.0 ≤ rank_of l y.0) (sym own) result in
      let by_first = subst (λ z. rank_of (list_of facts.lists person.id.0) z ≤ rank_of (list_of facts.lists person.id.0) y.0) (sym given) by_list in
      subst (λ z. rank_of (list_of facts.lists person.id.0) (seat_of facts (Some first) person.id.0) ≤ rank_of (list_of facts.lists person.id.0) z) (sym given') by_first

pub float_is_no_worse : WiderIsNoWorse → (facts : SeasonFacts) → FloatIsNoWorse facts
float_is_no_worse wider facts state other id first second sound orderly orderly' open_now h floats next next' =
    let some = some_value (last_seat facts state.rounds id) (orderly.seated id (ap holds floats)) in
    let found = stands facts state.rounds (length state.rounds) id some.0 some.1 in
    let P : ℕ → Type 0 = λ n. AnswersOtherwise state other n → standing_then facts state state.now n ≡ Float → last_seat facts state.rounds n ≡ Some some.0
    → rank_of (list_of facts.lists n) (seat_of facts (Some first) n) ≤ rank_of (list_of facts.lists n) (seat_of facts (Some second) n) in
    let here : P found.person.id.0 = λ h' floats' last'. no_worse wider facts state other first second sound orderly orderly' open_now found.place found.person some.0 found.there h' floats' last' next next' in
    subst P found.is here h floats some.1

-- ---- raises

-- everybody seeks the same
all_seek_same : (facts : SeasonFacts) (state other : State) → IsRaisedAlone state other → next_seeks facts other ≡ next_seeks facts state
all_seek_same facts state other h = λ i. map (λ (person : Person). seek_after
    (standing_at facts (record { now = h.now i; rounds = h.rounds i; rows = rows_of person.id.0 (h.answers i) }) person.id.0 (h.now i))
    (option_map (λ (seat : Seat). place_of (list_of facts.lists person.id.0) seat.prog.0) (last_seat facts (h.rounds i) person.id.0))) facts.people

-- and everybody is guaranteed the same
all_keep_same : (facts : SeasonFacts) (state other : State) → IsRaisedAlone state other → kept_programmes facts other ≡ kept_programmes facts state
all_keep_same facts state other h = λ i. map (λ (person : Person). option_map (λ (seat : Seat). seat.prog)
    (if holds (standing_at facts (record { now = h.now i; rounds = h.rounds i; rows = rows_of person.id.0 (h.answers i) }) person.id.0 (h.now i))
    then last_seat facts (h.rounds i) person.id.0 else None)) facts.people

pub raises_hurt_nobody : MoreSeatsHurtNobody → (facts : SeasonFacts) → RaisesHurtNobody facts
raises_hurt_nobody more_seats facts state other first second i person sound orderly orderly' h raised next next' there =
    let table = matrix_at facts state in
    let seeks = next_seeks facts state in
    let IsBestBy : List (Option ProgId) → List Seek → Type 0 = λ kept q. IsBest (rule_of facts.version (guarantees facts.people kept) (matrix_at facts other)) (length (matrix_at facts other).programmes)
    (seekers_of (matrix_at facts other) facts.people (lists_in_order facts) q) second.seats in
    let best = subst (λ (k : List (Option ProgId)). IsBestBy k seeks) (all_keep_same facts state other h)
    (subst (λ (q : List Seek). IsBestBy (kept_programmes facts other) q) (all_seek_same facts state other h) next'.best) in
    let lists = lists_full facts sound in
    let sizes : length seeks ≡ length (lists_in_order facts) = length-map facts.people (λ (q : Person). next_seek facts state q.id.0) ∙ sym lists in
    let full = length_seekers table facts.people (lists_in_order facts) seeks lists sizes in
    let full' = length_seekers (matrix_at facts other) facts.people (lists_in_order facts) seeks lists sizes in
    let less = slice_get_within facts.people i person there in
    let size = next.best.fair.allocation.full in
    let size' = best.fair.allocation.full in
    let list = there_is (lists_in_order facts) i (omega (arith, less, lists)) in
    let x = there_is first.seats i (omega (arith, less, size, full)) in
    let y = there_is second.seats i (omega (arith, less, size', full')) in
    let own = list_there facts i person list.0 sound there list.1 in
    let sought = map_at (λ (q : Person). next_seek facts state q.id.0) facts.people i person there in
    let given = seat_at facts first i person x.0 sound there x.1 in
    let given' = seat_at facts second i person y.0 sound there y.1 in
    let seek = next_seek facts state person.id.0 in
    let result = more_seats facts.version (guaranteed_next facts state) (guaranteed_next facts state) table (matrix_at facts other) facts.people (lists_in_order facts) seeks seeks first.seats second.seats i list.0 seek x.0 y.0 (λ p person sure. sure) orderly.seats orderly'.seats
    raised (entrants facts table sound orderly.programmes) (record { as_many = refl; each = λ j a b at at'. inl (cc) }) list.1 sought sought next.best.fair best x.1 y.1 in
    let by_list = subst (λ l. rank_of (seek_leaves table seek l) y.0 ≤ rank_of (seek_leaves table seek l) x.0) (sym own) result in
    let all = seek_leaves table seek (list_of facts.lists person.id.0) in
    let by_second = subst (λ z. rank_of all z ≤ rank_of all x.0) (sym given') by_list in
    subst (λ z. rank_of all (seat_of facts (Some second) person.id.0) ≤ rank_of all z) (sym given) by_second
