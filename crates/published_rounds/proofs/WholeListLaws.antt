-- Each round is the best allocation on the whole lists of those who stay, from round to round.
use Rattle.std.proofs.Common.{◌≡◌, ◌≢◌, ◌≤◌, ◌⊎◌, inl, inr, ℕ, zero, suc, true, false, List, [], Option, Some, None, length, map, take, arith, refl, sym, ap, ◌∙◌, subst}
use Rattle.std.specs.Prelude.{slice_get, option_map, IsSome}
use Rattle.std.proofs.lemmas.List.{length-map}
use Rattle.std.proofs.lemmas.Option.{slice_get_within}
use Rattle.office_base.specs.declared.choice.Choice.{Choice}
use Rattle.office_base.specs.declared.choice.Choice.TheVariants.{Withdraw as ToWithdraw}
use Rattle.office_base.specs.declared.seat.Seat.{Seat}
use Rattle.office_base.specs.declared.person.Person.{Person}
use Rattle.office_base.specs.declared.person.ProgId.{ProgId}
use Rattle.office_base.proofs.Lists.{at_among, there_is}
use Rattle.allocations.specs.Fair.{IsBest}
use Rattle.allocations.specs.Market.{Seeker, place_of, rank_of}
use Rattle.choice_lists.specs.Choices.{list_of}
use Rattle.seat_matrix.specs.Matrix.{SeatTable}
use Rattle.seeks.specs.Seek.{seek_leaves}
use Rattle.seeks.specs.declared.seek.Seek.{Seek}
use Rattle.seeks.specs.declared.seek.Seek.TheVariants.{Whole, Nothing}
use Rattle.seeks.proofs.Left.{left_nothing, left_up_to, left_whole}
use Rattle.rounds.specs.Rule.{MayApplyIn, ProgrammesChooseWell, nobody, rule_of, seekers_of}
use Rattle.rounds.specs.declared.round.Round.{Round}
use Rattle.rounds.proofs.Entrants.{entered, length_seekers, market}
use Rattle.round_laws.specs.Laws.{MoreSeatsHurtNobody, SomeSeekNothing}
use Rattle.round_options.specs.Options.{after_cut, holds, may_follow, seek_after, standing_of}
use Rattle.round_options.specs.declared.standing.Standing.{Standing}
use Rattle.round_options.specs.declared.standing.Standing.TheVariants.{Waiting, Freeze, Float, Slide}
use Rattle.office_moves.specs.Facts.{IsSound, SeasonFacts, lists_in_order}
use Rattle.office_moves.specs.History.{Reaches}
use Rattle.office_moves.specs.Promise.{all_sought_then, sought_then, standing_then}
use Rattle.office_moves.specs.State.{State, opening, seat_in}
use Rattle.office_moves.specs.declared.moves.Entry.{Entry}
use Rattle.history_laws.specs.Orderly.{IsOrderly}
use Rattle.history_laws.proofs.Entering.{list_there, lists_full}
use Rattle.history_laws.proofs.Fits.{full_seekers, map_at, seat_there}
use Rattle.published_rounds.specs.Published.{market_then, matrix_then}
use Rattle.published_rounds.specs.WholeListLaws.{EverybodyFloats, RoundsLeaveNoTrace, all_whole_then, whole_if_staying}
use Rattle.published_rounds.proofs.Numbered.{map_back}
use Rattle.published_rounds.proofs.Places.{made_then, may_enter}
use Rattle.published_rounds.proofs.Fronts.{AreFronts, DoNoWorse, fronts_are_best}

-- the laws on which this rests
pub record AreLaws : Type 0 where
  pub orderly : (facts : SeasonFacts) (entries : List Entry) (state : State) → IsSound facts → Reaches facts opening entries state → IsOrderly facts state
  pub well : ProgrammesChooseWell
  pub more_seats : MoreSeatsHurtNobody

-- ---- standings

-- how a candidate may stand after an answer to what a cut left
abbrev Answers : Standing → Standing → Option Seat → Type 0
Answers left standing seat = (standing ≡ left) ⊎ ((choice : Choice) × (may_follow left choice ≡ true) × (standing ≡ standing_of choice) × ((choice ≡ ToWithdraw) ⊎ IsSome seat))

-- all or nothing is sought
all_or_nothing : (standing : Standing) → (whole_if_staying standing ≡ Whole) ⊎ (whole_if_staying standing ≡ Nothing)
all_or_nothing Waiting = inl refl
all_or_nothing Float = inl refl
all_or_nothing standing = inr refl

-- a candidate who is out stays out
stays_out : (left standing : Standing) (seat : Option Seat) → ((choice : Choice) → may_follow left choice ≡ false) → whole_if_staying left ≡ Nothing → Answers left standing seat
    → whole_if_staying standing ≡ Nothing
stays_out left standing seat none out (inl same) = ap whole_if_staying same ∙ out
stays_out left standing seat none out (inr c) = absurd (let no = none c.0 in let may = c.1 in cc)

after : (then standing : Standing) (seat other : Option Seat) → then ≢ Freeze → then ≢ Slide → Answers (after_cut then seat) standing other
    → (whole_if_staying standing ≡ whole_if_staying then) ⊎ (whole_if_staying standing ≡ Nothing)
after Waiting standing seat other not_frozen not_slid answered = all_or_nothing standing
after Freeze standing seat other not_frozen not_slid answered = absurd (not_frozen refl)
after Float standing seat other not_frozen not_slid answered = all_or_nothing standing
after Slide standing seat other not_frozen not_slid answered = absurd (not_slid refl)
after then standing seat other not_frozen not_slid answered = inr (stays_out (after_cut then seat) standing other (λ choice. refl) refl answered)

-- before the first round everybody waits, or has left
first_sought : (standing : Standing) (seat : Option Seat) (place : Option ℕ) → Answers Waiting standing seat → seek_after standing place ≡ whole_if_staying standing
first_sought standing seat place (inl same) = ap (λ s. seek_after s place) same ∙ sym (ap whole_if_staying same)
first_sought standing seat place (inr (choice, may, is, more)) = by_choice choice may is
  where
    by_choice : (choice : Choice) → may_follow Waiting choice ≡ true → standing ≡ standing_of choice → seek_after standing place ≡ whole_if_staying standing
    by_choice ToWithdraw may is = ap (λ s. seek_after s place) is ∙ sym (ap whole_if_staying is)
    by_choice choice may is = absurd (cc)

rank_nil : (seat other : Option Seat) → rank_of [] seat ≤ rank_of [] other
rank_nil None other = omega arith
rank_nil (Some x) other = omega arith

-- ---- the whole lists of those who stay

-- those who stay, by a matrix
abbrev staying : SeasonFacts → SeatTable → State → ℕ → List Seeker
staying facts table state window = seekers_of table facts.people (lists_in_order facts) (all_whole_then facts state window)

-- the best round on them
abbrev IsBestOnWhole : SeasonFacts → State → ℕ → Round → Type 0
IsBestOnWhole facts state window round =
    IsBest (rule_of facts.version nobody (matrix_then facts state window)) (length (matrix_then facts state window).programmes) (staying facts (matrix_then facts state window) state window) round.seats

-- the first round
at_first : (facts : SeasonFacts) (state : State) (round : Round) → IsOrderly facts state → slice_get state.rounds 0 ≡ Some round → IsBestOnWhole facts state 0 round
at_first facts state round order is =
    let table = matrix_then facts state 0 in
    let each = λ (id : ℕ). first_sought (standing_then facts state 0 id) (seat_in facts state.rounds 0 id)
    (option_map (λ (seat : Seat). place_of (list_of facts.lists id) seat.prog.0) (seat_in facts state.rounds 0 id)) (order.course.answers 0 id) in
    let same : all_sought_then facts state 0 ≡ all_whole_then facts state 0 = λ j. map (λ (person : Person). each person.id.0 j) facts.people in
    subst (λ (seeks : List Seek). IsBest (rule_of facts.version nobody table) (length table.programmes) (seekers_of table facts.people (lists_in_order facts) seeks) round.seats) same
    (made_then facts state 0 round order is).best

-- ---- from one round to the next

module _ (laws : AreLaws) (facts : SeasonFacts) (state : State) (window : ℕ) (prev round : Round) (sound : IsSound facts) (orderly : IsOrderly facts state)
    (is : slice_get state.rounds window ≡ Some prev) (is' : slice_get state.rounds (suc window) ≡ Some round) (floats : EverybodyFloats facts state (suc window))
    (before : IsBestOnWhole facts state window prev) where
  abbrev table : SeatTable
  table = matrix_then facts state window

  abbrev more : SeatTable
  more = matrix_then facts state (suc window)

  abbrev whole : List Seeker
  whole = staying facts more state (suc window)

  abbrev now : List Seeker
  now = market_then facts state (suc window)

  full_stay : (at : ℕ) (any : SeatTable) → length (staying facts any state at) ≡ length facts.people
  full_stay at any =
      length_seekers any facts.people (lists_in_order facts) (all_whole_then facts state at) (lists_full facts sound)
      (length-map facts.people (λ (q : Person). whole_if_staying (standing_then facts state at q.id.0)) ∙ sym (lists_full facts sound))

  -- one of the people still seeks the whole list, or nothing
  came : (i : ℕ) (person : Person) → slice_get facts.people i ≡ Some person
      → (whole_if_staying (standing_then facts state (suc window) person.id.0) ≡ whole_if_staying (standing_then facts state window person.id.0))
      ⊎ (whole_if_staying (standing_then facts state (suc window) person.id.0) ≡ Nothing)
  came i person at =
      let f = floats window person (omega arith) (at_among facts.people i person at) in
      let seat = seat_in facts state.rounds (suc window) person.id.0 in
      after (standing_then facts state window person.id.0) (standing_then facts state (suc window) person.id.0) seat seat f.0 f.1 (orderly.course.answers (suc window) person.id.0)

  sought_whole : (at i : ℕ) (person : Person) → slice_get facts.people i ≡ Some person
      → slice_get (all_whole_then facts state at) i ≡ Some (whole_if_staying (standing_then facts state at person.id.0))
  sought_whole at i person there = map_at (λ (q : Person). whole_if_staying (standing_then facts state at q.id.0)) facts.people i person there

  some_nothing : SomeSeekNothing (all_whole_then facts state window) (all_whole_then facts state (suc window))
  some_nothing = record {
    as_many = length-map facts.people (λ (q : Person). whole_if_staying (standing_then facts state (suc window) q.id.0))
        ∙ sym (length-map facts.people (λ (q : Person). whole_if_staying (standing_then facts state window q.id.0)));
    each = λ i seek next at at'.
        let person = map_back (λ (q : Person). whole_if_staying (standing_then facts state window q.id.0)) facts.people i seek at in
        let second : next ≡ whole_if_staying (standing_then facts state (suc window) person.0.id.0) = (let e = sought_whole (suc window) i person.0 person.1 in cc) in
        elim (came i person.0 person.1) [ inl same ↦ inl (second ∙ (same ∙ sym person.2)) | inr none ↦ inr (second ∙ none) ];
  }

  -- a seeker by the whole lists
  record Staying (i : ℕ) (t : Seeker) : Type 0 where
    pub list : List ProgId
    pub person_at : slice_get facts.people i ≡ Some t.person
    pub list_at : slice_get (lists_in_order facts) i ≡ Some list
    pub leaves : t.list ≡ seek_leaves more (whole_if_staying (standing_then facts state (suc window) t.person.id.0)) list

  stays_at : (i : ℕ) (t : Seeker) → slice_get whole i ≡ Some t → Staying i t
  stays_at i t there =
      let e = entered more facts.people (lists_in_order facts) (all_whole_then facts state (suc window)) i t there in
      let one : e.seek ≡ whole_if_staying (standing_then facts state (suc window) t.person.id.0) = (let a = e.seek_at in let b = sought_whole (suc window) i t.person e.person_at in cc) in
      record { list = e.list; person_at = e.person_at; list_at = e.list_at; leaves = e.leaves ∙ ap (λ q. seek_leaves more q e.list) one }

  no_worse : DoNoWorse (rule_of facts.version nobody more) (length more.programmes) whole prev.seats
  no_worse others i t seat other best there has has' =
      let st = stays_at i t there in
      let standing = standing_then facts state (suc window) t.person.id.0 in
      elim (all_or_nothing standing) [
        | inl all ↦
            let same : whole_if_staying (standing_then facts state window t.person.id.0) ≡ Whole = elim (came i t.person st.person_at) [
              | inl one ↦ sym one ∙ all
              | inr none ↦ absurd (let e : Whole ≡ Nothing = sym all ∙ none in cc)
            ] in
            let result = laws.more_seats facts.version nobody nobody table more facts.people (lists_in_order facts) (all_whole_then facts state window) (all_whole_then facts state (suc window)) prev.seats others i
            st.list Whole seat other (λ p person sure. sure) (orderly.course.seats (suc window)) (orderly.course.seats (suc (suc window))) (orderly.course.raised (suc window))
            (may_enter facts state window sound orderly) some_nothing st.list_at (sought_whole window i t.person st.person_at ∙ ap Some same)
            (sought_whole (suc window) i t.person st.person_at ∙ ap Some all) before.fair best has has' in
            let by_list : rank_of st.list other ≤ rank_of st.list seat = subst (λ l. rank_of l other ≤ rank_of l seat) (left_whole table st.list 0 st.list) result in
            let list : t.list ≡ st.list = st.leaves ∙ (ap (λ q. seek_leaves more q st.list) all ∙ left_whole more st.list 0 st.list) in
            subst (λ l. rank_of l other ≤ rank_of l seat) (sym list) by_list
        | inr none ↦
            let list : t.list ≡ [] = st.leaves ∙ (ap (λ q. seek_leaves more q st.list) none ∙ left_nothing more st.list 0 st.list) in
            subst (λ l. rank_of l other ≤ rank_of l seat) (sym list) (rank_nil other seat)
      ]

  -- what somebody seeks is the whole list, or its front up to the last seat
  front_of : (standing : Standing) (i : ℕ) (t c : Seeker) (seat : Option Seat) (list : List ProgId) → slice_get facts.people i ≡ Some t.person → slice_get prev.seats i ≡ Some seat
      → list_of facts.lists t.person.id.0 ≡ list → standing_then facts state (suc window) t.person.id.0 ≡ standing → t.list ≡ seek_leaves more (whole_if_staying standing) list
      → c.list ≡ seek_leaves more (seek_after standing (option_map (λ (held : Seat). place_of (list_of facts.lists t.person.id.0) held.prog.0) (seat_in facts state.rounds (suc window) t.person.id.0))) list
      → (c.list ≡ t.list) ⊎ (c.list ≡ take (suc (rank_of t.list seat)) t.list)
  front_of Freeze i t c seat list at has own stands all sought = absurd ((floats (suc window) t.person (omega arith) (at_among facts.people i t.person at)).0 stands)
  front_of Slide i t c seat list at has own stands all sought = absurd ((floats (suc window) t.person (omega arith) (at_among facts.people i t.person at)).1 stands)
  front_of Float i t c seat list at has own stands all sought =
      let id = t.person.id.0 in
      let held = orderly.word.nobody_falls (suc window) id (slice_get_within state.rounds (suc window) round is') (ap holds stands) in
      let old = held.0 in
      let mine : seat ≡ Some old = sym (seat_there facts state.rounds window i prev t.person seat sound is at has) ∙ held.2 in
      let k = place_of list old.prog.0 in
      let place : option_map (λ (one : Seat). place_of (list_of facts.lists id) one.prog.0) (seat_in facts state.rounds (suc window) id) ≡ Some k =
      ap (λ o. option_map (λ (one : Seat). place_of (list_of facts.lists id) one.prog.0) o) held.2 ∙ ap (λ l. Some (place_of l old.prog.0)) own in
      let up : c.list ≡ take (suc k) list = sought ∙ (ap (λ o. seek_leaves more (seek_after Float o) list) place ∙ left_up_to more list k 0 (suc k) list (omega arith)) in
      let its : t.list ≡ list = all ∙ left_whole more list 0 list in
      let rank : rank_of t.list seat ≡ k = ap (λ o. rank_of t.list o) mine ∙ ap (λ l. place_of l old.prog.0) its in
      inr (up ∙ (ap (λ n. take (suc n) list) (sym rank) ∙ ap (λ l. take (suc (rank_of t.list seat)) l) (sym its)))
  front_of standing i t c seat list at has own stands all sought = inl (sought ∙ sym all)

  fronts : AreFronts whole now prev.seats
  fronts = record {
    same = full_seekers facts state (suc window) sound ∙ sym (full_stay (suc window) more);
    full = before.fair.allocation.full ∙ (full_stay window table ∙ sym (full_stay (suc window) more));
    persons = λ i t c there there'.
        let a = (stays_at i t there).person_at in
        let b = (entered more facts.people (lists_in_order facts) (all_sought_then facts state (suc window)) i c there').person_at in
        cc;
    lists = λ i t c seat there there' has.
        let st = stays_at i t there in
        let e = entered more facts.people (lists_in_order facts) (all_sought_then facts state (suc window)) i c there' in
        let person : c.person ≡ t.person = (let a = st.person_at in let b = e.person_at in cc) in
        let list : e.list ≡ st.list = (let a = st.list_at in let b = e.list_at in cc) in
        let id = t.person.id.0 in
        let seek : e.seek ≡ sought_then facts state (suc window) id =
        (let a = e.seek_at in let b = map_at (λ (q : Person). sought_then facts state (suc window) q.id.0) facts.people i t.person st.person_at in cc) in
        let own = list_there facts i t.person st.list sound st.person_at st.list_at in
        let leaves : c.list ≡ seek_leaves more (sought_then facts state (suc window) id) st.list =
        e.leaves ∙ (ap (λ q. seek_leaves more q e.list) seek ∙ ap (λ l. seek_leaves more (sought_then facts state (suc window) id) l) list) in
        front_of (standing_then facts state (suc window) id) i t c seat st.list st.person_at has own refl st.leaves leaves;
  }

  next_best : IsBestOnWhole facts state (suc window) round
  next_best =
      fronts_are_best (rule_of facts.version nobody more) (MayApplyIn more) (length more.programmes) (laws.well facts.version nobody more (orderly.course.seats (suc (suc window)))) whole now prev.seats round.seats
      (market more facts.people (lists_in_order facts) (all_whole_then facts state (suc window)) (orderly.course.seats (suc (suc window))) (may_enter facts state (suc window) sound orderly))
      (market more facts.people (lists_in_order facts) (all_sought_then facts state (suc window)) (orderly.course.seats (suc (suc window))) (may_enter facts state (suc window) sound orderly))
      fronts no_worse (made_then facts state (suc window) round orderly is').best

best_on_whole : AreLaws → (facts : SeasonFacts) (state : State) (window : ℕ) (round : Round) → IsSound facts → IsOrderly facts state → slice_get state.rounds window ≡ Some round
    → EverybodyFloats facts state window → IsBestOnWhole facts state window round
best_on_whole laws facts state zero round sound orderly is floats = at_first facts state round orderly is
best_on_whole laws facts state (suc window) round sound orderly is floats =
    let less = slice_get_within state.rounds (suc window) round is in
    let prev = there_is state.rounds window (omega (arith, less)) in
    let before = best_on_whole laws facts state window prev.0 sound orderly prev.1 (λ earlier person within here. floats earlier person (omega (arith, within)) here) in
    next_best laws facts state window prev.0 round sound orderly prev.1 is floats before

pub rounds_leave_no_trace : AreLaws → (facts : SeasonFacts) → RoundsLeaveNoTrace facts
rounds_leave_no_trace laws facts entries state window round published floats =
    best_on_whole laws facts state window round published.sound (laws.orderly facts entries state published.sound published.history.reached) published.there floats
