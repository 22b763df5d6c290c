-- From one round of papers that break no clause to the next, everybody seeks only what they applied for, and seats only rise.
use Rattle.std.proofs.Common.{◌≡◌, ◌≢◌, ◌<◌, ◌≤◌, ◌+◌, ◌++◌, inl, inr, ℕ, zero, suc, add-one, append-nil, append_assoc, true, false, List, [], ◌∷◌, Option, Some, None, length, arith, refl, sym, ap, ◌∙◌, subst}
use Rattle.std.specs.Prelude.{◌-◌, IsSome, option_map, slice_get}
use Rattle.std.proofs.lemmas.Bool.{cases_eq, cases_lt}
use Rattle.std.proofs.lemmas.Option.{slice_get_within}
use Rattle.office_base.specs.Lists.{Pairwise}
use Rattle.office_asks.specs.declared.ask.Request.{Request}
use Rattle.office_base.specs.declared.seat.Seat.{Seat}
use Rattle.office_base.specs.declared.person.Person.{Person}
use Rattle.office_base.specs.declared.person.ProgId.{ProgId}
use Rattle.office_base.proofs.Lists.{there_is}
use Rattle.office_base.proofs.Options.{some_value}
use Rattle.kept_rows.specs.declared.rows.AnswerRow.{AnswerRow}
use Rattle.kept_rows.specs.declared.rows.RaiseRow.{RaiseRow}
use Rattle.allocations.specs.Fair.{IsNextMarket, IsOwn}
use Rattle.allocations.specs.Market.{applies, place_of}
use Rattle.allocations.proofs.Places.{applies_true}
use Rattle.choice_lists.specs.Choices.{list_of}
use Rattle.seat_matrix.specs.Laws.{OneStepChanges}
use Rattle.seat_matrix.specs.Matrix.{SeatTable}
use Rattle.seeks.specs.Seek.{seek_leaves}
use Rattle.seeks.specs.declared.seek.Seek.{Seek}
use Rattle.seeks.specs.declared.seek.Seek.TheVariants.{Whole}
use Rattle.seeks.proofs.Left.{leaves_same}
use Rattle.rounds.specs.Rule.{IsRaised}
use Rattle.rounds.specs.declared.round.Round.{Round}
use Rattle.round_options.specs.Options.{after_cut, holds, may_follow, seek_after}
use Rattle.round_options.specs.declared.standing.Standing.{Standing}
use Rattle.round_options.specs.declared.standing.Standing.TheVariants.{Waiting, Freeze, Float, Slide}
use Rattle.office_moves.specs.Decided.{answer_facts, decided}
use Rattle.office_moves.specs.Facts.{IsSound, SeasonFacts}
use Rattle.office_moves.specs.History.{newly}
use Rattle.office_moves.specs.Moves.{next_seek}
use Rattle.office_moves.specs.Raised.{matrix_at, raised}
use Rattle.office_moves.specs.State.{State, answered, in_window, last_seat, left_by, rows_of, seat_of, standing_at, view_of, with_raise, with_round, with_row}
use Rattle.office_moves.specs.declared.decide.Decision.{Decision}
use Rattle.office_moves.specs.declared.decide.Decision.TheVariants.{Note, Lift, Publish, Finish}
use Rattle.office_moves.specs.declared.moves.Act.{Act}
use Rattle.office_moves.proofs.Narrows.{FitsLast, IsLeft, holder_narrows, left_there, narrows_applies, there_left}
use Rattle.office_moves.proofs.Rising.{AreLifts, IsLift, lifts_append, raised_append, raised_well}
use Rattle.history_laws.proofs.Accepted.{IsNoted, is_noted, is_open}
use Rattle.history_laws.proofs.Changes.{Accepts, LastCut, NewAnswer, NewCut, NewRaise, accepts}
use Rattle.history_laws.proofs.Entering.{own_there}
use Rattle.history_laws.proofs.Fits.{Answered, FitsCut, cut_fits, follows, map_at, seat_at_place, still_waits}
use Rattle.history_laws.proofs.Raises.{was_lift}
use Rattle.history_laws.proofs.Rows.{answered_last, window_more, window_same}
use Rattle.audit_rules.specs.Cut.{CutHolds, HoldsAt, seat_given, seekers_at, sought_by}
use Rattle.audit_rules.specs.InOrder.{IsInOrder}
use Rattle.audit_rules.specs.Papers.{Papers, rows_after, seat_told, seats_told}
use Rattle.audit_rules.specs.Replay.{before, round_of, taken}
use Rattle.audit_rules.proofs.FairCuts.{enters, full_seekers}
use Rattle.audit_rules.proofs.Ordering.{before_next, cut_left, last_is, nothing_new, row_left, seat_of_told}

-- ---- one candidate

-- what is sought next, by the place of the seat in the list
abbrev seek_next : List ProgId → Standing → Option Seat → Seek
seek_next list standing seat = seek_after standing (option_map (λ (held : Seat). place_of list held.prog.0) seat)

module _ (table : SeatTable) (list : List ProgId) (distinct : Pairwise (λ (a b : ProgId). a.0 ≢ b.0) list) (last : Seek) (left : Standing) (p : ℕ) where
  holder_sought : (standing : Standing) (seat : Seat) → FitsLast left last → Answered left standing (Some seat) → holds standing ≡ true → IsOwn (seek_leaves table last list) (Some seat)
      → IsLeft table (seek_next list standing (Some seat)) list p → applies p (seek_leaves table last list) (Some seat) ≡ true
  holder_sought standing seat fits came keeps own found =
      let k = place_of list seat.prog.0 in
      let seated = seat_at_place table last list seat distinct own in
      let narrower = holder_narrows table list last left standing seat k fits (follows left standing (Some seat) came) keeps seated in
      narrows_applies table list last (seek_next list standing (Some seat)) seat k p distinct seated narrower
      (there_left table (seek_next list standing (Some seat)) list p found.place found.prog found.there found.is found.left)

  waiting_sought : (seat : Option Seat) → left ≡ Waiting → FitsCut left last seat → IsLeft table Whole list p → applies p (seek_leaves table last list) seat ≡ true
  waiting_sought seat waits cut found =
      let whole : last ≡ Whole = subst (λ (l : Standing). FitsLast l last) waits cut.fits in
      let less = there_left table Whole list p found.place found.prog found.there found.is found.left in
      let here = applies_true p (seek_leaves table Whole list) None less (omega (arith, less)) in
      subst (λ (q : Seek). applies p (seek_leaves table q list) seat ≡ true) (sym whole)
      (subst (λ (o : Option Seat). applies p (seek_leaves table Whole list) o ≡ true) (sym (cut.waits waits)) here)

  -- a programme that the next seek leaves was applied for under the last one
  sought_again : (standing : Standing) (seat : Option Seat) → FitsCut left last seat → Answered left standing seat → IsOwn (seek_leaves table last list) seat
      → IsLeft table (seek_next list standing seat) list p → applies p (seek_leaves table last list) seat ≡ true
  sought_again Waiting seat cut came own found = waiting_sought seat (still_waits left Waiting seat came refl) cut found
  sought_again Freeze (Some seat) cut came own found = holder_sought Freeze seat cut.fits came refl own found
  sought_again Float (Some seat) cut came own found = holder_sought Float seat cut.fits came refl own found
  sought_again Slide (Some seat) cut came own found = holder_sought Slide seat cut.fits came refl own found
  sought_again _ _ cut came own found = absurd (let e : false ≡ true = found.left in cc)

-- ---- from a cut to the next

-- The last cut of the state was that of the old one, and published the round that the papers give there.
-- The answers since then may follow what this cut left, and the raises since then are lawful ones.
record IsAfter (facts : SeasonFacts) (papers : Papers) (old state : State) : Type 0 where
  now : state.now ≡ old.now + 1
  rounds : state.rounds ≡ old.rounds ++ round_of facts papers old ∷ []
  left : (id : ℕ) → left_by facts (view_of state id) id state.now ≡ after_cut (standing_at facts (view_of old id) id old.now) (seat_of facts (Some (round_of facts papers old)) id)
  answers : (id : ℕ) → Answered (left_by facts (view_of state id) id state.now) (standing_at facts (view_of state id) id state.now) (last_seat facts state.rounds id)
  rows : List RaiseRow
  raises : state.raises ≡ old.raises ++ rows
  lifts : AreLifts (matrix_at facts old) rows

at_the_cut : (facts : SeasonFacts) (papers : Papers) (old : State) → IsInOrder facts old → old.now < facts.rounds → IsAfter facts papers old (with_round old (round_of facts papers old))
at_the_cut facts papers old order early =
    let new = with_round old (round_of facts papers old) in
    record {
      now = refl;
      rounds = refl;
      left = λ id. cut_left facts old (round_of facts papers old) id (order.order (omega (arith, early)));
      answers = λ id. inl (ap (λ (z : List AnswerRow). answered (left_by facts (view_of new id) id new.now) z) (order.later (old.now + 1) id (omega arith)));
      rows = [];
      raises = sym (append-nil old.raises);
      lifts = tt;
    }

-- an answer of the open window is one more that may follow
answer_after : (facts : SeasonFacts) (papers : Papers) (old state : State) (row : AnswerRow) → IsAfter facts papers old state → row.window ≡ state.now
    → IsNoted (answer_facts facts (view_of state row.cand.0) row) row → IsAfter facts papers old (with_row state row)
answer_after facts papers old state row after opened noted =
    let new = with_row state row in
    let left_of : ℕ → Standing = λ id. left_by facts (view_of new id) id state.now in
    record {
      now = after.now;
      rounds = after.rounds;
      left = λ id. row_left facts state row id opened ∙ after.left id;
      answers = λ id. elim (cases_eq row.cand.0 id) [
        | inl own ↦
            subst (λ (n : ℕ). Answered (left_by facts (view_of new n) n state.now) (standing_at facts (view_of new n) n state.now) (last_seat facts state.rounds n)) own (inr (
              row.choice,
              ap (λ (s : Standing). may_follow s row.choice) (row_left facts state row row.cand.0 opened) ∙ noted.follows,
              ap (λ (z : List AnswerRow). answered (left_of row.cand.0) z) (window_more state.now row.cand.0 state.answers row refl opened)
                  ∙ answered_last (left_of row.cand.0) (in_window state.now (rows_of row.cand.0 state.answers)) row,
              noted.seated,
            ))
        | inr other ↦
            let same = row_left facts state row id opened in
            let stands : standing_at facts (view_of new id) id state.now ≡ standing_at facts (view_of state id) id state.now =
            ap (λ (z : List AnswerRow). answered (left_of id) z) (window_same state.now id state.answers row (λ own at. other own))
            ∙ ap (λ (s : Standing). answered s (in_window state.now (rows_of id state.answers))) same in
            subst (λ (s : Standing). Answered s (standing_at facts (view_of new id) id state.now) (last_seat facts state.rounds id)) (sym same)
            (subst (λ (s : Standing). Answered (left_by facts (view_of state id) id state.now) s (last_seat facts state.rounds id)) (sym stands) (after.answers id))
      ];
      rows = after.rows;
      raises = after.raises;
      lifts = after.lifts;
    }

-- the matrix since the cut
matrix_since : (facts : SeasonFacts) (papers : Papers) (old state : State) (after : IsAfter facts papers old state) → matrix_at facts state ≡ raised (matrix_at facts old) after.rows
matrix_since facts papers old state after = ap (raised facts.matrix) after.raises ∙ raised_append facts.matrix old.raises after.rows

raise_after : (facts : SeasonFacts) (papers : Papers) (old state : State) (row : RaiseRow) → IsAfter facts papers old state → IsLift (matrix_at facts state) row
    → IsAfter facts papers old (with_raise state row)
raise_after facts papers old state row after lift = record {
  now = after.now;
  rounds = after.rounds;
  left = after.left;
  answers = after.answers;
  rows = after.rows ++ row ∷ [];
  raises = ap (λ (z : List RaiseRow). z ++ row ∷ []) after.raises ∙ append_assoc old.raises after.rows (row ∷ []);
  lifts = lifts_append (matrix_at facts old) after.rows (row ∷ []) after.lifts
      (subst (λ (t : SeatTable). AreLifts t (row ∷ [])) (matrix_since facts papers old state after) (lift, tt));
}

-- a request that makes no cut keeps all of this
request_after : (facts : SeasonFacts) (papers : Papers) (old state : State) (request : Request) → IsInOrder facts state → IsAfter facts papers old state
    → (taken facts papers state (decided facts state request)).now ≡ state.now → IsAfter facts papers old (taken facts papers state (decided facts state request))
request_after facts papers old state request order after stays = go (newly state.now (decided facts state request)) refl
  where
    by_decision : (d : Decision) → decided facts state request ≡ d → IsAfter facts papers old (taken facts papers state d) → IsAfter facts papers old (taken facts papers state (decided facts state request))
    by_decision d e h = subst (λ (z : Decision). IsAfter facts papers old (taken facts papers state z)) (sym e) h

    accepted : (act : Act) → Accepts facts state request.by request.ask act → IsAfter facts papers old (taken facts papers state (decided facts state request))
    accepted act (NewAnswer row asks is n decides) =
        by_decision (Note row) decides (answer_after facts papers old state row after (is_open state.now facts.rounds row.window n.opened).0
        (is_noted (answer_facts facts (view_of state row.cand.0) row) row n.next))
    accepted act (NewRaise row code asks found known is n decides) =
        by_decision (Lift row) decides (raise_after facts papers old state row after (was_lift facts state row (subst (λ z. row.prog.0 < length z) (sym order.programmes) found.below) n.next))
    accepted act (LastCut window asks is n last decides) = absurd (let e : (taken facts papers state Finish).now ≡ state.now = cc in omega (arith, e))
    accepted act (NewCut window asks is n less decides) = absurd (let e : (taken facts papers state Publish).now ≡ state.now = cc in omega (arith, e))

    go : (o : Option Act) → newly state.now (decided facts state request) ≡ o → IsAfter facts papers old (taken facts papers state (decided facts state request))
    go None e = subst (IsAfter facts papers old) (sym (nothing_new facts papers state (decided facts state request) e)) after
    go (Some act) e = accepted act (accepts facts state request.by request.ask act e)

-- ---- along a script

never_back : (facts : SeasonFacts) (papers : Papers) (state : State) (decision : Decision) → state.now ≤ (taken facts papers state decision).now
never_back facts papers state Publish = omega arith
never_back facts papers state Finish = omega arith
never_back facts papers state _ = omega arith

module _ (facts : SeasonFacts) (script : List Request) (papers : Papers) where
  -- the state before the next request of a script
  stepped : (j : ℕ) → j < length script → (request : Request) × (slice_get script j ≡ Some request)
      × (before facts script papers (suc j) ≡ taken facts papers (before facts script papers j) (decided facts (before facts script papers j) request))
  stepped j less =
      let request = there_is script j less in
      (request.0, request.1, ap (before facts script papers) (sym (add-one j)) ∙ before_next facts script papers j request.0 request.1)

  step_on : (j : ℕ) → j < length script → (before facts script papers j).now ≤ (before facts script papers (suc j)).now
  step_on j less =
      let step = stepped j less in
      let grows = never_back facts papers (before facts script papers j) (decided facts (before facts script papers j) step.0) in
      omega (arith, grows, ap (λ (s : State). s.now) step.2)

  later_on : (i n j : ℕ) → j ≡ n + i → j ≤ length script → (before facts script papers i).now ≤ (before facts script papers j).now
  later_on i zero j is within = let same = ap (λ (k : ℕ). (before facts script papers k).now) (let e : j ≡ i = omega (arith, is) in e) in omega (arith, same)
  later_on i (suc n) j is within =
      let same = ap (λ (k : ℕ). (before facts script papers k).now) (let e : j ≡ suc (n + i) = omega (arith, is) in e) in
      let rest = later_on i n (n + i) refl (omega (arith, is, within)) in
      omega (arith, rest, step_on (n + i) (omega (arith, is, within)), same)

  -- up to the next cut
  until : ((k : ℕ) → k ≤ length script → IsInOrder facts (before facts script papers k)) → (i n j : ℕ) (request : Request) → slice_get script i ≡ Some request
      → decided facts (before facts script papers i) request ≡ Publish → (before facts script papers i).now < facts.rounds → j ≡ n + suc i → j ≤ length script
      → (before facts script papers j).now ≡ (before facts script papers i).now + 1 → IsAfter facts papers (before facts script papers i) (before facts script papers j)
  until order i zero j request there publishes early is within same =
      let old = before facts script papers i in
      let at : j ≡ i + 1 = omega (arith, is) in
      let made : before facts script papers j ≡ with_round old (round_of facts papers old) =
      ap (before facts script papers) at ∙ (before_next facts script papers i request there ∙ ap (taken facts papers old) publishes) in
      subst (IsAfter facts papers old) (sym made) (at_the_cut facts papers old (order i (omega (arith, is, within))) early)
  until order i (suc n) j request there publishes early is within same =
      let old = before facts script papers i in
      let here = before facts script papers (n + suc i) in
      let made : (before facts script papers (suc i)).now ≡ old.now + 1 =
      ap (λ (s : State). s.now) (ap (before facts script papers) (sym (add-one i)) ∙ before_next facts script papers i request there) ∙ ap (λ (d : Decision). (taken facts papers old d).now) publishes in
      let at : j ≡ suc (n + suc i) = omega (arith, is) in
      let last = ap (λ (k : ℕ). (before facts script papers k).now) at in
      let low = later_on (suc i) n (n + suc i) refl (omega (arith, is, within)) in
      let now : here.now ≡ old.now + 1 = omega (arith, made, low, step_on (n + suc i) (omega (arith, is, within)), last, same) in
      let rest = until order i n (n + suc i) request there publishes early refl (omega (arith, is, within)) now in
      let step = stepped (n + suc i) (omega (arith, is, within)) in
      let stays : (taken facts papers here (decided facts here step.0)).now ≡ here.now = (let e = ap (λ (s : State). s.now) step.2 in omega (arith, e, last, same, now)) in
      subst (IsAfter facts papers old) (sym (ap (before facts script papers) at ∙ step.2))
      (request_after facts papers old here step.0 (order (n + suc i) (omega (arith, is, within))) rest stays)

  -- the cut of a window comes after that of the window before
  in_turn : (i j : ℕ) → i < length script → (before facts script papers j).now ≡ (before facts script papers i).now + 1 → i < j
  in_turn i j within next = elim (cases_lt i j) [
    | inl less ↦ less
    | inr few ↦ absurd (omega (arith, later_on j (i - j) i (omega (arith, few)) (omega (arith, within)), next))
  ]

-- ---- two cuts that follow each other

-- A cut that broke no clause, and a state before the next cut.
pub record AreCuts (facts : SeasonFacts) (papers : Papers) (old state : State) : Type 0 where
  sound : IsSound facts
  early : old.now < facts.rounds
  order : IsInOrder facts old
  holds : CutHolds facts papers old
  next_order : IsInOrder facts state
  after : IsAfter facts papers old state

pub are_cuts : (facts : SeasonFacts) (script : List Request) (papers : Papers) → IsSound facts → ((j : ℕ) → j ≤ length script → IsInOrder facts (before facts script papers j))
    → (i j : ℕ) (request other : Request) → slice_get script i ≡ Some request → slice_get script j ≡ Some other → decided facts (before facts script papers i) request ≡ Publish
    → HoldsAt facts papers (before facts script papers i) (decided facts (before facts script papers i) request) → (before facts script papers i).now < facts.rounds
    → (before facts script papers j).now ≡ (before facts script papers i).now + 1 → AreCuts facts papers (before facts script papers i) (before facts script papers j)
are_cuts facts script papers sound order i j request other there there' publishes holds' early next =
    let within = slice_get_within script i request there in
    let within' = slice_get_within script j other there' in
    let less = in_turn facts script papers i j within next in
    record {
      sound = sound;
      early = early;
      order = order i (omega (arith, within));
      holds = subst (λ (d : Decision). HoldsAt facts papers (before facts script papers i) d) publishes holds';
      next_order = order j (omega (arith, within'));
      after = until facts script papers order i (j - suc i) j request there publishes early (omega (arith, less)) (omega (arith, within')) next;
    }

module _ (facts : SeasonFacts) (papers : Papers) (old state : State) (cuts : AreCuts facts papers old state) where
  -- the seats of the programmes only rise
  pub raised_since : OneStepChanges → IsRaised (matrix_at facts old) (matrix_at facts state)
  raised_since law =
      subst (IsRaised (matrix_at facts old)) (sym (matrix_since facts papers old state cuts.after)) (raised_well law (matrix_at facts old) cuts.after.rows cuts.order.seats cuts.after.lifts).1

  module _ (i : ℕ) (person : Person) (there : slice_get facts.people i ≡ Some person) where
    abbrev id : ℕ
    id = person.id.0

    abbrev stood : Standing
    stood = standing_at facts (view_of old id) id old.now

    given : seat_of facts (Some (round_of facts papers old)) id ≡ seat_given papers old id
    given = seat_of_told facts papers old i person cuts.sound there

    -- the seat of the last round is the one that its text gives
    seat_now : last_seat facts state.rounds id ≡ seat_given papers old id
    seat_now = ap (λ (rounds : List Round). last_seat facts rounds id) cuts.after.rounds ∙ (last_is facts old (round_of facts papers old) id ∙ given)

    cut_well : FitsCut (left_by facts (view_of state id) id state.now) (next_seek facts old id) (seat_given papers old id)
    cut_well =
        let place = λ (o : Option Seat). option_map (λ (seat : Seat). place_of (list_of facts.lists id) seat.prog.0) o in
        let fits = cut_fits stood (place (last_seat facts old.rounds id)) (seat_given papers old id)
        (λ keeps.
        let seat = some_value (last_seat facts old.rounds id) (cuts.order.seated id (let few = cuts.early in omega (arith, few)) keeps) in
        subst (λ (o : Option Seat). IsSome (place o)) (sym seat.1) refl)
        (λ keeps. cuts.holds.stayed i person there keeps) in
        subst (λ (s : Standing). FitsCut s (next_seek facts old id) (seat_given papers old id)) (sym (cuts.after.left id ∙ ap (after_cut stood) given)) fits

    -- the candidate applied for whatever they seek at the next cut
    person_applied : (p : ℕ) → place_of (sought_by facts state id) p < length (sought_by facts state id) → applies p (sought_by facts old id) (seat_given papers old id) ≡ true
    person_applied p wanted =
        let table = matrix_at facts old in
        let list = list_of facts.lists id in
        let standing = standing_at facts (view_of state id) id state.now in
        let seek : next_seek facts state id ≡ seek_next list standing (seat_given papers old id) = ap (λ (o : Option Seat). seek_next list standing o) seat_now in
        let leaves : sought_by facts state id ≡ seek_leaves table (seek_next list standing (seat_given papers old id)) list =
        ap (λ (q : Seek). seek_leaves (matrix_at facts state) q list) seek
        ∙ leaves_same table (matrix_at facts state) (seek_next list standing (seat_given papers old id)) list (cuts.next_order.programmes ∙ sym cuts.order.programmes) in
        let came = subst (λ (o : Option Seat). Answered (left_by facts (view_of state id) id state.now) standing o) seat_now (cuts.after.answers id) in
        sought_again table list (own_there facts facts.matrix i person cuts.sound refl there).distinct (next_seek facts old id) (left_by facts (view_of state id) id state.now) p
        standing (seat_given papers old id) cut_well came (cuts.holds.sought i person there)
        (left_there table (seek_next list standing (seat_given papers old id)) list p (subst (λ (l : List ProgId). place_of l p < length l) leaves wanted))

  -- so the second cut has the next market
  pub next_market_told : IsNextMarket (seekers_at facts old) (seats_told (rows_after papers old.now) facts.people) (seekers_at facts state)
  next_market_told = record {
    same = full_seekers facts state cuts.sound ∙ sym (full_seekers facts old cuts.sound);
    persons = λ i s t there there'.
        let first = (enters facts old i s cuts.sound there).person_at in
        let second = (enters facts state i t cuts.sound there').person_at in
        cc;
    narrowed = λ p i s t seat there there' has wanted.
        let first = enters facts old i s cuts.sound there in
        let second = enters facts state i t cuts.sound there' in
        let one : t.person ≡ s.person = (let a = first.person_at in let b = second.person_at in cc) in
        let told = map_at (λ (person : Person). seat_told (rows_after papers old.now) person.id.0) facts.people i s.person first.person_at in
        let mine : seat ≡ seat_given papers old s.person.id.0 = cc in
        let leaves : t.list ≡ sought_by facts state s.person.id.0 = second.leaves ∙ ap (λ (person : Person). sought_by facts state person.id.0) one in
        subst (λ (o : Option Seat). applies p s.list o ≡ true) (sym mine)
        (subst (λ (l : List ProgId). applies p l (seat_given papers old s.person.id.0) ≡ true) (sym first.leaves)
        (person_applied i s.person first.person_at p (subst (λ (l : List ProgId). place_of l p < length l) leaves wanted)));
  }
