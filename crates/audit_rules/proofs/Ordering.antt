-- A replay whose cuts broke no clause stays in order.
use Rattle.std.proofs.Common.{◌≡◌, ◌<◌, ◌+◌, inl, inr, ℕ, zero, suc, add-one, Bool, true, false, not, List, [], ◌∷◌, ◌++◌, Option, Some, None, length, take, arith, refl, sym, ap, ◌∙◌, subst, nat_lt}
use Rattle.std.specs.Prelude.{◌&&◌, IsSome, option_map, slice_get}
use Rattle.std.specs.Option.{option_and_then}
use Rattle.std.proofs.lemmas.Bool.{cases_eq}
use Rattle.std.proofs.lemmas.List.{length-append, take_more}
use Rattle.std.proofs.lemmas.Option.{get_or_from_slice_get, slice_get-map, slice_get_within}
use Rattle.office_base.proofs.People.{at_person-get}
use Rattle.office_base.specs.Limits.{most_turns}
use Rattle.office_base.specs.Person.{at_person}
use Rattle.office_base.specs.declared.choice.Choice.{Choice}
use Rattle.office_base.specs.declared.choice.Choice.TheVariants.{Freeze}
use Rattle.office_asks.specs.declared.ask.Request.{Request}
use Rattle.office_base.specs.declared.seat.Seat.{Seat}
use Rattle.office_base.specs.declared.person.Person.{Person}
use Rattle.office_base.proofs.Options.{some_value}
use Rattle.office_base.proofs.Lists.{get-after}
use Rattle.allocations.specs.Fair.{IsOwn}
use Rattle.allocations.specs.Market.{place_of}
use Rattle.choice_lists.specs.Choices.{list_of}
use Rattle.kept_rows.specs.declared.rows.AllotRow.{AllotRow}
use Rattle.kept_rows.specs.declared.rows.AnswerRow.{AnswerRow}
use Rattle.kept_rows.specs.declared.rows.RaiseRow.{RaiseRow}
use Rattle.seat_matrix.specs.Laws.{OneStepChanges}
use Rattle.seat_matrix.specs.Matrix.{AreSeats}
use Rattle.rounds.specs.declared.round.Round.{Round}
use Rattle.round_laws.proofs.People.{stands_at}
use Rattle.round_options.specs.Options.{after_cut, holds, may_follow, standing_of}
use Rattle.round_options.specs.declared.standing.Standing.{Standing}
use Rattle.office_moves.specs.Decided.{answer_facts, decided}
use Rattle.office_moves.specs.Facts.{IsSound, SeasonFacts}
use Rattle.office_moves.specs.History.{newly}
use Rattle.office_moves.specs.Judge.{choice_of, is_gone, is_withdraw, judge_next_answer, refuse_if}
use Rattle.office_moves.specs.Moves.{next_seek}
use Rattle.office_moves.specs.Raised.{matrix_at, raised}
use Rattle.office_moves.specs.State.{State, View, answered, in_window, last_seat, left_by, opening, round_at, rows_of, seat_in, seat_of, standing_at, view_of, with_finals, with_raise, with_round, with_row}
use Rattle.office_moves.specs.declared.decide.AnswerFacts.{AnswerFacts}
use Rattle.office_moves.specs.declared.decide.Decision.{Decision}
use Rattle.office_moves.specs.declared.decide.Decision.TheVariants.{Note, Lift, Publish, Finish}
use Rattle.office_moves.specs.declared.moves.Act.{Act}
use Rattle.office_moves.specs.declared.refusal.Refusal.{Refusal}
use Rattle.office_moves.specs.declared.refusal.Refusal.TheVariants.{Gone, NoSeat, TooManyTurns, Widening}
use Rattle.office_moves.proofs.Rising.{IsLift, raised_append, raised_well}
use Rattle.history_laws.proofs.Changes.{Accepts, LastCut, NewAnswer, NewCut, NewRaise, accepts}
use Rattle.history_laws.proofs.Entering.{own_there}
use Rattle.history_laws.proofs.Fits.{held_over, seat_at_place, seat_of_some}
use Rattle.history_laws.proofs.Rows.{answered_last, window_more, window_same}
pub use Rattle.history_laws.proofs.Accepted.{is_open}
pub use Rattle.history_laws.proofs.Raises.{was_lift}
use Rattle.audit_rules.specs.Cut.{CutHolds, HoldsAt, seat_given, sought_by}
use Rattle.audit_rules.specs.InOrder.{IsInOrder}
use Rattle.audit_rules.specs.Papers.{Papers, rows_after, seat_told, seats_told}
use Rattle.audit_rules.specs.Replay.{before, finals_of, replayed, round_of, taken}

-- ---- an answer that is noted

next_tests : (gone none wide many : Bool) (how first second third : Refusal) (row : AnswerRow)
    → refuse_if gone how (refuse_if none first (refuse_if wide second (refuse_if many third (Note row)))) ≡ Note row → none ≡ false
next_tests false false false false how first second third row h = refl
next_tests _ _ _ _ how first second third row h = absurd (cc)

holder_has : (has : Bool) (choice : Choice) → not has && not (is_withdraw choice) ≡ false → holds (standing_of choice) ≡ true → has ≡ true
holder_has true choice e h = refl
holder_has false Freeze e h = absurd (cc)
holder_has false _ e h = absurd (cc)

-- a candidate who keeps a seat by a noted answer has one
noted_seated : (looks : AnswerFacts) (row : AnswerRow) → judge_next_answer looks row ≡ Note row → holds (standing_of row.choice) ≡ true → looks.seated ≡ true
noted_seated looks row e h =
    let none = next_tests (is_gone looks.standing) (not looks.seated && not (is_withdraw row.choice)) (not (may_follow looks.left row.choice)) (nat_lt most_turns row.turn && not (is_withdraw row.choice))
    (Gone looks.standing) NoSeat (Widening (choice_of looks.left)) TooManyTurns row e in
    holder_has looks.seated row.choice none h

-- ---- how cuts left a candidate

-- the same rows of the windows before, and the same seats, leave the same
pub left_same : (facts : SeasonFacts) (a b : View) (id n : ℕ) → ((w : ℕ) → w < n → in_window w a.rows ≡ in_window w b.rows)
    → ((w : ℕ) → w < n → seat_in facts a.rounds (suc w) id ≡ seat_in facts b.rounds (suc w) id) → left_by facts a id n ≡ left_by facts b id n
left_same facts a b id zero rows seats = refl
left_same facts a b id (suc n) rows seats =
    let rest = left_same facts a b id n (λ w less. rows w (omega (arith, less))) (λ w less. seats w (omega (arith, less))) in
    ap (λ (s : Standing). after_cut (answered s (in_window n a.rows)) (seat_in facts a.rounds (suc n) id)) rest
    ∙ (ap (λ (z : List AnswerRow). after_cut (answered (left_by facts b id n) z) (seat_in facts a.rounds (suc n) id)) (rows n (omega arith))
    ∙ ap (λ (o : Option Seat). after_cut (answered (left_by facts b id n) (in_window n b.rows)) o) (seats n (omega arith)))

get_before : {X : Type 0} (xs ys : List X) (i : ℕ) → i < length xs → slice_get (xs ++ ys) i ≡ slice_get xs i
get_before [] ys i less = absurd (omega arith)
get_before (x ∷ xs) ys zero less = refl
get_before (x ∷ xs) ys (suc i) less = get_before xs ys i (omega (arith, less))

-- an answer of the open window changes nothing of what the cuts left
pub row_left : (facts : SeasonFacts) (old : State) (row : AnswerRow) (id : ℕ) → row.window ≡ old.now
    → left_by facts (view_of (with_row old row) id) id old.now ≡ left_by facts (view_of old id) id old.now
row_left facts old row id opened =
    left_same facts (view_of (with_row old row) id) (view_of old id) id old.now (λ w less. window_same w id old.answers row (λ own at. omega (arith, opened, less, at))) (λ w less. refl)

-- the round is the last
pub last_is : (facts : SeasonFacts) (old : State) (round : Round) (id : ℕ) → last_seat facts (with_round old round).rounds id ≡ seat_of facts (Some round) id
last_is facts old round id =
    let size : length (old.rounds ++ round ∷ []) ≡ suc (length old.rounds) = length-append old.rounds (round ∷ []) ∙ add-one (length old.rounds) in
    ap (λ (n : ℕ). seat_in facts (old.rounds ++ round ∷ []) n id) size ∙ ap (λ (o : Option Round). seat_of facts o id) (get-after old.rounds round [])

-- a cut leaves a candidate by the standing and the seat of the new round
pub cut_left : (facts : SeasonFacts) (old : State) (round : Round) (id : ℕ) → length old.rounds ≡ old.now
    → left_by facts (view_of (with_round old round) id) id (old.now + 1) ≡ after_cut (standing_at facts (view_of old id) id old.now) (seat_of facts (Some round) id)
cut_left facts old round id same =
    let rounds = old.rounds ++ round ∷ [] in
    let view = view_of (with_round old round) id in
    let seat : seat_in facts rounds (suc old.now) id ≡ seat_of facts (Some round) id =
    ap (λ (n : ℕ). seat_of facts (slice_get rounds n) id) (sym same) ∙ ap (λ (o : Option Round). seat_of facts o id) (get-after old.rounds round []) in
    let rest = left_same facts view (view_of old id) id old.now (λ w less. refl)
    (λ w less. ap (λ (o : Option Round). seat_of facts o id) (get_before old.rounds (round ∷ []) w (omega (arith, less, same)))) in
    ap (λ (n : ℕ). left_by facts view id n) (add-one old.now)
    ∙ (ap (λ (s : Standing). after_cut (answered s (in_window old.now (rows_of id old.answers))) (seat_in facts rounds (suc old.now) id)) rest
    ∙ ap (λ (o : Option Seat). after_cut (standing_at facts (view_of old id) id old.now) o) seat)

-- nobody answered in the new window
pub cut_stands : (facts : SeasonFacts) (old : State) (round : Round) (id : ℕ) → IsInOrder facts old → old.now < facts.rounds
    → standing_at facts (view_of (with_round old round) id) id (old.now + 1) ≡ after_cut (standing_at facts (view_of old id) id old.now) (seat_of facts (Some round) id)
cut_stands facts old round id here less =
    ap (λ (z : List AnswerRow). answered (left_by facts (view_of (with_round old round) id) id (old.now + 1)) z) (here.later (old.now + 1) id (omega arith))
    ∙ cut_left facts old round id (here.order (omega (arith, less)))

-- ---- the seats that the round's text gives

pub seat_of_told : (facts : SeasonFacts) (papers : Papers) (state : State) (at : ℕ) (person : Person) → IsSound facts → slice_get facts.people at ≡ Some person
    → seat_of facts (Some (round_of facts papers state)) person.id.0 ≡ seat_given papers state person.id.0
seat_of_told facts papers state at person sound there =
    let seats = seats_told (rows_after papers state.now) facts.people in
    let mapped : slice_get seats at ≡ Some (seat_given papers state person.id.0) =
    slice_get-map (λ (p : Person). seat_told (rows_after papers state.now) p.id.0) facts.people at ∙ ap (λ (o : Option Person). option_map (λ (p : Person). seat_told (rows_after papers state.now) p.id.0) o) there in
    ap (λ (o : Option (Option Seat)). option_and_then (λ s. s) o) (at_person-get facts.people seats at person sound.ranks.rising there ∙ mapped)

-- a candidate who has a seat of a round is one of the people
pub record IsPerson (facts : SeasonFacts) (id : ℕ) : Type 0 where
  pub at : ℕ
  pub person : Person
  pub there : slice_get facts.people at ≡ Some person
  pub is : person.id.0 ≡ id

seated_person : (facts : SeasonFacts) (o : Option Round) (id : ℕ) (seat : Seat) → seat_of facts o id ≡ Some seat → IsPerson facts id
seated_person facts None id seat e = absurd (cc)
seated_person facts (Some round) id seat e =
    let stands = stands_at id facts.people round.seats (Some seat) (seat_of_some (at_person id facts.people round.seats) seat e) in
    record { at = stands.place; person = stands.person; there = stands.person_at; is = stands.is }

-- a candidate who keeps a seat is one of the people
pub holder_is : (facts : SeasonFacts) (state : State) (id : ℕ) → IsSome (last_seat facts state.rounds id) → IsPerson facts id
holder_is facts state id has = let seat = some_value (last_seat facts state.rounds id) has in seated_person facts (round_at state.rounds (length state.rounds)) id seat.0 seat.1

-- ---- one request

pub in_order_at_first : (facts : SeasonFacts) → IsSound facts → IsInOrder facts opening
in_order_at_first facts sound = record {
  order = λ few. refl;
  later = λ window id less. refl;
  seated = λ id few keeps. absurd (cc);
  own = λ id seat e. absurd (cc);
  seats = sound.seats;
  programmes = refl;
}

standing_more : (facts : SeasonFacts) (old : State) (row : AnswerRow) → row.window ≡ old.now
    → standing_at facts (view_of (with_row old row) row.cand.0) row.cand.0 old.now ≡ standing_of row.choice
standing_more facts old row opened =
    ap (λ (z : List AnswerRow). answered (left_by facts (view_of (with_row old row) row.cand.0) row.cand.0 old.now) z) (window_more old.now row.cand.0 old.answers row refl opened)
    ∙ answered_last (left_by facts (view_of (with_row old row) row.cand.0) row.cand.0 old.now) (in_window old.now (rows_of row.cand.0 old.answers)) row

standing_other : (facts : SeasonFacts) (old : State) (row : AnswerRow) (id : ℕ) → row.window ≡ old.now → (row.cand.0 ≡ id → ⊥)
    → standing_at facts (view_of (with_row old row) id) id old.now ≡ standing_at facts (view_of old id) id old.now
standing_other facts old row id opened other =
    ap (λ (z : List AnswerRow). answered (left_by facts (view_of (with_row old row) id) id old.now) z) (window_same old.now id old.answers row (λ own at. other own))
    ∙ ap (λ (s : Standing). answered s (in_window old.now (rows_of id old.answers))) (row_left facts old row id opened)

with_answer : (facts : SeasonFacts) (old : State) (row : AnswerRow) → IsInOrder facts old → row.window ≡ old.now → (holds (standing_of row.choice) ≡ true → IsSome (last_seat facts old.rounds row.cand.0))
    → IsInOrder facts (with_row old row)
with_answer facts old row here opened seated = record {
  order = here.order;
  later = λ window id less. window_same window id old.answers row (λ own at. omega (arith, opened, less, at)) ∙ here.later window id less;
  seated = λ id few keeps. elim (cases_eq row.cand.0 id) [
    | inl own ↦ subst (λ (n : ℕ). IsSome (last_seat facts old.rounds n)) own
        (seated (sym (ap holds (standing_more facts old row opened)) ∙ subst (λ (n : ℕ). holds (standing_at facts (view_of (with_row old row) n) n old.now) ≡ true) (sym own) keeps))
    | inr other ↦ here.seated id few (sym (ap holds (standing_other facts old row id opened other)) ∙ keeps)
  ];
  own = here.own;
  seats = here.seats;
  programmes = here.programmes;
}

pub with_lift : OneStepChanges → (facts : SeasonFacts) (old : State) (row : RaiseRow) → IsInOrder facts old → IsLift (matrix_at facts old) row → IsInOrder facts (with_raise old row)
with_lift law facts old row here lift =
    let matrix : matrix_at facts (with_raise old row) ≡ raised (matrix_at facts old) (row ∷ []) = raised_append facts.matrix old.raises (row ∷ []) in
    let well = raised_well law (matrix_at facts old) (row ∷ []) here.seats (lift, tt) in
    record {
      order = here.order;
      later = here.later;
      seated = here.seated;
      own = here.own;
      seats = subst AreSeats (sym matrix) well.0;
      programmes = ap (λ z. z.programmes) matrix ∙ (well.1.programmes ∙ here.programmes);
    }

-- the seat that the round's text gives is of a programme on the candidate's own list
own_told : (facts : SeasonFacts) (papers : Papers) (old : State) (id : ℕ) (seat : Seat) → IsSound facts → CutHolds facts papers old → seat_of facts (Some (round_of facts papers old)) id ≡ Some seat
    → place_of (list_of facts.lists id) seat.prog.0 < length (list_of facts.lists id)
own_told facts papers old id seat sound holds e =
    let who = seated_person facts (Some (round_of facts papers old)) id seat e in
    let given : seat_given papers old who.person.id.0 ≡ Some seat =
    sym (seat_of_told facts papers old who.at who.person sound who.there) ∙ subst (λ (n : ℕ). seat_of facts (Some (round_of facts papers old)) n ≡ Some seat) (sym who.is) e in
    let sought : IsOwn (sought_by facts old who.person.id.0) (Some seat) = subst (IsOwn (sought_by facts old who.person.id.0)) given (holds.sought who.at who.person who.there) in
    let list = list_of facts.lists who.person.id.0 in
    let at = seat_at_place (matrix_at facts old) (next_seek facts old who.person.id.0) list seat (own_there facts facts.matrix who.at who.person sound refl who.there).distinct sought in
    subst (λ (n : ℕ). place_of (list_of facts.lists n) seat.prog.0 < length (list_of facts.lists n)) who.is (slice_get_within list (place_of list seat.prog.0) seat.prog at.there)

pub published : (facts : SeasonFacts) (papers : Papers) (old : State) → IsSound facts → IsInOrder facts old → old.now < facts.rounds → CutHolds facts papers old
    → IsInOrder facts (with_round old (round_of facts papers old))
published facts papers old sound here less holds' =
    let round = round_of facts papers old in
    record {
      order = λ few. length-append old.rounds (round ∷ []) ∙ ap (λ (n : ℕ). n + 1) (here.order (omega (arith, less)));
      later = λ window id late. here.later window id (omega (arith, late));
      seated = λ id few keeps.
          let kept = held_over (standing_at facts (view_of old id) id old.now) (seat_of facts (Some round) id) (sym (ap holds (cut_stands facts old round id here less)) ∙ keeps) in
          let who = holder_is facts old id (here.seated id (omega (arith, less)) kept) in
          let stayed = holds'.stayed who.at who.person who.there (subst (λ (n : ℕ). holds (standing_at facts (view_of old n) n old.now) ≡ true) (sym who.is) kept) in
          let given = subst (λ (o : Option Seat). IsSome o) (sym (seat_of_told facts papers old who.at who.person sound who.there)) stayed in
          subst (λ (o : Option Seat). IsSome o) (sym (last_is facts old round id)) (subst (λ (n : ℕ). IsSome (seat_of facts (Some round) n)) who.is given);
      own = λ id seat e. own_told facts papers old id seat sound holds' (sym (last_is facts old round id) ∙ e);
      seats = here.seats;
      programmes = here.programmes;
    }

pub finished : (facts : SeasonFacts) (old : State) (rows : List AllotRow) → IsInOrder facts old → old.now ≡ facts.rounds → IsInOrder facts (with_finals old rows)
finished facts old rows here last = record {
  order = λ few. absurd (omega (arith, few, last));
  later = λ window id late. here.later window id (omega (arith, late));
  seated = λ id few keeps. absurd (omega (arith, few, last));
  own = here.own;
  seats = here.seats;
  programmes = here.programmes;
}

-- what is not newly accepted changes nothing
pub nothing_new : (facts : SeasonFacts) (papers : Papers) (state : State) (decision : Decision) → newly state.now decision ≡ None → taken facts papers state decision ≡ state
nothing_new facts papers state (Note row) e = absurd (cc)
nothing_new facts papers state (Lift row) e = absurd (cc)
nothing_new facts papers state Publish e = absurd (cc)
nothing_new facts papers state Finish e = absurd (cc)
nothing_new facts papers state _ e = refl

pub in_order_next : OneStepChanges → (facts : SeasonFacts) (papers : Papers) (state : State) (request : Request) → IsSound facts → IsInOrder facts state
    → HoldsAt facts papers state (decided facts state request) → IsInOrder facts (taken facts papers state (decided facts state request))
in_order_next law facts papers state request sound here holds' = go (newly state.now (decided facts state request)) refl
  where
    by_decision : (d : Decision) → decided facts state request ≡ d → IsInOrder facts (taken facts papers state d) → IsInOrder facts (taken facts papers state (decided facts state request))
    by_decision d e h = subst (λ (z : Decision). IsInOrder facts (taken facts papers state z)) (sym e) h

    accepted : (act : Act) → Accepts facts state request.by request.ask act → IsInOrder facts (taken facts papers state (decided facts state request))
    accepted act (NewAnswer row asks is n decides) =
        let opened = (is_open state.now facts.rounds row.window n.opened).0 in
        by_decision (Note row) decides (with_answer facts state row here opened (λ keeps. noted_seated (answer_facts facts (view_of state row.cand.0) row) row n.next keeps))
    accepted act (NewRaise row code asks found known is n decides) =
        by_decision (Lift row) decides (with_lift law facts state row here (was_lift facts state row (subst (λ z. row.prog.0 < length z) (sym here.programmes) found.below) n.next))
    accepted act (LastCut window asks is n last decides) = by_decision Finish decides (finished facts state (finals_of papers) here last)
    accepted act (NewCut window asks is n less decides) =
        by_decision Publish decides (published facts papers state sound here less (subst (λ (z : Decision). HoldsAt facts papers state z) decides holds'))

    go : (o : Option Act) → newly state.now (decided facts state request) ≡ o → IsInOrder facts (taken facts papers state (decided facts state request))
    go None e = subst (IsInOrder facts) (sym (nothing_new facts papers state (decided facts state request) e)) here
    go (Some act) e = accepted act (accepts facts state request.by request.ask act e)

-- ---- a script

replayed_append : (facts : SeasonFacts) (papers : Papers) (state : State) (some more : List Request) → replayed facts papers state (some ++ more) ≡ replayed facts papers (replayed facts papers state some) more
replayed_append facts papers state [] more = refl
replayed_append facts papers state (request ∷ some) more = replayed_append facts papers (taken facts papers state (decided facts state request)) some more

-- the state after the request at a place
pub before_next : (facts : SeasonFacts) (script : List Request) (papers : Papers) (j : ℕ) (request : Request) → slice_get script j ≡ Some request
    → before facts script papers (j + 1) ≡ taken facts papers (before facts script papers j) (decided facts (before facts script papers j) request)
before_next facts script papers j request there =
    let less = slice_get_within script j request there in
    ap (replayed facts papers opening) (take_more script j request less ∙ ap (λ (z : Request). take j script ++ z ∷ []) (get_or_from_slice_get script j request request there))
    ∙ replayed_append facts papers opening (take j script) (request ∷ [])
