-- What was accepted in a season can be accepted window after window: the raises of a window in their order, then its answers in theirs, then its cut.
use Rattle.std.proofs.Common.{◌≡◌, ◌≢◌, ◌≤◌, ◌<◌, ◌+◌, ◌++◌, ◌==◌, ℕ, zero, suc, Bool, true, List, [], ◌∷◌, Option, Some, None, length, map, arith, refl, sym, ap, ◌∙◌, subst, if◌then◌else◌, append-nil}
use Rattle.std.specs.Prelude.{is_some}
use Rattle.std.proofs.lemmas.Bool.{and_from, cond-false, eq-eqb, lt-ltb, ne_eqb}
use Rattle.std.proofs.lemmas.List.{length-append, map-append}
use Rattle.office_base.proofs.Lists.{get-before}
use Rattle.office_base.specs.declared.seat.Seat.{Seat}
use Rattle.kept_rows.specs.declared.rows.AllotRow.{AllotRow}
use Rattle.kept_rows.specs.declared.rows.AnswerRow.{AnswerRow}
use Rattle.kept_rows.specs.declared.rows.RaiseRow.{RaiseRow}
use Rattle.rounds.specs.declared.round.Round.{Round}
use Rattle.office_moves.specs.Facts.{SeasonFacts}
use Rattle.office_moves.specs.State.{State, in_window, opening, round_at, seat_in, seat_of, with_finals, with_raise, with_round, with_row}
use Rattle.office_moves.specs.Decided.{decided}
use Rattle.office_moves.specs.Moves.{IsMove, final_rows}
use Rattle.office_moves.specs.History.{Reaches, asked, newly}
use Rattle.office_moves.specs.Stands.{published_seat, raises_in, seat_in_finals}
use Rattle.office_moves.specs.declared.moves.Act.{Act}
use Rattle.office_moves.specs.declared.moves.Act.TheVariants.{Answer, Raise, Cut}
use Rattle.office_moves.specs.declared.moves.Entry.{Entry}
use Rattle.office_moves.specs.declared.moves.Reply.{Reply}
use Rattle.history_laws.proofs.Changes.{Answered, Change, Finishes, Publishes, Raised, changes}
use Rattle.history_laws.proofs.Accepted.{is_open}
use Rattle.history_laws.proofs.Rows.{lifted_when, window_append}
use Rattle.replays.specs.Replay.{CutPasses, takes, takes_answer, takes_raise, with_act}

-- ---- rows that are accepted one after another

abbrev pub AllTaken : SeasonFacts → List Act → State → State → Type 0
AllTaken facts [] old new = new ≡ old
AllTaken facts (row ∷ rows) old new = (takes facts old row ≡ true) × AllTaken facts rows (with_act old row) new

-- one row more
taken_more : (facts : SeasonFacts) (rows : List Act) (row : Act) (old mid : State) → AllTaken facts rows old mid → takes facts mid row ≡ true
    → AllTaken facts (rows ++ row ∷ []) old (with_act mid row)
taken_more facts [] row old mid all here = let same : mid ≡ old = all in (subst (λ s. takes facts s row ≡ true) same here, ap (λ s. with_act s row) same)
taken_more facts (first ∷ rows) row old mid all here = (all.0, taken_more facts rows row (with_act old first) mid all.1 here)

-- answers leave all but the answers
answers_leave : (facts : SeasonFacts) (rows : List AnswerRow) (old new : State) → AllTaken facts (map Answer rows) old new → (new.now ≡ old.now) × (new.raises ≡ old.raises)
answers_leave facts [] old new all = (ap (λ (s : State). s.now) all, ap (λ (s : State). s.raises) all)
answers_leave facts (row ∷ rows) old new all = answers_leave facts rows (with_row old row) new all.1

-- and are accepted too where a raise more was, since they look at none
answers_beside : (facts : SeasonFacts) (raise : RaiseRow) (rows : List AnswerRow) (old new : State) → AllTaken facts (map Answer rows) old new
    → AllTaken facts (map Answer rows) (with_raise old raise) (with_raise new raise)
answers_beside facts raise [] old new all = ap (λ s. with_raise s raise) all
answers_beside facts raise (row ∷ rows) old new all = (all.0, answers_beside facts raise rows (with_row old row) new all.1)

-- a raise looks at the window and the raises alone
abbrev raise_taken_by : SeasonFacts → RaiseRow → ℕ → List RaiseRow → Bool
raise_taken_by facts row now raises = takes_raise facts (record { now = now; rounds = []; finals = None; answers = []; raises = raises }) row

raise_too : (facts : SeasonFacts) (row : RaiseRow) (old new : State) → new.now ≡ old.now → new.raises ≡ old.raises → takes_raise facts new row ≡ true → takes_raise facts old row ≡ true
raise_too facts row old new now raises taken =
    let same : raise_taken_by facts row new.now new.raises ≡ raise_taken_by facts row old.now old.raises =
    ap (λ n. raise_taken_by facts row n new.raises) now ∙ ap (λ l. raise_taken_by facts row old.now l) raises in
    sym same ∙ taken

-- ---- rows of windows

raises_append : (window : ℕ) (rows : List RaiseRow) (row : RaiseRow) → raises_in window (rows ++ row ∷ []) ≡ raises_in window rows ++ raises_in window (row ∷ [])
raises_append window [] row = refl
raises_append window (first ∷ rows) row =
    ap (λ (l : List RaiseRow). if first.window == window then first ∷ l else l) (raises_append window rows row)
    ∙ lifted_when (first.window == window) first (raises_in window rows) (raises_in window (row ∷ []))

raises_here : (window : ℕ) (rows : List RaiseRow) (row : RaiseRow) → row.window ≡ window → raises_in window (rows ++ row ∷ []) ≡ raises_in window rows ++ row ∷ []
raises_here window rows row same = raises_append window rows row ∙ ap (λ b. raises_in window rows ++ (if b then row ∷ [] else [])) (eq-eqb row.window window same)

raises_elsewhere : (window : ℕ) (rows : List RaiseRow) (row : RaiseRow) → row.window ≢ window → raises_in window (rows ++ row ∷ []) ≡ raises_in window rows
raises_elsewhere window rows row other =
    raises_append window rows row ∙ (ap (λ b. raises_in window rows ++ (if b then row ∷ [] else [])) (ne_eqb row.window window other) ∙ append-nil (raises_in window rows))

answers_here : (window : ℕ) (rows : List AnswerRow) (row : AnswerRow) → row.window ≡ window → in_window window (rows ++ row ∷ []) ≡ in_window window rows ++ row ∷ []
answers_here window rows row same = window_append window rows (row ∷ []) ∙ ap (λ b. in_window window rows ++ (if b then row ∷ [] else [])) (eq-eqb row.window window same)

answers_elsewhere : (window : ℕ) (rows : List AnswerRow) (row : AnswerRow) → row.window ≢ window → in_window window (rows ++ row ∷ []) ≡ in_window window rows
answers_elsewhere window rows row other =
    window_append window rows (row ∷ []) ∙ (ap (λ b. in_window window rows ++ (if b then row ∷ [] else [])) (ne_eqb row.window window other) ∙ append-nil (in_window window rows))

-- ---- windows that are over

-- the rows of a window are accepted: the raises, and then the answers
pub record RowsTaken (facts : SeasonFacts) (raises : List RaiseRow) (answers : List AnswerRow) (old new : State) : Type 0 where
  pub raised : State
  pub first : AllTaken facts (map Raise raises) old raised
  pub second : AllTaken facts (map Answer answers) raised new

-- a window that is over: its rows are accepted, then its cut, which published these seats
pub record IsOver (facts : SeasonFacts) (whole : State) (window : ℕ) (old new : State) : Type 0 where
  pub last : State
  pub rows : RowsTaken facts (raises_in window whole.raises) (in_window window whole.answers) old last
  pub cut : CutPasses facts last new
  pub seats : (id : ℕ) → published_seat facts whole (window + 1) id ≡ published_seat facts new (window + 1) id

-- the first windows, so many, lead to a state, by the rows of the whole
abbrev pub AreOver : SeasonFacts → State → ℕ → State → Type 0
AreOver facts whole zero state = state ≡ opening
AreOver facts whole (suc window) state = (old : State) × AreOver facts whole window old × IsOver facts whole window old state

-- two states say the same of the windows before this one
record SayAlike (facts : SeasonFacts) (a b : State) (window : ℕ) : Type 0 where
  pub raises : (w : ℕ) → w < window → raises_in w b.raises ≡ raises_in w a.raises
  pub answers : (w : ℕ) → w < window → in_window w b.answers ≡ in_window w a.answers
  pub seats : (w id : ℕ) → w < window → published_seat facts b (w + 1) id ≡ published_seat facts a (w + 1) id

over_too : (facts : SeasonFacts) (a b : State) (window : ℕ) (state : State) → SayAlike facts a b window → AreOver facts a window state → AreOver facts b window state
over_too facts a b zero state alike over = over
over_too facts a b (suc window) state alike over =
    let here : window < suc window = omega arith in
    let before : SayAlike facts a b window = record {
      raises = λ w less. alike.raises w (omega (arith, less));
      answers = λ w less. alike.answers w (omega (arith, less));
      seats = λ w id less. alike.seats w id (omega (arith, less));
    } in (
      over.0,
      over_too facts a b window over.0 before over.1,
      record {
        last = over.2.last;
        rows = record {
          raised = over.2.rows.raised;
          first = subst (λ l. AllTaken facts (map Raise l) over.0 over.2.rows.raised) (sym (alike.raises window here)) over.2.rows.first;
          second = subst (λ l. AllTaken facts (map Answer l) over.2.rows.raised over.2.last) (sym (alike.answers window here)) over.2.rows.second;
        };
        cut = over.2.cut;
        seats = λ id. alike.seats window id here ∙ over.2.seats id;
      },
    )

-- ---- along a history

-- A state is reached window by window: those that are over, and then the rows of the open one.
pub record GoesByWindows (facts : SeasonFacts) (state : State) : Type 0 where
  pub begun : State
  pub over : AreOver facts state state.now begun
  pub rows : RowsTaken facts (raises_in state.now state.raises) (in_window state.now state.answers) begun state
  pub later_raises : (window : ℕ) → state.now < window → raises_in window state.raises ≡ []
  pub later_answers : (window : ℕ) → state.now < window → in_window window state.answers ≡ []
  pub order : state.now ≤ facts.rounds → length state.rounds ≡ state.now

goes_at_first : (facts : SeasonFacts) → GoesByWindows facts opening
goes_at_first facts = record {
  begun = opening;
  over = refl;
  rows = record { raised = opening; first = refl; second = refl };
  later_raises = λ window later. refl;
  later_answers = λ window later. refl;
  order = λ few. refl;
}

-- an answer of the open window was accepted
goes_answer : (facts : SeasonFacts) (old : State) (row : AnswerRow) → row.window ≡ old.now → takes_answer facts old row ≡ true → GoesByWindows facts old → GoesByWindows facts (with_row old row)
goes_answer facts old row opened taken here = record {
  begun = here.begun;
  over = over_too facts old (with_row old row) old.now here.begun (record {
    raises = λ w less. refl;
    answers = λ w less. answers_elsewhere w old.answers row (λ e. omega (arith, e, opened, less));
    seats = λ w id less. refl;
  }) here.over;
  rows = record {
    raised = here.rows.raised;
    first = here.rows.first;
    second =
        subst (λ l. AllTaken facts l here.rows.raised (with_row old row))
        (sym (map-append Answer (in_window old.now old.answers) (row ∷ [])) ∙ ap (λ l. map Answer l) (sym (answers_here old.now old.answers row opened)))
        (taken_more facts (map Answer (in_window old.now old.answers)) (Answer row) here.rows.raised old here.rows.second taken);
  };
  later_raises = here.later_raises;
  later_answers = λ window later. answers_elsewhere window old.answers row (λ e. omega (arith, e, opened, later)) ∙ here.later_answers window later;
  order = here.order;
}

-- a raise of the open window was accepted
goes_raise : (facts : SeasonFacts) (old : State) (row : RaiseRow) → row.window ≡ old.now → takes_raise facts old row ≡ true → GoesByWindows facts old → GoesByWindows facts (with_raise old row)
goes_raise facts old row opened taken here =
    let leave = answers_leave facts (in_window old.now old.answers) here.rows.raised old here.rows.second in
    record {
      begun = here.begun;
      over = over_too facts old (with_raise old row) old.now here.begun (record {
        raises = λ w less. raises_elsewhere w old.raises row (λ e. omega (arith, e, opened, less));
        answers = λ w less. refl;
        seats = λ w id less. refl;
      }) here.over;
      rows = record {
        raised = with_raise here.rows.raised row;
        first =
            subst (λ l. AllTaken facts l here.begun (with_raise here.rows.raised row))
            (sym (map-append Raise (raises_in old.now old.raises) (row ∷ [])) ∙ ap (λ l. map Raise l) (sym (raises_here old.now old.raises row opened)))
            (taken_more facts (map Raise (raises_in old.now old.raises)) (Raise row) here.begun here.rows.raised here.rows.first
            (raise_too facts row here.rows.raised old leave.0 leave.1 taken));
        second = answers_beside facts row (in_window old.now old.answers) here.rows.raised old here.rows.second;
      };
      later_raises = λ window later. raises_elsewhere window old.raises row (λ e. omega (arith, e, opened, later)) ∙ here.later_raises window later;
      later_answers = here.later_answers;
      order = here.order;
    }

-- the open window was closed
goes_cut : (facts : SeasonFacts) (old new : State) → new.now ≡ old.now + 1 → new.raises ≡ old.raises → new.answers ≡ old.answers → CutPasses facts old new
    → ((w id : ℕ) → w < old.now → published_seat facts new (w + 1) id ≡ published_seat facts old (w + 1) id) → (new.now ≤ facts.rounds → length new.rounds ≡ new.now)
    → GoesByWindows facts old → GoesByWindows facts new
goes_cut facts old new now raises answers cut seats order here =
    let no_raises : raises_in new.now new.raises ≡ [] = ap (λ l. raises_in new.now l) raises ∙ here.later_raises new.now (omega (arith, now)) in
    let no_answers : in_window new.now new.answers ≡ [] = ap (λ l. in_window new.now l) answers ∙ here.later_answers new.now (omega (arith, now)) in
    let before = over_too facts old new old.now here.begun (record {
      raises = λ w less. ap (λ l. raises_in w l) raises;
      answers = λ w less. ap (λ l. in_window w l) answers;
      seats = seats;
    }) here.over in
    let last : IsOver facts new old.now here.begun new = record {
      last = old;
      rows = record {
        raised = here.rows.raised;
        first = subst (λ l. AllTaken facts (map Raise (raises_in old.now l)) here.begun here.rows.raised) (sym raises) here.rows.first;
        second = subst (λ l. AllTaken facts (map Answer (in_window old.now l)) here.rows.raised old) (sym answers) here.rows.second;
      };
      cut = cut;
      seats = λ id. refl;
    } in
    let count : suc old.now ≡ new.now = omega (arith, now) in
    record {
      begun = new;
      over = subst (λ n. AreOver facts new n new) count (here.begun, before, last);
      rows = record {
        raised = new;
        first = subst (λ l. AllTaken facts (map Raise l) new new) (sym no_raises) refl;
        second = subst (λ l. AllTaken facts (map Answer l) new new) (sym no_answers) refl;
      };
      later_raises = λ window later. ap (λ l. raises_in window l) raises ∙ here.later_raises window (omega (arith, now, later));
      later_answers = λ window later. ap (λ l. in_window window l) answers ∙ here.later_answers window (omega (arith, now, later));
      order = order;
    }

-- a round of a number that was there before is as it was
round_before : (rounds more : List Round) (n : ℕ) → n ≤ length rounds → round_at (rounds ++ more) n ≡ round_at rounds n
round_before rounds more zero few = refl
round_before rounds more (suc before) few = get-before rounds more before (omega (arith, few))

published_before : (facts : SeasonFacts) (old : State) (round : Round) (number id : ℕ) → number ≤ length old.rounds → published_seat facts (with_round old round) number id ≡ published_seat facts old number id
published_before facts old round number id few =
    ap (λ (o : Option Seat). if number == facts.rounds + 1 then seat_in_finals old.finals number id else o) (ap (λ o. seat_of facts o id) (round_before old.rounds (round ∷ []) number few))

finished_before : (facts : SeasonFacts) (old : State) (rows : List AllotRow) (number id : ℕ) → number ≢ facts.rounds + 1
    → published_seat facts (with_finals old rows) number id ≡ published_seat facts old number id
finished_before facts old rows number id other =
    cond-false (number == facts.rounds + 1) (seat_in_finals (Some rows) number id) (seat_in facts old.rounds number id) (ne_eqb number (facts.rounds + 1) other)
    ∙ sym (cond-false (number == facts.rounds + 1) (seat_in_finals old.finals number id) (seat_in facts old.rounds number id) (ne_eqb number (facts.rounds + 1) other))

cut_passes : (facts : SeasonFacts) (old new : State) (act : Act) (reply : Reply) → act ≡ Cut old.now → newly old.now (decided facts old (asked facts act)) ≡ Some act
    → IsMove facts old (asked facts act) reply new → CutPasses facts old new
cut_passes facts old new act reply is accepted moves = record {
  accepted = subst (λ a. newly old.now (decided facts old (asked facts a)) ≡ Some a) is accepted;
  reply = reply;
  moves = subst (λ a. IsMove facts old (asked facts a) reply new) is moves;
}

-- one entry more
goes_on : (facts : SeasonFacts) (old new : State) (act : Act) (reply : Reply) → newly old.now (decided facts old (asked facts act)) ≡ Some act → IsMove facts old (asked facts act) reply new
    → Change facts old (asked facts act).by (asked facts act).ask act new → GoesByWindows facts old → GoesByWindows facts new
goes_on facts old new act reply accepted moves (Answered row asks is fresh same) here =
    let newly_row : newly old.now (decided facts old (asked facts (Answer row))) ≡ Some (Answer row) = subst (λ a. newly old.now (decided facts old (asked facts a)) ≡ Some a) is accepted in
    subst (λ s. GoesByWindows facts s) (sym same)
    (goes_answer facts old row (is_open old.now facts.rounds row.window fresh.opened).0 (ap (λ o. is_some o) newly_row) here)
goes_on facts old new act reply accepted moves (Raised row code asks found known is fresh same) here =
    let newly_row : newly old.now (decided facts old (asked facts (Raise row))) ≡ Some (Raise row) = subst (λ a. newly old.now (decided facts old (asked facts a)) ≡ Some a) is accepted in
    subst (λ s. GoesByWindows facts s) (sym same)
    (goes_raise facts old row (is_open old.now facts.rounds row.window fresh.opened).0 (and_from _ _ (lt-ltb row.prog.0 (length facts.matrix.programmes) found.below) (ap (λ o. is_some o) newly_row)) here)
goes_on facts old new act reply accepted moves (Publishes window round asks is cuts less next same) here =
    let cut : CutPasses facts old new = cut_passes facts old new act reply is accepted moves in
    let count = here.order (omega (arith, less)) in
    let longer : length (old.rounds ++ round ∷ []) ≡ length old.rounds + 1 = length-append old.rounds (round ∷ []) in
    goes_cut facts old new (ap (λ (s : State). s.now) same) (ap (λ (s : State). s.raises) same) (ap (λ (s : State). s.answers) same) cut
    (λ w id early. ap (λ s. published_seat facts s (w + 1) id) same ∙ published_before facts old round (w + 1) id (omega (arith, early, count)))
    (λ few. subst (λ (s : State). length s.rounds ≡ s.now) (sym same) (longer ∙ ap (λ n. n + 1) count)) here
goes_on facts old new act reply accepted moves (Finishes window asks is cuts last same) here =
    let cut : CutPasses facts old new = cut_passes facts old new act reply is accepted moves in
    let now : new.now ≡ old.now + 1 = ap (λ (s : State). s.now) same in
    goes_cut facts old new now (ap (λ (s : State). s.raises) same) (ap (λ (s : State). s.answers) same) cut
    (λ w id early. ap (λ s. published_seat facts s (w + 1) id) same ∙ finished_before facts old (final_rows facts old) (w + 1) id (λ e. omega (arith, e, early, last)))
    (λ few. absurd (omega (arith, few, now, last))) here

pub goes_by_windows : (facts : SeasonFacts) (entries : List Entry) (old new : State) → GoesByWindows facts old → Reaches facts old entries new → GoesByWindows facts new
goes_by_windows facts [] old new here same = subst (λ s. GoesByWindows facts s) (sym same) here
goes_by_windows facts (entry ∷ entries) old new here reached =
    goes_by_windows facts entries reached.0 new
    (goes_on facts old reached.0 entry.act reached.1 reached.2 reached.3
    (changes facts old (asked facts entry.act).by (asked facts entry.act).ask entry.act reached.1 reached.0 reached.2 reached.3) here)
    reached.4

pub all_by_windows : (facts : SeasonFacts) (entries : List Entry) (state : State) → Reaches facts opening entries state → GoesByWindows facts state
all_by_windows facts entries state reached = goes_by_windows facts entries opening state (goes_at_first facts) reached
