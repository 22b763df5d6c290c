-- Kept rows, each accepted when the replay reaches it, or not.
use Rattle.std.proofs.Common.{◌≡◌, ◌≢◌, ◌<◌, ◌≤◌, ◌+◌, inl, inr, ℕ, zero, suc, Bool, true, false, List, [], ◌∷◌, ◌++◌, Option, Some, None, Result, Ok, Err, length, arith, refl, sym, ap, ◌∙◌, subst, append-nil, append_assoc, ◌==◌, nat_lt, if◌then◌else◌, cond, drop, get_or}
use Rattle.std.specs.Prelude.{map, not, is_some, option_map, slice_get, bytes_eq, ◌&&◌}
use Rattle.std.specs.List.{AllByRecursion, position_or_len}
use Rattle.std.specs.Option.{unwrap_or}
use Rattle.std.proofs.lemmas.Bool.{and_from, and_parts, eqb-true, lt-ltb, ltb-true}
use Rattle.std.proofs.lemmas.List.{at_drop_all, at_drop_more}
use Rattle.std.proofs.lemmas.Slice.Eq.{bytes_eq-Decides}
use Rattle.office_base.specs.Lists.{Pairwise}
use Rattle.office_asks.specs.declared.ask.Ask.TheVariants.{Raise as AskRaise}
use Rattle.office_asks.specs.declared.ask.By.TheVariants.{Candidate, Clerk}
use Rattle.office_base.specs.declared.person.ProgId.{ProgId}
use Rattle.kept_rows.specs.declared.rows.AnswerRow.{AnswerRow}
use Rattle.kept_rows.specs.declared.rows.Kept.{Kept}
use Rattle.kept_rows.specs.declared.rows.RaiseRow.{RaiseRow}
use Rattle.seat_matrix.specs.Matrix.{AreSeats, SeatTable, codes_in}
use Rattle.seat_matrix.specs.declared.entry.Home.{Home}
use Rattle.office_moves.specs.Decided.{answer_facts, decide_raise_of, decided, raise_facts}
use Rattle.office_moves.specs.Facts.{SeasonFacts, code_in, find_programme}
use Rattle.office_moves.specs.History.{asked, newly}
use Rattle.office_moves.specs.Judge.{with_programme}
use Rattle.office_moves.specs.Moves.{Does, IsMove, noted, raised_reply}
use Rattle.office_moves.specs.Stands.{raises_in}
use Rattle.office_moves.specs.State.{State, in_window, view_of, with_raise, with_row}
use Rattle.office_moves.specs.declared.decide.Decision.{Decision}
use Rattle.office_moves.specs.declared.decide.Decision.TheVariants.{Lift, Note}
use Rattle.office_moves.specs.declared.moves.Act.{Act}
use Rattle.office_moves.specs.declared.moves.Act.TheVariants.{Answer, Raise, Cut}
use Rattle.office_moves.specs.declared.moves.Reply.{Reply}
use Rattle.office_moves.proofs.Chains.{IsNewAnswer, IsNewRaise, answer_new, raise_new}
use Rattle.history_laws.proofs.Accepted.{is_open}
use Rattle.replays.specs.Acts.{acts_in}
use Rattle.replays.specs.Faults.{IsStrayRow, StopsAt}
use Rattle.replays.specs.declared.fault.ReplayFault.{ReplayFault}
use Rattle.replays.specs.declared.fault.ReplayFault.TheVariants.{Stray, StrayRaise}
use Rattle.replays.specs.Replay.{answers_replayed, raises_replayed, rows_replayed, takes, takes_answer, takes_raise, window_of, with_act}
use Rattle.replays.proofs.Tables.{answers_as, raises_as, with_map, with_number}

-- ---- an answer

new_answer : (facts : SeasonFacts) (state : State) (row : AnswerRow) (act : Act) → newly state.now (decided facts state (asked facts (Answer row))) ≡ Some act
    → IsNewAnswer (answer_facts facts (view_of state row.cand.0) row) (Candidate row.cand) row
new_answer facts state row act e = answer_new state.now (answer_facts facts (view_of state row.cand.0) row) (Candidate row.cand) row act e

pub note_own : (facts : SeasonFacts) (state : State) (row other : AnswerRow) → decided facts state (asked facts (Answer row)) ≡ Note other → decided facts state (asked facts (Answer row)) ≡ Note row
note_own facts state row other e = (new_answer facts state row (Answer other) (ap (newly state.now) e)).noted

pub answer_taken : (facts : SeasonFacts) (state : State) (row other : AnswerRow) → decided facts state (asked facts (Answer row)) ≡ Note other → takes_answer facts state row ≡ true
answer_taken facts state row other e = ap (λ (d : Decision). is_some (newly state.now d)) e

pub answer_refused : (facts : SeasonFacts) (state : State) (row : AnswerRow) → ((other : AnswerRow) → decided facts state (asked facts (Answer row)) ≡ Note other → ⊥) → takes_answer facts state row ≡ false
answer_refused facts state row never = step (newly state.now (decided facts state (asked facts (Answer row)))) refl
  where
    step : (o : Option Act) → newly state.now (decided facts state (asked facts (Answer row))) ≡ o → is_some o ≡ false
    step None e = refl
    step (Some act) e = absurd (never row (new_answer facts state row act e).noted)

some_act : (o : Option Act) → is_some o ≡ true → (act : Act) × (o ≡ Some act)
some_act None e = absurd (cc)
some_act (Some act) e = (act, refl)

-- the window of what is accepted is the open one
pub answer_window : (facts : SeasonFacts) (state : State) (row : AnswerRow) → takes_answer facts state row ≡ true → row.window ≡ state.now
answer_window facts state row e =
    let act = some_act (newly state.now (decided facts state (asked facts (Answer row)))) e in
    (is_open state.now facts.rounds row.window (new_answer facts state row act.0 act.1).opened).0

-- ---- a raise

another : (first code : List ℕ) (codes : List (List ℕ)) (at : ℕ) → AllByRecursion (λ b. first ≢ b) codes → slice_get codes at ≡ Some code → first ≡ code → ⊥
another first code [] zero all there same = cc
another first code [] (suc at) all there same = cc
another first code (c ∷ codes) zero all there same = all.0 (let e : c ≡ code = cc in same ∙ sym e)
another first code (c ∷ codes) (suc at) all there same = another first code codes at all.1 there same

place_of_own : (codes : List (List ℕ)) (at : ℕ) (code : List ℕ) → Pairwise (λ a b. a ≢ b) codes → slice_get codes at ≡ Some code → position_or_len (bytes_eq code) codes ≡ at
place_of_own [] zero code apart there = absurd (cc)
place_of_own [] (suc at) code apart there = absurd (cc)
place_of_own (first ∷ codes) zero code apart there =
    let same : first ≡ code = cc in
    step (bytes_eq code first) ((bytes_eq-Decides code first).1 (sym same))
  where
    step : (b : Bool) → b ≡ true → cond (not b) (1 + position_or_len (bytes_eq code) codes) 0 ≡ 0
    step true e = refl
    step false e = absurd (cc)
place_of_own (first ∷ codes) (suc at) code apart there = step (bytes_eq code first) refl (place_of_own codes at code apart.1 there)
  where
    step : (b : Bool) → bytes_eq code first ≡ b → position_or_len (bytes_eq code) codes ≡ at → cond (not b) (1 + position_or_len (bytes_eq code) codes) 0 ≡ suc at
    step true e rest = absurd (another first code codes at apart.0 there (sym ((bytes_eq-Decides code first).0 e)))
    step false e rest = omega (arith, rest)

code_there : (programmes : List (List ℕ × Home)) (at : ℕ) → at < length programmes
    → slice_get (codes_in programmes) at ≡ Some (unwrap_or (option_map (λ held. held.0) (slice_get programmes at)) [])
code_there [] at less = absurd (omega arith)
code_there (held ∷ programmes) zero less = refl
code_there (held ∷ programmes) (suc at) less = code_there programmes at (omega arith)

codes_long : (programmes : List (List ℕ × Home)) → length (codes_in programmes) ≡ length programmes
codes_long [] = refl
codes_long (held ∷ programmes) = let e = codes_long programmes in omega (arith, e)

-- the code of a programme finds it
pub finds_own : (facts : SeasonFacts) (prog : ProgId) → AreSeats facts.matrix → prog.0 < length facts.matrix.programmes → find_programme facts (code_in facts prog.0) ≡ Some prog
finds_own facts prog seats less =
    let codes = codes_in facts.matrix.programmes in
    let code = code_in facts prog.0 in
    let place : position_or_len (bytes_eq code) codes ≡ prog.0 = place_of_own codes prog.0 code seats.codes (code_there facts.matrix.programmes prog.0 less) in
    let long = codes_long facts.matrix.programmes in
    step (position_or_len (bytes_eq code) codes) place (nat_lt (position_or_len (bytes_eq code) codes) (length codes)) (lt-ltb _ _ (omega (arith, place, long, less)))
  where
    step : (n : ℕ) → n ≡ prog.0 → (b : Bool) → b ≡ true → option_map (λ (m : ℕ). let made : ProgId = record { 0 = m } in made) (cond b (Some n) None) ≡ Some prog
    step n same true e = ap (λ (m : ℕ). let made : Option ProgId = Some (record { 0 = m }) in made) same
    step n same false e = absurd (cc)

asks_own : (facts : SeasonFacts) (state : State) (row : RaiseRow) → AreSeats facts.matrix → row.prog.0 < length facts.matrix.programmes
    → decided facts state (asked facts (Raise row)) ≡ decide_raise_of facts state Clerk row
asks_own facts state row seats less =
    ap (λ (o : Option ProgId). with_programme o (λ prog. decide_raise_of facts state Clerk (record { window = row.window; prog = prog; step = row.step; seats = row.seats }))) (finds_own facts row.prog seats less)

new_raise : (facts : SeasonFacts) (state : State) (row : RaiseRow) (act : Act) → AreSeats facts.matrix → row.prog.0 < length facts.matrix.programmes
    → newly state.now (decided facts state (asked facts (Raise row))) ≡ Some act → IsNewRaise (raise_facts facts state row) Clerk row
new_raise facts state row act seats less e =
    raise_new state.now (raise_facts facts state row) Clerk row act (sym (ap (newly state.now) (asks_own facts state row seats less)) ∙ e)

pub lift_own : (facts : SeasonFacts) (state : State) (row other : RaiseRow) → AreSeats facts.matrix → row.prog.0 < length facts.matrix.programmes
    → decided facts state (asked facts (Raise row)) ≡ Lift other → decided facts state (asked facts (Raise row)) ≡ Lift row
lift_own facts state row other seats less e =
    asks_own facts state row seats less ∙ (new_raise facts state row (Raise other) seats less (ap (newly state.now) e)).lifted

pub raise_taken : (facts : SeasonFacts) (state : State) (row other : RaiseRow) → row.prog.0 < length facts.matrix.programmes → decided facts state (asked facts (Raise row)) ≡ Lift other
    → takes_raise facts state row ≡ true
raise_taken facts state row other less e =
    and_from (nat_lt row.prog.0 (length facts.matrix.programmes)) (is_some (newly state.now (decided facts state (asked facts (Raise row))))) (lt-ltb _ _ less) (ap (λ (d : Decision). is_some (newly state.now d)) e)

not_second : (a b : Bool) → (a ≡ true → b ≡ false) → a && b ≡ false
not_second true b never = never refl
not_second false b never = refl

pub raise_refused : (facts : SeasonFacts) (state : State) (row : RaiseRow) → AreSeats facts.matrix → ((other : RaiseRow) → decided facts state (asked facts (Raise row)) ≡ Lift other → ⊥)
    → takes_raise facts state row ≡ false
raise_refused facts state row seats never =
    not_second (nat_lt row.prog.0 (length facts.matrix.programmes)) (is_some (newly state.now (decided facts state (asked facts (Raise row)))))
    (λ less. step (ltb-true _ _ less) (newly state.now (decided facts state (asked facts (Raise row)))) refl)
  where
    step : row.prog.0 < length facts.matrix.programmes → (o : Option Act) → newly state.now (decided facts state (asked facts (Raise row))) ≡ o → is_some o ≡ false
    step less None e = refl
    step less (Some act) e = absurd (never row (asks_own facts state row seats less ∙ (new_raise facts state row act seats less e).lifted))

pub raise_window : (facts : SeasonFacts) (state : State) (row : RaiseRow) → AreSeats facts.matrix → takes_raise facts state row ≡ true → row.window ≡ state.now
raise_window facts state row seats e =
    let parts = and_parts (nat_lt row.prog.0 (length facts.matrix.programmes)) (is_some (newly state.now (decided facts state (asked facts (Raise row))))) e in
    let act = some_act (newly state.now (decided facts state (asked facts (Raise row)))) parts.1 in
    (is_open state.now facts.rounds row.window (new_raise facts state row act.0 seats (ltb-true _ _ parts.0) act.1).opened).0

-- ---- either

-- the window of what is accepted is the open one
pub row_window : (facts : SeasonFacts) (state : State) (row : Act) → AreSeats facts.matrix → takes facts state row ≡ true → window_of row ≡ state.now
row_window facts state (Answer row) seats e = answer_window facts state row e
row_window facts state (Raise row) seats e = raise_window facts state row seats e
row_window facts state (Cut window) seats e = absurd (cc)

-- what is accepted is a move
pub row_moves : (facts : SeasonFacts) (state : State) (row : Act) → AreSeats facts.matrix → takes facts state row ≡ true
    → (reply : Reply) × (newly state.now (decided facts state (asked facts row)) ≡ Some row) × IsMove facts state (asked facts row) reply (with_act state row)
row_moves facts state (Answer row) seats e =
    let act = some_act (newly state.now (decided facts state (asked facts (Answer row)))) e in
    let note = (new_answer facts state row act.0 act.1).noted in
    (noted row, ap (newly state.now) note, subst (λ (d : Decision). Does facts state d (noted row) (with_row state row)) (sym note) (refl, refl))
row_moves facts state (Raise row) seats e =
    let parts = and_parts (nat_lt row.prog.0 (length facts.matrix.programmes)) (is_some (newly state.now (decided facts state (asked facts (Raise row))))) e in
    let less = ltb-true _ _ parts.0 in
    let act = some_act (newly state.now (decided facts state (asked facts (Raise row)))) parts.1 in
    let lift = asks_own facts state row seats less ∙ (new_raise facts state row act.0 seats less act.1).lifted in
    (raised_reply row, ap (newly state.now) lift, subst (λ (d : Decision). Does facts state d (raised_reply row) (with_raise state row)) (sym lift) (refl, refl))
row_moves facts state (Cut window) seats e = absurd (cc)

-- the same in a state that is another's equal
pub moved_row : (facts after : SeasonFacts) (old next : State) (row : Act) (b : Bool) → after ≡ facts → next ≡ old → takes after next row ≡ b → takes facts old row ≡ b
moved_row facts after old next row b same is e = subst (λ f. takes f old row ≡ b) same (subst (λ s. takes after s row ≡ b) is e)

-- a raise is asked with the code of its programme
pub own_code : (table : SeatTable) (facts : SeasonFacts) (prog : ℕ) (code : List ℕ) → table ≡ facts.matrix → option_map (λ held. held.0) (slice_get table.programmes prog) ≡ Some code → code ≡ code_in facts prog
own_code table facts prog code same e =
    sym (ap (λ (o : Option (List ℕ)). unwrap_or o []) e) ∙ ap (λ (t : SeatTable). unwrap_or (option_map (λ (held : List ℕ × Home). held.0) (slice_get t.programmes prog)) []) same

pub asks_as : (facts : SeasonFacts) (state : State) (row : RaiseRow) (code : List ℕ) (decision : Decision) → code ≡ code_in facts row.prog.0
    → decision ≡ decided facts state (record { by = Clerk; ask = AskRaise row.window code row.step row.seats }) → decided facts state (asked facts (Raise row)) ≡ decision
asks_as facts state row code decision same e = sym (e ∙ ap (λ (c : List ℕ). decided facts state (record { by = Clerk; ask = AskRaise row.window c row.step row.seats })) same)

-- ---- rows, one after another

-- the rest of the rows, one row on
pub rows_carry : {R : Type 0} (act : R → Act) (facts other : SeasonFacts) (window at : ℕ) (rows : List R) (row : R) (first : Result State ℕ) (state next : State) → other ≡ facts
    → first ≡ rows_replayed facts window (at + 1) (map act (drop at rows)) state → at < length rows → row ≡ get_or rows at row
    → ((rest : List Act) → rows_replayed other window (at + 1) (act row ∷ rest) state ≡ rows_replayed other window (at + 1 + 1) rest next)
    → first ≡ rows_replayed facts window (at + 1 + 1) (map act (drop (at + 1) rows)) next
rows_carry {R} act facts other window at rows row first state next same before less is on =
    let rest : List Act = map act (drop (at + 1) rows) in
    before ∙ (at_drop_more (λ (some : List R). rows_replayed facts window (at + 1) (map act some) state) rows at row less
    ∙ (ap (λ (r : R). rows_replayed facts window (at + 1) (act r ∷ rest) state) (sym is)
    ∙ subst (λ (f : SeasonFacts). rows_replayed f window (at + 1) (act row ∷ rest) state ≡ rows_replayed f window (at + 1 + 1) rest next) same (on rest)))

pub rows_end : {R : Type 0} (act : R → Act) (stray : ℕ → ReplayFault) (facts other : SeasonFacts) (window at : ℕ) (rows : List R) (row : R) (first : Result State ℕ) (state : State) (fault : ReplayFault)
    → other ≡ facts → first ≡ rows_replayed facts window (at + 1) (map act (drop at rows)) state → at < length rows → row ≡ get_or rows at row
    → ((rest : List Act) → StopsAt stray (rows_replayed other window (at + 1) (act row ∷ rest) state) fault) → StopsAt stray first fault
rows_end {R} act stray facts other window at rows row first state fault same before less is stops =
    let rest : List Act = map act (drop (at + 1) rows) in
    let here : first ≡ rows_replayed facts window (at + 1) (act row ∷ rest) state =
    before ∙ (at_drop_more (λ (some : List R). rows_replayed facts window (at + 1) (map act some) state) rows at row less
    ∙ ap (λ (r : R). rows_replayed facts window (at + 1) (act r ∷ rest) state) (sym is)) in
    subst (λ (r : Result State ℕ). StopsAt stray r fault) (sym here) (subst (λ (f : SeasonFacts). StopsAt stray (rows_replayed f window (at + 1) (act row ∷ rest) state) fault) same (stops rest))

pub rows_over : {R : Type 0} (act : R → Act) (facts : SeasonFacts) (window at : ℕ) (rows : List R) (first : Result State ℕ) (state : State)
    → first ≡ rows_replayed facts window (at + 1) (map act (drop at rows)) state → length rows ≤ at → first ≡ Ok state
rows_over {R} act facts window at rows first state before end = before ∙ at_drop_all (λ (some : List R). rows_replayed facts window (at + 1) (map act some) state) rows at end

-- the fault of a table is one of the rows of the window
pub raise_stops : (facts : SeasonFacts) (kept : Kept) (window : ℕ) (old : State) (fault : ReplayFault) → StopsAt (λ place. StrayRaise place) (raises_replayed facts window kept.raises old) fault
    → IsStrayRow facts kept window old fault
raise_stops facts kept window old fault (inl none) = subst (λ (f : ReplayFault). IsStrayRow facts kept window old f) (sym none) tt
raise_stops facts kept window old fault (inr stop) = subst (λ (f : ReplayFault). IsStrayRow facts kept window old f) (sym stop.2) stop.1

pub answer_stops : (facts : SeasonFacts) (kept : Kept) (window : ℕ) (old raised : State) (fault : ReplayFault) → raises_replayed facts window kept.raises old ≡ Ok raised
    → StopsAt (λ place. Stray place) (answers_replayed facts window kept.answers raised) fault → IsStrayRow facts kept window old fault
answer_stops facts kept window old raised fault raises (inl none) = subst (λ (f : ReplayFault). IsStrayRow facts kept window old f) (sym none) tt
answer_stops facts kept window old raised fault raises (inr stop) = subst (λ (f : ReplayFault). IsStrayRow facts kept window old f) (sym stop.2) (raised, raises, stop.1)

-- ---- where they lead

-- the state with more answers, or raises
abbrev pub with_rows : State → List AnswerRow → State
with_rows state rows = record state { answers = state.answers ++ rows }

abbrev pub with_raises : State → List RaiseRow → State
with_raises state rows = record state { raises = state.raises ++ rows }

-- the state with more of either
abbrev pub with_acts : State → List Act → State
with_acts state [] = state
with_acts state (row ∷ rows) = with_acts (with_act state row) rows

more_answers : (state : State) (rows : List AnswerRow) → with_acts state (map Answer rows) ≡ with_rows state rows
more_answers state [] = ap (λ (z : List AnswerRow). record state { answers = z }) (sym (append-nil state.answers))
more_answers state (row ∷ rows) = more_answers (with_row state row) rows ∙ ap (λ (z : List AnswerRow). record state { answers = z }) (append_assoc state.answers (row ∷ []) rows)

more_raises : (state : State) (rows : List RaiseRow) → with_acts state (map Raise rows) ≡ with_raises state rows
more_raises state [] = ap (λ (z : List RaiseRow). record state { raises = z }) (sym (append-nil state.raises))
more_raises state (row ∷ rows) = more_raises (with_raise state row) rows ∙ ap (λ (z : List RaiseRow). record state { raises = z }) (append_assoc state.raises (row ∷ []) rows)

acts_as : (window : ℕ) (acts : List Act) → with_number window_of window acts ≡ acts_in window acts
acts_as window [] = refl
acts_as window (act ∷ acts) = ap (λ (z : List Act). if window_of act == window then act ∷ z else z) (acts_as window acts)

pub answers_are : (window : ℕ) (rows : List AnswerRow) → acts_in window (map Answer rows) ≡ map Answer (in_window window rows)
answers_are window rows = sym (acts_as window (map Answer rows)) ∙ (with_map Answer window_of window rows ∙ ap (λ (z : List AnswerRow). map Answer z) (answers_as window rows))

pub raises_are : (window : ℕ) (rows : List RaiseRow) → acts_in window (map Raise rows) ≡ map Raise (raises_in window rows)
raises_are window rows = sym (acts_as window (map Raise rows)) ∙ (with_map Raise window_of window rows ∙ ap (λ (z : List RaiseRow). map Raise z) (raises_as window rows))

rows_lead : (facts : SeasonFacts) (window place : ℕ) (rows : List Act) (old new : State) → rows_replayed facts window place rows old ≡ Ok new → new ≡ with_acts old (acts_in window rows)
rows_lead facts window place [] old new e = cc e
rows_lead facts window place (row ∷ rows) old new e =
    step (window_of row == window) (takes facts old row) (rows_lead facts window (place + 1) rows old new) (rows_lead facts window (place + 1) rows (with_act old row) new) e
  where
    step : (b t : Bool) → (rows_replayed facts window (place + 1) rows old ≡ Ok new → new ≡ with_acts old (acts_in window rows))
        → (rows_replayed facts window (place + 1) rows (with_act old row) ≡ Ok new → new ≡ with_acts (with_act old row) (acts_in window rows))
        → (if b then (if t then rows_replayed facts window (place + 1) rows (with_act old row) else Err place) else rows_replayed facts window (place + 1) rows old) ≡ Ok new
        → new ≡ with_acts old (if b then row ∷ acts_in window rows else acts_in window rows)
    step true true past on e = on e
    step true false past on e = absurd (cc)
    step false t past on e = past e

pub answers_lead : (facts : SeasonFacts) (window : ℕ) (rows : List AnswerRow) (old new : State) → answers_replayed facts window rows old ≡ Ok new → new ≡ with_rows old (in_window window rows)
answers_lead facts window rows old new e =
    rows_lead facts window 1 (map Answer rows) old new e ∙ (ap (λ (z : List Act). with_acts old z) (answers_are window rows) ∙ more_answers old (in_window window rows))

pub raises_lead : (facts : SeasonFacts) (window : ℕ) (rows : List RaiseRow) (old new : State) → raises_replayed facts window rows old ≡ Ok new → new ≡ with_raises old (raises_in window rows)
raises_lead facts window rows old new e =
    rows_lead facts window 1 (map Raise rows) old new e ∙ (ap (λ (z : List Act). with_acts old z) (raises_are window rows) ∙ more_raises old (raises_in window rows))

-- ---- windows that are not open

no_map : {X Y : Type 0} (make : X → Y) (rows : List X) → map make rows ≡ [] → rows ≡ []
no_map make [] e = refl
no_map make (row ∷ rows) e = absurd (cc)

-- no row of a window that is not open is accepted
rows_ahead : (facts : SeasonFacts) (window place : ℕ) (rows : List Act) (old new : State) → AreSeats facts.matrix → old.now < window → rows_replayed facts window place rows old ≡ Ok new
    → acts_in window rows ≡ []
rows_ahead facts window place [] old new seats ahead e = refl
rows_ahead facts window place (row ∷ rows) old new seats ahead e =
    step (window_of row == window) refl (takes facts old row) refl (rows_ahead facts window (place + 1) rows old new seats ahead) e
  where
    step : (b : Bool) → (window_of row == window) ≡ b → (t : Bool) → takes facts old row ≡ t → (rows_replayed facts window (place + 1) rows old ≡ Ok new → acts_in window rows ≡ [])
        → (if b then (if t then rows_replayed facts window (place + 1) rows (with_act old row) else Err place) else rows_replayed facts window (place + 1) rows old) ≡ Ok new
        → (if b then row ∷ acts_in window rows else acts_in window rows) ≡ []
    step true same true takes past e = absurd (let w = row_window facts old row seats takes in let s = eqb-true (window_of row) window same in omega (arith, w, s, ahead))
    step true same false takes past e = absurd (cc)
    step false same t takes past e = past e

pub answers_ahead : (facts : SeasonFacts) (window : ℕ) (rows : List AnswerRow) (old new : State) → AreSeats facts.matrix → old.now < window → answers_replayed facts window rows old ≡ Ok new
    → in_window window rows ≡ []
answers_ahead facts window rows old new seats ahead e =
    no_map Answer (in_window window rows) (sym (answers_are window rows) ∙ rows_ahead facts window 1 (map Answer rows) old new seats ahead e)

pub raises_ahead : (facts : SeasonFacts) (window : ℕ) (rows : List RaiseRow) (old new : State) → AreSeats facts.matrix → old.now < window → raises_replayed facts window rows old ≡ Ok new
    → raises_in window rows ≡ []
raises_ahead facts window rows old new seats ahead e =
    no_map Raise (raises_in window rows) (sym (raises_are window rows) ∙ rows_ahead facts window 1 (map Raise rows) old new seats ahead e)

-- a window without rows leaves the state
rows_none : (facts : SeasonFacts) (window place : ℕ) (rows : List Act) (state : State) → acts_in window rows ≡ [] → rows_replayed facts window place rows state ≡ Ok state
rows_none facts window place [] state none = refl
rows_none facts window place (row ∷ rows) state none = step (window_of row == window) (rows_none facts window (place + 1) rows state) none
  where
    step : (b : Bool) → (acts_in window rows ≡ [] → rows_replayed facts window (place + 1) rows state ≡ Ok state) → (if b then row ∷ acts_in window rows else acts_in window rows) ≡ []
        → (if b then (if takes facts state row then rows_replayed facts window (place + 1) rows (with_act state row) else Err place) else rows_replayed facts window (place + 1) rows state) ≡ Ok state
    step true rest none = absurd (cc)
    step false rest none = rest none

pub answers_none : (facts : SeasonFacts) (window : ℕ) (rows : List AnswerRow) (state : State) → in_window window rows ≡ [] → answers_replayed facts window rows state ≡ Ok state
answers_none facts window rows state none = rows_none facts window 1 (map Answer rows) state (answers_are window rows ∙ ap (λ (z : List AnswerRow). map Answer z) none)

pub raises_none : (facts : SeasonFacts) (window : ℕ) (rows : List RaiseRow) (state : State) → raises_in window rows ≡ [] → raises_replayed facts window rows state ≡ Ok state
raises_none facts window rows state none = rows_none facts window 1 (map Raise rows) state (raises_are window rows ∙ ap (λ (z : List RaiseRow). map Raise z) none)
