-- What each change makes of the proceedings.
use Rattle.std.proofs.Common.{◌≡◌, ◌<◌, ◌≤◌, ◌+◌, ◌-◌, ◌⊎◌, inl, inr, ℕ, zero, suc, false, List, [], ◌∷◌, ◌++◌, Option, Some, None, length, map, arith, refl, sym, ap, ◌∙◌, subst, replicate}
use Rattle.std.specs.Prelude.{slice_get}
use Rattle.std.specs.List.{list_any}
use Rattle.std.proofs.lemmas.List.{length-map}
use Rattle.office_asks.specs.declared.ask.By.TheVariants.{Candidate, Clerk}
use Rattle.office_base.specs.declared.choice.Choice.{Choice}
use Rattle.office_base.specs.declared.choice.Choice.TheVariants.{Freeze as ToFreeze, Float as ToFloat, Slide as ToSlide, Withdraw as ToWithdraw}
use Rattle.office_base.specs.declared.seat.Seat.{Seat}
use Rattle.office_base.specs.declared.person.Person.{Person}
use Rattle.kept_rows.specs.declared.rows.AllotRow.{AllotRow}
use Rattle.kept_rows.specs.declared.rows.AnswerRow.{AnswerRow}
use Rattle.kept_rows.specs.declared.rows.RaiseRow.{RaiseRow}
use Rattle.rounds.specs.declared.round.Round.{Round}
use Rattle.round_options.specs.declared.standing.Standing.{Standing}
use Rattle.round_options.specs.declared.standing.Standing.TheVariants.{Waiting}
use Rattle.seat_matrix.specs.Matrix.{SeatTable, matrix_with, seating_in}
use Rattle.answer_table.specs.Turns.{no_turns}
use Rattle.office_moves.specs.Facts.{SeasonFacts}
use Rattle.office_moves.specs.State.{State, in_window, opening, rows_of, view_of, with_finals, with_raise, with_round, with_row}
use Rattle.office_moves.specs.Raised.{matrix_at, raised_to}
use Rattle.office_moves.specs.Judge.{is_gone}
use Rattle.office_moves.specs.Decided.{answer_facts, decided, same_raise}
use Rattle.office_moves.specs.Moves.{Does, raised_reply}
use Rattle.office_moves.specs.History.{IsHistory, asked, newly}
use Rattle.office_moves.specs.Promise.{standing_then}
use Rattle.office_moves.specs.declared.decide.Decision.{Decision}
use Rattle.office_moves.specs.declared.decide.Decision.TheVariants.{Finish, Lift, Publish}
use Rattle.office_moves.specs.declared.moves.Act.TheVariants.{Answer, Cut, Raise}
use Rattle.office_moves.specs.declared.moves.Entry.{Entry}
use Rattle.office_moves.proofs.Chains.{answer_new, cut_new}
use Rattle.office_moves.proofs.Rising.{raised_append}
use Rattle.history_laws.specs.Orderly.{AreAnswers}
use Rattle.history_laws.proofs.Accepted.{is_open}
use Rattle.history_laws.proofs.Changes.{Answered, Change, Finishes, Publishes, Raised, changes}
use Rattle.history_laws.proofs.Turns.{was_next}
use Rattle.cut_arrays.specs.WindowEnd.{after_cuts, seats_given, standings, still_in}
use Rattle.cut_arrays.proofs.OfficeLinks.{AreRising, all_left, all_left_last, all_stand}
use Rattle.proceedings.specs.Changes.{IsAnswerAt, StillAfter}
use Rattle.proceedings.specs.Proceeding.{answers_of, choices_in, in_after, left_along, still_among, still_of, table_along}
use Rattle.proceedings.proofs.CutLemmas.{AreTables, HasNone, cut_takes, no_table, still_left, still_now}
use Rattle.proceedings.proofs.HistoryLemmas.{answers_more, answers_same}
use Rattle.proceedings.proofs.NoteLemmas.{other_window, some_still, still_noted}
use Rattle.proceedings.proofs.Positions.{stands}

-- ---- an accepted answer

-- an accepted answer is of the open window, of a candidate of the register who is at this position and is not out
pub record IsNoted (facts : SeasonFacts) (state : State) (row : AnswerRow) (at : ℕ) : Type 0 where
  pub window : row.window ≡ state.now
  pub few : state.now ≤ facts.rounds
  pub there : is_gone (standing_then facts state state.now row.cand.0) ≡ false
  pub person : Person
  pub here : slice_get facts.people at ≡ Some person
  pub mine : person.id.0 ≡ row.cand.0

pub is_noted : (facts : SeasonFacts) (state : State) (row : AnswerRow) (at : ℕ) → IsAnswerAt facts state row at → IsNoted facts state row at
is_noted facts state row at is =
    let new = answer_new state.now (answer_facts facts (view_of state row.cand.0) row) (Candidate row.cand) row (Answer row) (ap (newly state.now) is.0) in
    let next = was_next facts state row new.opened new.turn new.next in
    let person = stands row.cand.0 facts.people at is.1 in
    record { window = next.window; few = (is_open state.now facts.rounds row.window new.opened).1; there = next.there; person = person.person; here = person.there; mine = person.mine }

pub noted_some : (facts : SeasonFacts) (state : State) (row : AnswerRow) (at : ℕ) → IsNoted facts state row at → 1 ≤ still_of facts state
noted_some facts state row at n =
    some_still facts state facts.people at n.person n.here (subst (λ (id : ℕ). is_gone (standing_then facts state state.now id) ≡ false) (sym n.mine) n.there)

pub noted_few : (facts : SeasonFacts) (state : State) (row : AnswerRow) (at window : ℕ) → AreAnswers facts state → IsNoted facts state row at → window ≡ row.window → length (choices_in state window row.cand.0) < 17
noted_few facts state row at window answers n same =
    let few = answers.room row.cand.0 n.there in
    let long = length-map (in_window state.now (rows_of row.cand.0 state.answers)) (λ (r : AnswerRow). r.choice) in
    let moved : length (choices_in state window row.cand.0) ≡ length (choices_in state state.now row.cand.0) = ap (λ (w : ℕ). length (choices_in state w row.cand.0)) (same ∙ n.window) in
    omega (arith, few, long, moved)

one_still : (choice : Choice) (old m n : ℕ) → StillAfter choice old m → StillAfter choice old n → m ≡ n
one_still ToFreeze old m n e f = e ∙ sym f
one_still ToFloat old m n e f = e ∙ sym f
one_still ToSlide old m n e f = e ∙ sym f
one_still ToWithdraw old m n e f = omega (arith, e, f)

pub noted_still : (facts : SeasonFacts) (state : State) (row : AnswerRow) (at old new : ℕ) → AreRising facts.people → IsNoted facts state row at → old ≡ still_of facts state → StillAfter row.choice old new
    → new ≡ still_of facts (with_row state row)
noted_still facts state row at old new rising n is after =
    one_still row.choice old new (still_of facts (with_row state row)) after
    (subst (λ (k : ℕ). StillAfter row.choice k (still_of facts (with_row state row))) (sym is) (still_noted facts state row facts.people at n.person rising n.here n.mine n.window n.there))

pub room_noted : (choice : Choice) (still after len cap len' cap' : ℕ) → StillAfter choice still after → (still < cap - len) ⊎ (choice ≡ ToWithdraw) → still + len ≤ cap → len' ≡ len + 1 → cap ≤ cap' → after + len' ≤ cap'
room_noted ToFreeze still after len cap len' cap' e space inv grown more = elim space [ inl less ↦ omega (arith, e, less, inv, grown, more) | inr w ↦ absurd (cc) ]
room_noted ToFloat still after len cap len' cap' e space inv grown more = elim space [ inl less ↦ omega (arith, e, less, inv, grown, more) | inr w ↦ absurd (cc) ]
room_noted ToSlide still after len cap len' cap' e space inv grown more = elim space [ inl less ↦ omega (arith, e, less, inv, grown, more) | inr w ↦ absurd (cc) ]
room_noted ToWithdraw still after len cap len' cap' e space inv grown more = omega (arith, e, inv, grown, more)

pub later_noted : (state : State) (row : AnswerRow) (window id : ℕ) → row.window < window → in_window window (rows_of id state.answers) ≡ [] → in_window window (rows_of id (with_row state row).answers) ≡ []
later_noted state row window id less none = other_window state row window id (omega (arith, less)) ∙ none

-- ---- states by their parts

pub noted_state : (now : ℕ) (rounds : List Round) (finals : Option (List AllotRow)) (raises : List RaiseRow) (entries new : List Entry) (number : ℕ) (row : AnswerRow)
    → new ≡ entries ++ record { number = number; act = Answer row } ∷ []
    → ◌≡◌ {A = State} (record { now = now; rounds = rounds; finals = finals; answers = answers_of new; raises = raises })
    (with_row (record { now = now; rounds = rounds; finals = finals; answers = answers_of entries; raises = raises }) row)
noted_state now rounds finals raises entries new number row e =
    let grown : answers_of new ≡ answers_of entries ++ row ∷ [] = ap answers_of e ∙ answers_more entries (record { number = number; act = Answer row }) in
    let f : List AnswerRow → State = λ (answers : List AnswerRow). record { now = now; rounds = rounds; finals = finals; answers = answers; raises = raises } in
    ap f grown

pub cut_answers : (entries new : List Entry) (number window : ℕ) → new ≡ entries ++ record { number = number; act = Cut window } ∷ [] → answers_of new ≡ answers_of entries
cut_answers entries new number window e = ap answers_of e ∙ answers_same entries (record { number = number; act = Cut window }) refl

pub raise_answers : (entries new : List Entry) (number : ℕ) (row : RaiseRow) → new ≡ entries ++ record { number = number; act = Raise row } ∷ [] → answers_of new ≡ answers_of entries
raise_answers entries new number row e = ap answers_of e ∙ answers_same entries (record { number = number; act = Raise row }) refl

pub published_state : (now : ℕ) (rounds more : List Round) (finals : Option (List AllotRow)) (answers other : List AnswerRow) (raises : List RaiseRow) (round : Round) → more ≡ rounds ++ round ∷ [] → other ≡ answers
    → ◌≡◌ {A = State} (record { now = now + 1; rounds = more; finals = finals; answers = other; raises = raises })
    (with_round (record { now = now; rounds = rounds; finals = finals; answers = answers; raises = raises }) round)
published_state now rounds more finals answers other raises round e f =
    let g : List Round → State = λ (rs : List Round). record { now = now + 1; rounds = rs; finals = finals; answers = other; raises = raises } in
    let h : List AnswerRow → State = λ (rows : List AnswerRow). record { now = now + 1; rounds = rounds ++ round ∷ []; finals = finals; answers = rows; raises = raises } in
    ap g e ∙ ap h f

pub finished_state : (now : ℕ) (rounds : List Round) (finals : Option (List AllotRow)) (answers other : List AnswerRow) (raises : List RaiseRow) (rows : List AllotRow) → other ≡ answers
    → ◌≡◌ {A = State} (record { now = now + 1; rounds = rounds; finals = Some rows; answers = other; raises = raises })
    (with_finals (record { now = now; rounds = rounds; finals = finals; answers = answers; raises = raises }) rows)
finished_state now rounds finals answers other raises rows f =
    let h : List AnswerRow → State = λ (given : List AnswerRow). record { now = now + 1; rounds = rounds; finals = Some rows; answers = given; raises = raises } in
    ap h f

pub raised_state : (now : ℕ) (rounds : List Round) (finals : Option (List AllotRow)) (answers other : List AnswerRow) (raises more : List RaiseRow) (row : RaiseRow) → other ≡ answers → more ≡ raises ++ row ∷ []
    → ◌≡◌ {A = State} (record { now = now; rounds = rounds; finals = finals; answers = other; raises = more })
    (with_raise (record { now = now; rounds = rounds; finals = finals; answers = answers; raises = raises }) row)
raised_state now rounds finals answers other raises more row f e =
    let h : List AnswerRow → State = λ (rows : List AnswerRow). record { now = now; rounds = rounds; finals = finals; answers = rows; raises = more } in
    let g : List RaiseRow → State = λ (rs : List RaiseRow). record { now = now; rounds = rounds; finals = finals; answers = answers; raises = rs } in
    ap h f ∙ ap g e

-- ---- an accepted cut

pub published_early : (facts : SeasonFacts) (state : State) → decided facts state (asked facts (Cut state.now)) ≡ Publish → state.now < facts.rounds
published_early facts state is =
    let new = cut_new Clerk state.now facts.rounds state.now (Cut state.now) (ap (newly state.now) is) in
    elim new.ends [ inl e ↦ absurd (let f = e.0 in cc) | inr e ↦ e.1 ]

pub finished_last : (facts : SeasonFacts) (state : State) → decided facts state (asked facts (Cut state.now)) ≡ Finish → state.now ≡ facts.rounds
finished_last facts state is =
    let new = cut_new Clerk state.now facts.rounds state.now (Cut state.now) (ap (newly state.now) is) in
    elim new.ends [ inl e ↦ e.1 | inr e ↦ absurd (let f = e.0 in cc) ]

-- how the cut that publishes a round leaves all
pub published_left : (facts : SeasonFacts) (state : State) (left : List Standing) (table : List (List Choice)) (given : List (Option Seat)) (round : Round) (new : List Standing) → AreRising facts.people
    → left ≡ left_along facts state → table ≡ table_along facts state state.now → length state.rounds ≡ state.now → length round.seats ≡ length facts.people → given ≡ round.seats
    → new ≡ after_cuts (standings left table) given → new ≡ left_along facts (with_round state round)
published_left facts state left table given round new rising so turns order full is made =
    made ∙ (ap (λ (z : List (Option Seat)). after_cuts (standings left table) z) is ∙ all_left facts state left table round rising so turns order full)

pub finished_left : (facts : SeasonFacts) (state : State) (left : List Standing) (table : List (List Choice)) (rows : List AllotRow) (new : List Standing) (count : ℕ) → count ≡ length facts.people
    → left ≡ left_along facts state → table ≡ table_along facts state state.now → length state.rounds ≡ state.now
    → new ≡ after_cuts (standings left table) (seats_given count None) → new ≡ left_along facts (with_finals state rows)
finished_left facts state left table rows new count is so turns order made =
    made ∙ (ap (λ (n : ℕ). after_cuts (standings left table) (seats_given n None)) is ∙ all_left_last facts state left table rows so turns order)

-- who is still in after a cut
pub cut_still : (facts : SeasonFacts) (state : State) (left : List Standing) (n : ℕ) → HasNone state state.now → left ≡ left_along facts state → n ≡ still_in left → n ≡ still_of facts state
cut_still facts state left n none is made = made ∙ (ap still_in is ∙ sym (still_left facts state none))

-- at most as many as before
pub cut_fewer : (facts : SeasonFacts) (state : State) (left new : List Standing) (table : List (List Choice)) (given : List (Option Seat)) (old n : ℕ) → left ≡ left_along facts state
    → table ≡ table_along facts state state.now → old ≡ still_of facts state → new ≡ after_cuts (standings left table) given → n ≡ still_in new → n ≤ old
cut_fewer facts state left new table given old n so turns is made count =
    let takes = cut_takes (standings left table) given in
    let before : still_of facts state ≡ still_in (standings left table) = still_now facts state ∙ ap still_in (sym (all_stand facts state left table so turns)) in
    let after : still_in new ≡ still_in (after_cuts (standings left table) given) = ap still_in made in
    omega (arith, takes, before, after, is, count)

pub none_moved : (old new : State) (window id : ℕ) → new.answers ≡ old.answers → in_window window (rows_of id old.answers) ≡ [] → in_window window (rows_of id new.answers) ≡ []
none_moved old new window id same none = ap (λ (answers : List AnswerRow). in_window window (rows_of id answers)) same ∙ none

-- ---- an accepted raise

-- an accepted raise is of a programme of the matrix, and none of those before it
pub lifted : (facts : SeasonFacts) (state : State) (row : RaiseRow) → decided facts state (asked facts (Raise row)) ≡ Lift row
    → (row.prog.0 < length facts.matrix.programmes) × (list_any (same_raise row) state.raises ≡ false)
lifted facts state row is =
    from (changes facts state (asked facts (Raise row)).by (asked facts (Raise row)).ask (Raise row) (raised_reply row) (with_raise state row) (ap (newly state.now) is)
    (subst (λ (d : Decision). Does facts state d (raised_reply row) (with_raise state row)) (sym is) (refl, refl)))
  where
    from : Change facts state (asked facts (Raise row)).by (asked facts (Raise row)).ask (Raise row) (with_raise state row)
        → (row.prog.0 < length facts.matrix.programmes) × (list_any (same_raise row) state.raises ≡ false)
    from (Answered other asks same accepts made) = absurd (cc)
    from (Raised other code asks found known same accepts made) =
        subst (λ (r : RaiseRow). (r.prog.0 < length facts.matrix.programmes) × (list_any (same_raise r) state.raises ≡ false)) (let e : other ≡ row = cc in e) (found.below, accepts.fresh)
    from (Publishes window round asks same cuts less next made) = absurd (cc)
    from (Finishes window asks same cuts last made) = absurd (cc)

pub lifted_matrix : (facts : SeasonFacts) (state : State) (row : RaiseRow) (matrix new : SeatTable) → matrix ≡ matrix_at facts state
    → new ≡ matrix_with matrix row.prog.0 row.step (raised_to (seating_in matrix row.prog.0 row.step) row.seats) → new ≡ matrix_at facts (with_raise state row)
lifted_matrix facts state row matrix new is made =
    made ∙ (ap (λ (m : SeatTable). matrix_with m row.prog.0 row.step (raised_to (seating_in m row.prog.0 row.step) row.seats)) is ∙ sym (raised_append facts.matrix state.raises (row ∷ [])))

-- a raise changes no standing
pub left_raised : (facts : SeasonFacts) (state : State) (row : RaiseRow) → left_along facts state ≡ left_along facts (with_raise state row)
left_raised facts state row = refl

still_same : (facts : SeasonFacts) (state : State) (row : RaiseRow) (people : List Person) → still_among facts state people ≡ still_among facts (with_raise state row) people
still_same facts state row [] = refl
still_same facts state row (p ∷ people) = ap (λ (n : ℕ). in_after n (standing_then facts state state.now p.id.0)) (still_same facts state row people)

pub still_raised : (facts : SeasonFacts) (state : State) (row : RaiseRow) → still_of facts state ≡ still_of facts (with_raise state row)
still_raised facts state row = still_same facts state row facts.people

-- ---- before everything

waiting_along : (facts : SeasonFacts) (people : List Person) → replicate (length people) Waiting ≡ map (λ (p : Person). Waiting) people
waiting_along facts [] = refl
waiting_along facts (p ∷ people) = ap (λ (z : List Standing). Waiting ∷ z) (waiting_along facts people)

pub opening_left : (facts : SeasonFacts) (left : List Standing) → left ≡ replicate (length facts.people) Waiting → left ≡ left_along facts opening
opening_left facts left e = e ∙ waiting_along facts facts.people

opening_none : HasNone opening 0
opening_none = λ id. refl

count_waiting : (people : List Person) → still_in (map (λ (p : Person). Waiting) people) ≡ length people
count_waiting [] = refl
count_waiting (p ∷ people) = let rest = count_waiting people in omega (arith, rest)

pub opening_still : (facts : SeasonFacts) → length facts.people ≡ still_of facts opening
opening_still facts = sym (still_left facts opening opening_none ∙ count_waiting facts.people)

pub opening_tables : (facts : SeasonFacts) (tables : List (List (List Choice))) (table : List (List Choice)) → tables ≡ table ∷ [] → table ≡ no_turns (length facts.people) → AreTables facts opening tables
opening_tables facts tables table e empty window t here = first window (ap (λ (z : List (List (List Choice))). slice_get z window) (sym e) ∙ here)
  where
    first : (window : ℕ) → slice_get (table ∷ []) window ≡ Some t → t ≡ table_along facts opening window
    first zero there = (let same : t ≡ table = cc in same) ∙ (empty ∙ no_table facts opening 0 opening_none)
    first (suc window) there = absurd (cc)

pub opening_state : (rounds : List Round) (entries : List Entry) (raises : List RaiseRow) → rounds ≡ [] → entries ≡ [] → raises ≡ []
    → ◌≡◌ {A = State} (record { now = 0; rounds = rounds; finals = None; answers = answers_of entries; raises = raises }) opening
opening_state rounds entries raises e f g =
    let a : List Round → State = λ (rs : List Round). record { now = 0; rounds = rs; finals = None; answers = answers_of entries; raises = raises } in
    let b : List Entry → State = λ (es : List Entry). record { now = 0; rounds = []; finals = None; answers = answers_of es; raises = raises } in
    let d : List RaiseRow → State = λ (rs : List RaiseRow). record { now = 0; rounds = []; finals = None; answers = []; raises = rs } in
    ap a e ∙ (ap b f ∙ ap d g)

pub opening_history : (facts : SeasonFacts) (entries : List Entry) (state : State) → entries ≡ [] → state ≡ opening → IsHistory facts entries state
opening_history facts entries state e f =
    subst (λ (es : List Entry). IsHistory facts es state) (sym e) (subst (λ (s : State). IsHistory facts [] s) (sym f) (record { numbers = refl; reached = refl }))

pub opening_later : (state : State) (window id : ℕ) → state ≡ opening → in_window window (rows_of id state.answers) ≡ []
opening_later state window id e = ap (λ (s : State). in_window window (rows_of id s.answers)) e
