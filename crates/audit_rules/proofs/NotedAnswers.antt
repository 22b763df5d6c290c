-- An answer is noted exactly where the tests say so.
use Rattle.std.proofs.Common.{◌≡◌, ◌<◌, ◌+◌, ℕ, Bool, true, false, not, List, [], ◌∷◌, Option, Some, None, arith, refl, sym, subst, nat_lt, ◌==◌, if◌then◌else◌}
use Rattle.std.specs.Prelude.{◌&&◌, ◌||◌, nat_le}
use Rattle.std.proofs.lemmas.Bool.{and_from, and_parts, eqb-true, and_right, and_left}
use Rattle.std.proofs.lemmas.Bool.Decides.{nat_tests}
use Rattle.office_base.specs.Limits.{most_turns}
use Rattle.office_asks.specs.declared.ask.By.{By}
use Rattle.office_base.specs.declared.choice.Choice.{Choice}
use Rattle.kept_rows.specs.declared.rows.AnswerRow.{AnswerRow}
use Rattle.round_options.specs.Options.{may_follow}
use Rattle.office_moves.specs.Decided.{answer_facts, decide_answer, is_known}
use Rattle.office_moves.specs.Facts.{SeasonFacts}
use Rattle.office_moves.specs.History.{newly}
use Rattle.office_moves.specs.Judge.{choice_of, is_candidate, is_gone, is_withdraw, judge_next_answer, not_open, once_more, refuse_as, refuse_if}
use Rattle.office_moves.specs.State.{State, accepted, greater, in_window, last_turn, rows_of, view_of}
use Rattle.office_moves.specs.declared.decide.Decision.{Decision}
use Rattle.office_moves.specs.declared.decide.Decision.TheVariants.{Note}
use Rattle.office_moves.specs.declared.moves.Act.{Act}
use Rattle.office_moves.specs.declared.refusal.Refusal.{Refusal}
use Rattle.office_moves.specs.declared.refusal.Refusal.TheVariants.{Denied, Gap, Gone, NoSeat, TooManyTurns, UnknownCandidate, Widening}
use Rattle.office_moves.proofs.Chains.{answer_new}
use Rattle.audit_rules.specs.Stands.{may_answer, notes, stand_of}
use Rattle.audit_rules.specs.declared.stand.Stand.{Stand}
use Rattle.audit_rules.proofs.TakenRaises.{not_last}

-- ---- the next answer

may_chain : (gone has out follows few : Bool) (how first second third : Refusal) (row : AnswerRow)
    → (not gone && ((has || out) && (follows && (few || out)))) ≡ true
    → refuse_if gone how (refuse_if (not has && not out) first (refuse_if (not follows) second (refuse_if (not few && not out) third (Note row)))) ≡ Note row
may_chain true has out follows few how first second third row e = absurd (cc)
may_chain false true out false few how first second third row e = absurd (cc)
may_chain false true true true few how first second third row e = by few
  where
    by : (few : Bool) → refuse_if (not few && false) third (Note row) ≡ Note row
    by true = refl
    by false = refl
may_chain false true false true true how first second third row e = refl
may_chain false true false true false how first second third row e = absurd (cc)
may_chain false false true false few how first second third row e = absurd (cc)
may_chain false false true true true how first second third row e = refl
may_chain false false true true false how first second third row e = refl
may_chain false false false follows few how first second third row e = absurd (cc)

may_back : (gone has out follows few : Bool) (how first second third : Refusal) (row : AnswerRow)
    → refuse_if gone how (refuse_if (not has && not out) first (refuse_if (not follows) second (refuse_if (not few && not out) third (Note row)))) ≡ Note row
    → (not gone && ((has || out) && (follows && (few || out)))) ≡ true
may_back true has out follows few how first second third row e = absurd (cc)
may_back false true out false few how first second third row e = by out e
  where
    by : (out : Bool) → refuse_if false how (refuse_if (false && not out) first (refuse_if true second (refuse_if (not few && not out) third (Note row)))) ≡ Note row → (false && (few || out)) ≡ true
    by true e = absurd (cc)
    by false e = absurd (cc)
may_back false true true true true how first second third row e = refl
may_back false true true true false how first second third row e = refl
may_back false true false true true how first second third row e = refl
may_back false true false true false how first second third row e = absurd (cc)
may_back false false true false few how first second third row e = absurd (cc)
may_back false false true true true how first second third row e = refl
may_back false false true true false how first second third row e = refl
may_back false false false follows few how first second third row e = absurd (cc)

late_turn : (n : ℕ) → nat_lt most_turns n ≡ not (nat_le n most_turns)
late_turn n = grind (arith, nat_tests)

-- the looks of a candidate with this `Stand`
next_is : (facts : SeasonFacts) (state : State) (row : AnswerRow) → may_answer (stand_of facts state row.cand.0) row ≡ true
    → judge_next_answer (answer_facts facts (view_of state row.cand.0) row) row ≡ Note row
next_is facts state row e =
    let looks = answer_facts facts (view_of state row.cand.0) row in
    subst (λ (late : Bool). refuse_if (is_gone looks.standing) (Gone looks.standing) (refuse_if (not looks.seated && not (is_withdraw row.choice)) NoSeat
    (refuse_if (not (may_follow looks.left row.choice)) (Widening (choice_of looks.left)) (refuse_if (late && not (is_withdraw row.choice)) TooManyTurns (Note row)))) ≡ Note row) (sym (late_turn row.turn))
    (may_chain (is_gone looks.standing) looks.seated (is_withdraw row.choice) (may_follow looks.left row.choice) (nat_le row.turn most_turns) (Gone looks.standing) NoSeat (Widening (choice_of looks.left)) TooManyTurns row e)

next_may : (facts : SeasonFacts) (state : State) (row : AnswerRow) → judge_next_answer (answer_facts facts (view_of state row.cand.0) row) row ≡ Note row
    → may_answer (stand_of facts state row.cand.0) row ≡ true
next_may facts state row e =
    let looks = answer_facts facts (view_of state row.cand.0) row in
    may_back (is_gone looks.standing) looks.seated (is_withdraw row.choice) (may_follow looks.left row.choice) (nat_le row.turn most_turns) (Gone looks.standing) NoSeat (Widening (choice_of looks.left)) TooManyTurns row
    (subst (λ (late : Bool). refuse_if (is_gone looks.standing) (Gone looks.standing) (refuse_if (not looks.seated && not (is_withdraw row.choice)) NoSeat
    (refuse_if (not (may_follow looks.left row.choice)) (Widening (choice_of looks.left)) (refuse_if (late && not (is_withdraw row.choice)) TooManyTurns (Note row)))) ≡ Note row) (late_turn row.turn) e)

-- ---- nothing was accepted at the next turn

accepted_if : (b : Bool) (choice : Choice) (rest : Option Choice) → b ≡ false → rest ≡ None → (if b then Some choice else rest) ≡ None
accepted_if true choice rest e f = absurd (cc)
accepted_if false choice rest e f = f

turn_below : (first rest turn : ℕ) → greater first rest < turn → (first < turn) × (rest < turn)
turn_below first rest turn less = by (nat_lt first rest) refl less
  where
    by : (b : Bool) → nat_lt first rest ≡ b → (if b then rest else first) < turn → (first < turn) × (rest < turn)
    by true e less = (grind (arith, nat_tests), less)
    by false e less = (less, grind (arith, nat_tests))

none_accepted : (window turn : ℕ) (rows : List AnswerRow) → last_turn (in_window window rows) < turn → accepted window turn rows ≡ None
none_accepted window turn [] less = refl
none_accepted window turn (row ∷ rows) less = by (row.window == window) refl (λ later. none_accepted window turn rows later) less
  where
    by : (b : Bool) → row.window == window ≡ b → (last_turn (in_window window rows) < turn → accepted window turn rows ≡ None)
        → last_turn (if b then row ∷ in_window window rows else in_window window rows) < turn → accepted window turn (row ∷ rows) ≡ None
    by true e rest less =
        let parts = turn_below row.turn (last_turn (in_window window rows)) turn less in
        accepted_if (row.window == window && row.turn == turn) row.choice (accepted window turn rows) (and_right (row.window == window) (row.turn == turn) (not_last row.turn turn parts.0)) (rest parts.1)
    by false e rest less = accepted_if (row.window == window && row.turn == turn) row.choice (accepted window turn rows) (and_left (row.window == window) (row.turn == turn) e) (rest less)

-- ---- every test

noted_chain : (known own : Bool) (kept : Option Choice) (opened : Option Refusal) (turn : Bool) (gap : Refusal) (row : AnswerRow) (rest : Decision) → known ≡ true → own ≡ true → kept ≡ None → opened ≡ None → turn ≡ true
    → rest ≡ Note row → refuse_if (not known) UnknownCandidate (refuse_if (not own) (Denied 1) (once_more kept row (refuse_as opened (refuse_if (not turn) gap rest)))) ≡ Note row
noted_chain true true None None true gap row rest a b c d e f = f
noted_chain false own kept opened turn gap row rest a b c d e f = absurd (cc)
noted_chain true false kept opened turn gap row rest a b c d e f = absurd (cc)
noted_chain true true (Some choice) opened turn gap row rest a b c d e f = absurd (cc)
noted_chain true true None (Some refusal) turn gap row rest a b c d e f = absurd (cc)
noted_chain true true None None false gap row rest a b c d e f = absurd (cc)

-- the answer of a candidate of the register, of the open window, is noted where the tests pass
pub is_noted : (facts : SeasonFacts) (state : State) (by : By) (row : AnswerRow) → is_known facts row.cand ≡ true → not_open state.now facts.rounds row.window ≡ None → row.window ≡ state.now
    → notes (stand_of facts state row.cand.0) by row ≡ true → decide_answer facts (view_of state row.cand.0) by row ≡ Note row
is_noted facts state by row known opened now passes =
    let looks = answer_facts facts (view_of state row.cand.0) row in
    let own = and_parts (is_candidate by row.cand) _ passes in
    let next = and_parts (row.turn == looks.last + 1) (may_answer (stand_of facts state row.cand.0) row) own.1 in
    let turn : row.turn ≡ looks.last + 1 = eqb-true row.turn (looks.last + 1) next.0 in
    let fresh : looks.kept ≡ None =
    subst (λ (w : ℕ). accepted w row.turn (rows_of row.cand.0 state.answers) ≡ None) (sym now) (none_accepted state.now row.turn (rows_of row.cand.0 state.answers) (omega (arith, turn))) in
    noted_chain looks.known (is_candidate by row.cand) looks.kept (not_open looks.window looks.rounds row.window) (row.turn == looks.last + 1) (Gap looks.last) row (judge_next_answer looks row)
    known own.0 fresh opened next.0 (next_is facts state row next.1)

-- and is not taken where one of them fails
pub not_noted : (facts : SeasonFacts) (state : State) (by : By) (row : AnswerRow) → notes (stand_of facts state row.cand.0) by row ≡ false
    → newly state.now (decide_answer facts (view_of state row.cand.0) by row) ≡ None
not_noted facts state by row fails = go (newly state.now (decide_answer facts (view_of state row.cand.0) by row)) refl
  where
    go : (o : Option Act) → newly state.now (decide_answer facts (view_of state row.cand.0) by row) ≡ o → o ≡ None
    go None e = refl
    go (Some act) e =
        let n = answer_new state.now (answer_facts facts (view_of state row.cand.0) row) by row act e in
        let all : notes (stand_of facts state row.cand.0) by row ≡ true =
        and_from (is_candidate by row.cand) _ n.own (and_from (row.turn == (stand_of facts state row.cand.0).last + 1) _ n.turn (next_may facts state row n.next)) in
        absurd (cc)

-- nor where the candidate is unknown or the window is not open
pub unknown_not_noted : (facts : SeasonFacts) (state : State) (by : By) (row : AnswerRow) → is_known facts row.cand ≡ false → newly state.now (decide_answer facts (view_of state row.cand.0) by row) ≡ None
unknown_not_noted facts state by row fails = go (newly state.now (decide_answer facts (view_of state row.cand.0) by row)) refl
  where
    go : (o : Option Act) → newly state.now (decide_answer facts (view_of state row.cand.0) by row) ≡ o → o ≡ None
    go None e = refl
    go (Some act) e = let n = answer_new state.now (answer_facts facts (view_of state row.cand.0) row) by row act e in absurd (let k = n.known in cc)

-- a noted answer is of the next turn
pub next_turn : (stand : Stand) (by : By) (row : AnswerRow) → notes stand by row ≡ true → row.turn ≡ stand.last + 1
next_turn stand by row passes =
    let own = and_parts (is_candidate by row.cand) _ passes in
    let next = and_parts (row.turn == stand.last + 1) (may_answer stand row) own.1 in
    eqb-true row.turn (stand.last + 1) next.0
