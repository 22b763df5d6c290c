-- The turns of a candidate in a window count from 1, and are few.
use Rattle.std.proofs.Common.{◌≡◌, ◌≤◌, ◌+◌, ◌⊎◌, inl, inr, ℕ, Bool, true, false, List, [], ◌∷◌, ◌++◌, None, length, arith, refl, sym, ap, ◌∙◌, subst, nat_lt, ◌==◌, if◌then◌else◌, append-nil, length-append}
use Rattle.std.proofs.lemmas.Bool.{eqb-true}
use Rattle.std.proofs.lemmas.Bool.Decides.{nat_tests}
use Rattle.office_base.specs.declared.choice.Choice.{Choice}
use Rattle.office_base.specs.declared.choice.Choice.TheVariants.{Freeze as ToFreeze, Float as ToFloat, Slide as ToSlide, Withdraw as ToWithdraw}
use Rattle.kept_rows.specs.declared.rows.AnswerRow.{AnswerRow}
use Rattle.round_options.specs.Options.{standing_of}
use Rattle.office_moves.specs.Facts.{SeasonFacts}
use Rattle.office_moves.specs.State.{State, answered, greater, in_window, last_turn, left_by, opening, rows_of, standing_at, view_of, with_row}
use Rattle.office_moves.specs.Judge.{is_gone, is_withdraw, judge_next_answer, not_open}
use Rattle.office_moves.specs.Decided.{answer_facts}
use Rattle.office_moves.specs.History.{Reaches}
use Rattle.office_moves.specs.Promise.{standing_then}
use Rattle.office_moves.specs.declared.decide.Decision.TheVariants.{Note}
use Rattle.office_moves.specs.declared.moves.Act.{Act}
use Rattle.office_moves.specs.declared.moves.Entry.{Entry}
use Rattle.office_moves.proofs.Repeats.{rows_append}
use Rattle.history_laws.specs.Orderly.{AreAnswers, AreTurnsAfter}
use Rattle.history_laws.proofs.Accepted.{is_noted, is_open}
use Rattle.history_laws.proofs.Changes.{Answered, Finishes, Follows, Publishes, Raised}
use Rattle.history_laws.proofs.Rows.{OfOther, OfWindow, Own, Owns, answered_last, own_row, owns, rows_then}
use Rattle.history_laws.proofs.Windows.{Runs, along_windows}

-- ---- turns

pub greater_next : (k n : ℕ) → k ≤ n → greater k n ≡ n
greater_next k n less = by (nat_lt k n) refl
  where
    by : (b : Bool) → nat_lt k n ≡ b → (if b then n else k) ≡ n
    by true e = refl
    by false e = grind (arith, nat_tests)

-- the last of turns that count up is as great as there are rows
pub turns_count : (k : ℕ) (rows : List AnswerRow) → AreTurnsAfter k rows → greater k (last_turn rows) ≡ k + length rows
turns_count k [] turns = by (nat_lt k 0) refl
  where
    by : (b : Bool) → nat_lt k 0 ≡ b → (if b then 0 else k) ≡ k + 0
    by true e = grind (arith, nat_tests)
    by false e = omega arith
turns_count k (row ∷ rows) turns =
    let rest = turns_count (k + 1) rows turns.1 in
    let last : greater row.turn (last_turn rows) ≡ (k + 1) + length rows = ap (λ (n : ℕ). greater n (last_turn rows)) turns.0 ∙ rest in
    ap (greater k) last ∙ (greater_next k ((k + 1) + length rows) (omega arith) ∙ omega arith)

above_zero : (n : ℕ) → greater 0 n ≡ n
above_zero n = greater_next 0 n (omega arith)

last_counts : (rows : List AnswerRow) → AreTurnsAfter 0 rows → last_turn rows ≡ length rows
last_counts rows turns = sym (above_zero (last_turn rows)) ∙ (turns_count 0 rows turns ∙ omega arith)

turns_more : (k : ℕ) (rows : List AnswerRow) (row : AnswerRow) → AreTurnsAfter k rows → row.turn ≡ k + length rows + 1 → AreTurnsAfter k (rows ++ row ∷ [])
turns_more k [] row turns e = (omega (arith, e), tt)
turns_more k (first ∷ rows) row turns e = (turns.0, turns_more (k + 1) rows row turns.1 (omega (arith, e)))

-- ---- an accepted answer

gone_by : (choice : Choice) → is_gone (standing_of choice) ≡ false → is_withdraw choice ≡ false
gone_by ToFreeze e = refl
gone_by ToFloat e = refl
gone_by ToSlide e = refl
gone_by ToWithdraw e = e

few_turns : (choice : Choice) (turn : ℕ) → is_withdraw choice ≡ false → (choice ≡ ToWithdraw) ⊎ (turn ≤ 16) → turn ≤ 16
few_turns choice turn stays (inl out) = absurd (let away : is_withdraw choice ≡ true = ap is_withdraw out in cc)
few_turns choice turn stays (inr few) = few

-- what an accepted answer was: of the open window, of the next turn, and of somebody who was not gone; it is a withdrawal, or among the first 16
pub record IsNext (facts : SeasonFacts) (old : State) (row : AnswerRow) : Type 0 where
  pub window : row.window ≡ old.now
  pub turn : row.turn ≡ last_turn (in_window old.now (rows_of row.cand.0 old.answers)) + 1
  pub there : is_gone (standing_then facts old old.now row.cand.0) ≡ false
  pub few : is_withdraw row.choice ≡ false → row.turn ≤ 16

pub was_next : (facts : SeasonFacts) (old : State) (row : AnswerRow) → not_open old.now facts.rounds row.window ≡ None
    → (row.turn == last_turn (in_window old.now (rows_of row.cand.0 old.answers)) + 1) ≡ true → judge_next_answer (answer_facts facts (view_of old row.cand.0) row) row ≡ Note row
    → IsNext facts old row
was_next facts old row opened is_turn next =
    let noted = is_noted (answer_facts facts (view_of old row.cand.0) row) row next in
    record {
      window = (is_open old.now facts.rounds row.window opened).0;
      turn = eqb-true _ _ is_turn;
      there = noted.here;
      few = λ stays. few_turns row.choice row.turn stays noted.turns;
    }

-- ---- along a history

no_answers : (facts : SeasonFacts) → AreAnswers facts opening
no_answers facts = record { turns = λ window id. tt; most = λ window id. omega arith; room = λ id here. omega arith; later = λ window id less. refl }

with_answer : (facts : SeasonFacts) (old : State) (row : AnswerRow) → Runs facts (with_row old row) → AreAnswers facts old → IsNext facts old row → AreAnswers facts (with_row old row)
with_answer facts old row runs here next =
    let before : List AnswerRow = in_window old.now (rows_of row.cand.0 old.answers) in
    let counted : row.turn ≡ length before + 1 = next.turn ∙ ap (λ (n : ℕ). n + 1) (last_counts before (here.turns old.now row.cand.0)) in
    let few : length before ≤ 16 = here.room row.cand.0 next.there in
    let longer : length (before ++ row ∷ []) ≡ length before + 1 = length-append before (row ∷ []) in
    let now_window = next.window in
    record {
      turns = λ window id. subst (AreTurnsAfter 0) (sym (rows_then window id old.answers row)) (turned window id (owns window id row) counted);
      most = λ window id. subst (λ (rows : List AnswerRow). length rows ≤ 17) (sym (rows_then window id old.answers row)) (most_of window id (owns window id row) few longer);
      room = λ id stays. room_of id (owns old.now id row) counted longer stays;
      later = runs.answers;
    }
  where
    own_rows : (window id : ℕ) → row.cand.0 ≡ id → row.window ≡ window → in_window old.now (rows_of row.cand.0 old.answers) ≡ in_window window (rows_of id old.answers)
    own_rows window id same time = ap (λ (w : ℕ). in_window w (rows_of row.cand.0 old.answers)) (sym next.window ∙ time) ∙ ap (λ (k : ℕ). in_window window (rows_of k old.answers)) same

    not_more : (window id : ℕ) → own_row window id row ≡ [] → in_window window (rows_of id old.answers) ++ own_row window id row ≡ in_window window (rows_of id old.answers)
    not_more window id none = ap (λ (z : List AnswerRow). in_window window (rows_of id old.answers) ++ z) none ∙ append-nil (in_window window (rows_of id old.answers))

    one_more : (window id : ℕ) → row.cand.0 ≡ id → row.window ≡ window → own_row window id row ≡ row ∷ []
        → in_window window (rows_of id old.answers) ++ own_row window id row ≡ in_window old.now (rows_of row.cand.0 old.answers) ++ row ∷ []
    one_more window id same time mine = ap (λ (z : List AnswerRow). in_window window (rows_of id old.answers) ++ z) mine ∙ ap (λ (z : List AnswerRow). z ++ row ∷ []) (sym (own_rows window id same time))

    turned : (window id : ℕ) → Owns window id row → row.turn ≡ length (in_window old.now (rows_of row.cand.0 old.answers)) + 1
        → AreTurnsAfter 0 (in_window window (rows_of id old.answers) ++ own_row window id row)
    turned window id (Own same time mine) counted =
        subst (AreTurnsAfter 0) (sym (one_more window id same time mine))
        (turns_more 0 (in_window old.now (rows_of row.cand.0 old.answers)) row (here.turns old.now row.cand.0) (omega (arith, counted)))
    turned window id (OfOther others none) counted = subst (AreTurnsAfter 0) (sym (not_more window id none)) (here.turns window id)
    turned window id (OfWindow apart none) counted = subst (AreTurnsAfter 0) (sym (not_more window id none)) (here.turns window id)

    most_of : (window id : ℕ) → Owns window id row → length (in_window old.now (rows_of row.cand.0 old.answers)) ≤ 16
        → length (in_window old.now (rows_of row.cand.0 old.answers) ++ row ∷ []) ≡ length (in_window old.now (rows_of row.cand.0 old.answers)) + 1
        → length (in_window window (rows_of id old.answers) ++ own_row window id row) ≤ 17
    most_of window id (Own same time mine) few longer =
        subst (λ (rows : List AnswerRow). length rows ≤ 17) (sym (one_more window id same time mine)) (omega (arith, few, longer))
    most_of window id (OfOther others none) few longer = subst (λ (rows : List AnswerRow). length rows ≤ 17) (sym (not_more window id none)) (here.most window id)
    most_of window id (OfWindow apart none) few longer = subst (λ (rows : List AnswerRow). length rows ≤ 17) (sym (not_more window id none)) (here.most window id)

    room_of : (id : ℕ) → Owns old.now id row → row.turn ≡ length (in_window old.now (rows_of row.cand.0 old.answers)) + 1
        → length (in_window old.now (rows_of row.cand.0 old.answers) ++ row ∷ []) ≡ length (in_window old.now (rows_of row.cand.0 old.answers)) + 1
        → is_gone (standing_then facts (with_row old row) old.now id) ≡ false → length (in_window old.now (rows_of id (old.answers ++ row ∷ []))) ≤ 16
    room_of id (Own same time mine) counted longer stays =
        let rows : in_window old.now (rows_of id (old.answers ++ row ∷ [])) ≡ in_window old.now (rows_of row.cand.0 old.answers) ++ row ∷ [] =
        rows_then old.now id old.answers row ∙ one_more old.now id same time mine in
        let stands : standing_then facts (with_row old row) old.now id ≡ standing_of row.choice =
        ap (answered (left_by facts (view_of (with_row old row) id) id old.now)) rows
        ∙ answered_last (left_by facts (view_of (with_row old row) id) id old.now) (in_window old.now (rows_of row.cand.0 old.answers)) row in
        let keeps = next.few (gone_by row.choice (sym (ap is_gone stands) ∙ stays)) in
        subst (λ (z : List AnswerRow). length z ≤ 16) (sym rows) (omega (arith, keeps, counted, longer))
    room_of id (OfOther others none) counted longer stays =
        let same : rows_of id (old.answers ++ row ∷ []) ≡ rows_of id old.answers =
        rows_append id old.answers (row ∷ []) ∙ (ap (λ (z : List AnswerRow). rows_of id old.answers ++ z) others ∙ append-nil (rows_of id old.answers)) in
        subst (λ (z : List AnswerRow). length (in_window old.now z) ≤ 16) (sym same)
        (here.room id (ap (λ (z : List AnswerRow). is_gone (standing_at facts (record { now = old.now; rounds = old.rounds; rows = z }) id old.now)) (sym same) ∙ stays))
    room_of id (OfWindow apart none) counted longer stays = absurd (apart next.window)

after_window : (facts : SeasonFacts) (old new : State) → Runs facts new → new.answers ≡ old.answers → new.now ≡ old.now + 1 → AreAnswers facts old → AreAnswers facts new
after_window facts old new runs same time here = record {
  turns = λ window id. subst (λ (rows : List AnswerRow). AreTurnsAfter 0 (in_window window (rows_of id rows))) (sym same) (here.turns window id);
  most = λ window id. subst (λ (rows : List AnswerRow). length (in_window window (rows_of id rows)) ≤ 17) (sym same) (here.most window id);
  room = λ id stays.
      (let none : in_window new.now (rows_of id new.answers) ≡ [] =
      ap (λ (rows : List AnswerRow). in_window new.now (rows_of id rows)) same ∙ here.later new.now id (omega (arith, time)) in
      subst (λ (rows : List AnswerRow). length rows ≤ 16) (sym none) (omega arith));
  later = runs.answers;
}

answers_follow : (facts : SeasonFacts) (old new : State) (act : Act) → Runs facts old → Runs facts new → AreAnswers facts old → Follows facts old act new → AreAnswers facts new
answers_follow facts old new act before runs here (Answered row asks is accepts same) =
    subst (AreAnswers facts) (sym same)
    (with_answer facts old row (subst (Runs facts) same runs) here (was_next facts old row accepts.opened accepts.turn accepts.next))
answers_follow facts old new act before runs here (Raised row code asks found known is accepts same) =
    subst (AreAnswers facts) (sym same) (record { turns = here.turns; most = here.most; room = here.room; later = here.later })
answers_follow facts old new act before runs here (Publishes window round asks is cuts less next same) =
    after_window facts old new runs (ap (λ (s : State). s.answers) same) (ap (λ (s : State). s.now) same) here
answers_follow facts old new act before runs here (Finishes window asks is cuts last same) =
    after_window facts old new runs (ap (λ (s : State). s.answers) same) (ap (λ (s : State). s.now) same) here

pub are_answers : (facts : SeasonFacts) (entries : List Entry) (state : State) → Reaches facts opening entries state → AreAnswers facts state
are_answers facts entries state reached = along_windows facts (AreAnswers facts) (no_answers facts) (answers_follow facts) entries state reached
