-- How the answers of each window left the standing.
use Rattle.std.proofs.Common.{◌≡◌, ◌⊎◌, inl, inr, ℕ, true, List, [], Option, length, arith, sym, refl, ap, ◌∙◌, subst}
use Rattle.std.specs.Prelude.{is_some}
use Rattle.std.proofs.lemmas.Bool.{cases_eq, cases_lt, cases_order}
use Rattle.office_base.specs.declared.choice.Choice.TheVariants.{Withdraw}
use Rattle.office_base.specs.declared.seat.Seat.{Seat}
use Rattle.kept_rows.specs.declared.rows.AnswerRow.{AnswerRow}
use Rattle.round_options.specs.Options.{may_follow}
use Rattle.round_options.specs.declared.standing.Standing.{Standing}
use Rattle.office_moves.specs.Facts.{SeasonFacts}
use Rattle.office_moves.specs.State.{State, answered, in_window, last_seat, opening, rows_of, seat_in, view_of, with_finals, with_round, with_row}
use Rattle.office_moves.specs.Decided.{answer_facts}
use Rattle.office_moves.specs.Moves.{final_rows}
use Rattle.office_moves.specs.History.{Reaches}
use Rattle.office_moves.specs.Promise.{standing_then}
use Rattle.office_moves.specs.declared.moves.Act.{Act}
use Rattle.office_moves.specs.declared.moves.Entry.{Entry}
use Rattle.history_laws.specs.Course.{AnsweredWell, left_then}
use Rattle.history_laws.proofs.Accepted.{is_noted, is_open}
use Rattle.history_laws.proofs.Changes.{Answered, Finishes, Follows, Publishes, Raised}
use Rattle.history_laws.proofs.Fits.{Answered as CameOf}
use Rattle.history_laws.proofs.Rows.{answered_last, window_more}
use Rattle.history_laws.proofs.Stays.{Stays, answered_left, answered_stays, finished_stays, others_stay, published_stays}
use Rattle.history_laws.proofs.Windows.{Runs, along_windows}

well_again : (facts : SeasonFacts) (old new : State) (window id : ℕ) → Stays facts old new window id → AnsweredWell facts old window id → AnsweredWell facts new window id
well_again facts old new window id stays well =
    subst (λ (s : Standing). CameOf (left_then facts new window id) s (seat_in facts new.rounds window id)) (sym stays.standing)
    (subst (λ (s : Standing). CameOf s (standing_then facts old window id) (seat_in facts new.rounds window id)) (sym stays.left)
    (subst (λ (z : Option Seat). CameOf (left_then facts old window id) (standing_then facts old window id) z) (sym stays.seat) well))

-- without an answer the standing stays
none_answered : (facts : SeasonFacts) (state : State) (window id : ℕ) → in_window window (rows_of id state.answers) ≡ [] → AnsweredWell facts state window id
none_answered facts state window id none = inl (ap (λ (z : List AnswerRow). answered (left_then facts state window id) z) none)

-- an answer of the open window
well_now : (facts : SeasonFacts) (old : State) (row : AnswerRow) → length old.rounds ≡ old.now → row.window ≡ old.now
    → may_follow (left_then facts old old.now row.cand.0) row.choice ≡ true → ((row.choice ≡ Withdraw) ⊎ (is_some (last_seat facts old.rounds row.cand.0) ≡ true))
    → AnsweredWell facts (with_row old row) old.now row.cand.0
well_now facts old row same opened follows seated =
    let id = row.cand.0 in
    let left = answered_left facts old row old.now id (omega (arith, opened)) in
    inr (
      row.choice,
      ap (λ (s : Standing). may_follow s row.choice) left ∙ follows,
      ap (λ (z : List AnswerRow). answered (left_then facts (with_row old row) old.now id) z) (window_more old.now id old.answers row refl opened)
          ∙ answered_last (left_then facts (with_row old row) old.now id) (in_window old.now (rows_of id old.answers)) row,
      elim seated [
        | inl out ↦ inl out
        | inr has ↦ inr (ap (λ (n : ℕ). is_some (seat_in facts old.rounds n id)) (sym same) ∙ has)
      ],
    )

well_follows : (facts : SeasonFacts) (old new : State) (act : Act) → Runs facts old → Runs facts new → ((window id : ℕ) → AnsweredWell facts old window id) → Follows facts old act new
    → (window id : ℕ) → AnsweredWell facts new window id
well_follows facts old new act runs after well (Answered row asks is n e) window id =
    let opened = is_open old.now facts.rounds row.window n.opened in
    let here = opened.0 in
    let same = runs.time.order opened.1 in
    let noted = is_noted (answer_facts facts (view_of old row.cand.0) row) row n.next in
    elim (cases_order window old.now) [
      | inl at ↦ elim (cases_eq row.cand.0 id) [
        | inl own ↦
            subst (λ s. AnsweredWell facts s window id) (sym e)
            (subst (λ (w : ℕ). AnsweredWell facts (with_row old row) w id) (sym at)
            (subst (λ (i : ℕ). AnsweredWell facts (with_row old row) old.now i) own (well_now facts old row same here noted.follows noted.seated)))
        | inr apart ↦ subst (λ s. AnsweredWell facts s window id) (sym e) (well_again facts old (with_row old row) window id (others_stay facts old row window id apart) (well window id))
      ]
      | inr other ↦ elim other [
        | inl less ↦
            subst (λ s. AnsweredWell facts s window id) (sym e)
            (well_again facts old (with_row old row) window id (answered_stays facts old row window id (omega (arith, here, less))) (well window id))
        | inr more ↦ none_answered facts new window id (after.answers window id (let now : new.now ≡ old.now = ap (λ (s : State). s.now) e in omega (arith, now, more)))
      ]
    ]
well_follows facts old new act runs after well (Raised row code asks found known is n e) window id = subst (λ s. AnsweredWell facts s window id) (sym e) (well window id)
well_follows facts old new act runs after well (Publishes cut round asks is cuts less next e) window id =
    let same = runs.time.order (omega (arith, less)) in
    elim (cases_lt old.now window) [
      | inl more ↦ subst (λ s. AnsweredWell facts s window id) (sym e) (none_answered facts (with_round old round) window id (runs.answers window id more))
      | inr few ↦
          subst (λ s. AnsweredWell facts s window id) (sym e)
          (well_again facts old (with_round old round) window id (published_stays facts old round window id (omega (arith, same, few))) (well window id))
    ]
well_follows facts old new act runs after well (Finishes cut asks is cuts last e) window id =
    subst (λ s. AnsweredWell facts s window id) (sym e) (well_again facts old (with_finals old (final_rows facts old)) window id (finished_stays facts old window id) (well window id))

pub answered_well : (facts : SeasonFacts) (entries : List Entry) (state : State) → Reaches facts opening entries state → (window id : ℕ) → AnsweredWell facts state window id
answered_well facts entries state reached =
    along_windows facts (λ s. (window id : ℕ) → AnsweredWell facts s window id) (λ window id. none_answered facts opening window id refl) (well_follows facts) entries state reached
