-- What a chain of refusals comes to.
use Rattle.std.proofs.Common.{◌≡◌, ◌<◌, ◌+◌, ◌⊎◌, inl, inr, ℕ, Bool, true, false, Option, Some, None, arith, refl, sym, ◌∙◌, subst, not, nat_lt, ◌==◌, if◌then◌else◌}
use Rattle.std.specs.Prelude.{◌||◌, ◌&&◌, ◌-◌, ◌≢◌, nat_le}
use Rattle.std.proofs.lemmas.Bool.{cond-true, eqb-false, eqb-true, lt-ltb, ltb-false, or_parts}
use Rattle.office_base.specs.Limits.{most_matrix_seats, most_step_seats, most_turns}
use Rattle.seat_matrix.specs.Seats.{is_dereserved}
use Rattle.round_options.specs.Options.{may_follow}
use Rattle.office_asks.specs.declared.ask.By.{By}
use Rattle.office_base.specs.declared.choice.Choice.{Choice}
use Rattle.office_base.specs.declared.choice.Choice.TheVariants.{Freeze, Float, Slide, Withdraw}
use Rattle.office_base.specs.declared.person.ProgId.{ProgId}
use Rattle.kept_rows.specs.declared.rows.AnswerRow.{AnswerRow}
use Rattle.kept_rows.specs.declared.rows.RaiseRow.{RaiseRow}
use Rattle.office_moves.specs.Judge.{is_candidate, is_clerk, is_gone, is_withdraw, judge_answer, judge_cut, judge_new_answer, judge_new_seats, judge_next_answer, judge_raise, not_open, once_more, refuse_as, refuse_if, same_choice, with_programme}
use Rattle.office_moves.specs.History.{newly}
use Rattle.office_moves.specs.declared.decide.AnswerFacts.{AnswerFacts}
use Rattle.office_moves.specs.declared.decide.Decision.{Decision}
use Rattle.office_moves.specs.declared.decide.Decision.TheVariants.{Refuse, NotedAgain, RaisedAgain, CutAgain, Note, Lift, Publish, Finish}
use Rattle.office_moves.specs.declared.decide.RaiseFacts.{RaiseFacts}
use Rattle.office_moves.specs.declared.moves.Act.{Act}
use Rattle.office_moves.specs.declared.refusal.Refusal.{Refusal}
use Rattle.office_moves.specs.declared.refusal.Refusal.TheVariants.{Ahead, Denied, Gap, LastWindow, TurnUsed, UnknownCandidate}

-- ---- an answer

-- an answer that is newly accepted: its candidate is known and gives it, nothing was accepted at its turn, its window is open, its turn is the next, and it is noted
pub record IsNewAnswer (looks : AnswerFacts) (by : By) (row : AnswerRow) : Type 0 where
  pub known : looks.known ≡ true
  pub own : is_candidate by row.cand ≡ true
  pub fresh : looks.kept ≡ None
  pub opened : not_open looks.window looks.rounds row.window ≡ None
  pub turn : (row.turn == looks.last + 1) ≡ true
  pub next : judge_next_answer looks row ≡ Note row
  pub noted : judge_answer looks by row ≡ Note row

next_chain : (now : ℕ) (gone none wide many : Bool) (how first second third : Refusal) (row : AnswerRow) (act : Act)
    → newly now (refuse_if gone how (refuse_if none first (refuse_if wide second (refuse_if many third (Note row))))) ≡ Some act
    → refuse_if gone how (refuse_if none first (refuse_if wide second (refuse_if many third (Note row)))) ≡ Note row
next_chain now true none wide many how first second third row act h = absurd (cc)
next_chain now false true wide many how first second third row act h = absurd (cc)
next_chain now false false true many how first second third row act h = absurd (cc)
next_chain now false false false true how first second third row act h = absurd (cc)
next_chain now false false false false how first second third row act h = refl

next_new : (now : ℕ) (looks : AnswerFacts) (row : AnswerRow) (act : Act) → newly now (judge_next_answer looks row) ≡ Some act → judge_next_answer looks row ≡ Note row
next_new now looks row act h =
    next_chain now (is_gone looks.standing) (not looks.seated && not (is_withdraw row.choice)) (not (may_follow looks.left row.choice)) (nat_lt most_turns row.turn && not (is_withdraw row.choice))
    _ _ _ _ row act h

-- what the tests before the next answer's are
record Passed (now : ℕ) (known own : Bool) (kept : Option Choice) (opened : Option Refusal) (turn : Bool) (whole rest : Decision) (act : Act) : Type 0 where
  is_known : known ≡ true
  is_own : own ≡ true
  is_fresh : kept ≡ None
  is_open : opened ≡ None
  is_turn : turn ≡ true
  is_new : newly now rest ≡ Some act
  is_rest : whole ≡ rest

once_old : (now : ℕ) (same : Bool) (row : AnswerRow) (refusal : Refusal) (act : Act) → newly now (if same then NotedAgain row else Refuse refusal) ≡ Some act → ⊥
once_old now true row refusal act h = cc
once_old now false row refusal act h = cc

answer_chain : (now : ℕ) (known own : Bool) (kept : Option Choice) (opened : Option Refusal) (turn : Bool) (gap : Refusal) (row : AnswerRow) (rest : Decision) (act : Act)
    → newly now (refuse_if (not known) UnknownCandidate (refuse_if (not own) (Denied 1) (once_more kept row (refuse_as opened (refuse_if (not turn) gap rest))))) ≡ Some act
    → Passed now known own kept opened turn (refuse_if (not known) UnknownCandidate (refuse_if (not own) (Denied 1) (once_more kept row (refuse_as opened (refuse_if (not turn) gap rest))))) rest act
answer_chain now false own kept opened turn gap row rest act h = absurd (cc)
answer_chain now true false kept opened turn gap row rest act h = absurd (cc)
answer_chain now true true (Some choice) opened turn gap row rest act h = absurd (once_old now (same_choice choice row.choice) row (TurnUsed choice) act h)
answer_chain now true true None (Some refusal) turn gap row rest act h = absurd (cc)
answer_chain now true true None None false gap row rest act h = absurd (cc)
answer_chain now true true None None true gap row rest act h = record { is_known = refl; is_own = refl; is_fresh = refl; is_open = refl; is_turn = refl; is_new = h; is_rest = refl }

pub answer_new : (now : ℕ) (looks : AnswerFacts) (by : By) (row : AnswerRow) (act : Act) → newly now (judge_answer looks by row) ≡ Some act → IsNewAnswer looks by row
answer_new now looks by row act h =
    let passed = answer_chain now looks.known (is_candidate by row.cand) looks.kept (not_open looks.window looks.rounds row.window) (row.turn == looks.last + 1) (Gap looks.last) row
    (judge_next_answer looks row) act h in
    let noted = next_new now looks row act passed.is_new in
    record { known = passed.is_known; own = passed.is_own; fresh = passed.is_fresh; opened = passed.is_open; turn = passed.is_turn; next = noted; noted = passed.is_rest ∙ noted }

same_self : (choice : Choice) → same_choice choice choice ≡ true
same_self Freeze = refl
same_self Float = refl
same_self Slide = refl
same_self Withdraw = refl

again_noted : (known own : Bool) (kept : Option Choice) (row : AnswerRow) (rest : Decision) → known ≡ true → own ≡ true → kept ≡ Some row.choice
    → refuse_if (not known) UnknownCandidate (refuse_if (not own) (Denied 1) (once_more kept row rest)) ≡ NotedAgain row
again_noted true true None row rest e f h = absurd (cc)
again_noted true true (Some choice) row rest e f h =
    let same : row.choice ≡ choice = cc in
    cond-true (same_choice choice row.choice) (NotedAgain row) (Refuse (TurnUsed choice)) (subst (λ c. same_choice choice c ≡ true) (sym same) (same_self choice))
again_noted true false kept row rest e f h = absurd (cc)
again_noted false own kept row rest e f h = absurd (cc)

pub answer_again : (looks : AnswerFacts) (by : By) (row : AnswerRow) → looks.known ≡ true → is_candidate by row.cand ≡ true → looks.kept ≡ Some row.choice
    → judge_answer looks by row ≡ NotedAgain row
answer_again looks by row known own kept = again_noted looks.known (is_candidate by row.cand) looks.kept row (judge_new_answer looks row) known own kept

-- ---- a cut

-- a cut that is newly accepted is of the open window; it is the last one or not
pub record IsNewCut (by : By) (now rounds window : ℕ) : Type 0 where
  pub clerk : is_clerk by ≡ true
  pub opened : window ≡ now
  pub ends : ((judge_cut by now rounds window ≡ Finish) × (now ≡ rounds)) ⊎ ((judge_cut by now rounds window ≡ Publish) × (now < rounds))

-- the tests of a cut
record Cuts (clerk early ahead last : Bool) (whole : Decision) : Type 0 where
  is_clerk : clerk ≡ true
  is_early : early ≡ false
  is_ahead : ahead ≡ false
  ends : ((whole ≡ Finish) × (last ≡ true)) ⊎ ((whole ≡ Publish) × (last ≡ false))

cut_chain : (now window : ℕ) (clerk early ahead last : Bool) (act : Act)
    → newly now (refuse_if (not clerk) (Denied 2) (if early then CutAgain window else refuse_if ahead (Ahead now) (if last then Finish else Publish))) ≡ Some act
    → Cuts clerk early ahead last (refuse_if (not clerk) (Denied 2) (if early then CutAgain window else refuse_if ahead (Ahead now) (if last then Finish else Publish)))
cut_chain now window false early ahead last act h = absurd (cc)
cut_chain now window true true ahead last act h = absurd (cc)
cut_chain now window true false true last act h = absurd (cc)
cut_chain now window true false false true act h = record { is_clerk = refl; is_early = refl; is_ahead = refl; ends = inl (refl, refl) }
cut_chain now window true false false false act h = record { is_clerk = refl; is_early = refl; is_ahead = refl; ends = inr (refl, refl) }

pub cut_new : (by : By) (now rounds window : ℕ) (act : Act) → newly now (judge_cut by now rounds window) ≡ Some act → IsNewCut by now rounds window
cut_new by now rounds window act h =
    let cuts = cut_chain now window (is_clerk by) (nat_lt window now) (nat_lt now window || nat_lt rounds window) (window == rounds) act h in
    let within = or_parts (nat_lt now window) (nat_lt rounds window) cuts.is_ahead in
    let low = ltb-false window now cuts.is_early in
    let high = ltb-false now window within.0 in
    let few = ltb-false rounds window within.1 in
    record {
      clerk = cuts.is_clerk;
      opened = omega (arith, low, high);
      ends = elim cuts.ends [
        | inl e ↦ let same = eqb-true window rounds e.1 in inl (e.0, omega (arith, low, high, same))
        | inr e ↦ let other : window ≢ rounds = eqb-false window rounds e.1 in inr (e.0, omega (arith, low, high, few, other))
      ];
    }

past_cut : (clerk early : Bool) (window : ℕ) (rest : Decision) → clerk ≡ true → early ≡ true → refuse_if (not clerk) (Denied 2) (if early then CutAgain window else rest) ≡ CutAgain window
past_cut true true window rest e f = refl
past_cut true false window rest e f = absurd (cc)
past_cut false early window rest e f = absurd (cc)

pub cut_again : (by : By) (now rounds window : ℕ) → is_clerk by ≡ true → window < now → judge_cut by now rounds window ≡ CutAgain window
cut_again by now rounds window clerk less =
    past_cut (is_clerk by) (nat_lt window now) window (refuse_if (nat_lt now window || nat_lt rounds window) (Ahead now) (if window == rounds then Finish else Publish)) clerk (lt-ltb window now less)

-- ---- a raise

pub record IsNewRaise (looks : RaiseFacts) (by : By) (row : RaiseRow) : Type 0 where
  pub clerk : is_clerk by ≡ true
  pub fresh : looks.again ≡ false
  pub opened : not_open looks.window looks.rounds row.window ≡ None
  pub before_last : (row.window == looks.rounds) ≡ false
  pub next : judge_new_seats looks row ≡ Lift row
  pub lifted : judge_raise looks by row ≡ Lift row

seats_chain : (now : ℕ) (fixed few many : Bool) (first second third : Refusal) (row : RaiseRow) (act : Act)
    → newly now (refuse_if fixed first (refuse_if few second (refuse_if many third (Lift row)))) ≡ Some act
    → refuse_if fixed first (refuse_if few second (refuse_if many third (Lift row))) ≡ Lift row
seats_chain now true few many first second third row act h = absurd (cc)
seats_chain now false true many first second third row act h = absurd (cc)
seats_chain now false false true first second third row act h = absurd (cc)
seats_chain now false false false first second third row act h = refl

seats_new : (now : ℕ) (looks : RaiseFacts) (row : RaiseRow) (act : Act) → newly now (judge_new_seats looks row) ≡ Some act → judge_new_seats looks row ≡ Lift row
seats_new now looks row act h =
    seats_chain now (is_dereserved row.step) (nat_le row.seats looks.seats) (nat_lt most_step_seats row.seats || nat_lt most_matrix_seats (looks.total - looks.seats + row.seats))
    _ _ _ row act h

record Raises (now : ℕ) (clerk again : Bool) (opened : Option Refusal) (last : Bool) (whole rest : Decision) (act : Act) : Type 0 where
  is_clerk : clerk ≡ true
  is_fresh : again ≡ false
  is_open : opened ≡ None
  is_before : last ≡ false
  is_new : newly now rest ≡ Some act
  is_rest : whole ≡ rest

raise_chain : (now : ℕ) (clerk again : Bool) (opened : Option Refusal) (last : Bool) (row : RaiseRow) (rest : Decision) (act : Act)
    → newly now (refuse_if (not clerk) (Denied 4) (if again then RaisedAgain row else refuse_as opened (refuse_if last LastWindow rest))) ≡ Some act
    → Raises now clerk again opened last (refuse_if (not clerk) (Denied 4) (if again then RaisedAgain row else refuse_as opened (refuse_if last LastWindow rest))) rest act
raise_chain now false again opened last row rest act h = absurd (cc)
raise_chain now true true opened last row rest act h = absurd (cc)
raise_chain now true false (Some refusal) last row rest act h = absurd (cc)
raise_chain now true false None true row rest act h = absurd (cc)
raise_chain now true false None false row rest act h = record { is_clerk = refl; is_fresh = refl; is_open = refl; is_before = refl; is_new = h; is_rest = refl }

pub raise_new : (now : ℕ) (looks : RaiseFacts) (by : By) (row : RaiseRow) (act : Act) → newly now (judge_raise looks by row) ≡ Some act → IsNewRaise looks by row
raise_new now looks by row act h =
    let passed = raise_chain now (is_clerk by) looks.again (not_open looks.window looks.rounds row.window) (row.window == looks.rounds) row (judge_new_seats looks row) act h in
    let lifted = seats_new now looks row act passed.is_new in
    record { clerk = passed.is_clerk; fresh = passed.is_fresh; opened = passed.is_open; before_last = passed.is_before; next = lifted; lifted = passed.is_rest ∙ lifted }

past_raise : (clerk again : Bool) (row : RaiseRow) (rest : Decision) → clerk ≡ true → again ≡ true → refuse_if (not clerk) (Denied 4) (if again then RaisedAgain row else rest) ≡ RaisedAgain row
past_raise true true row rest e f = refl
past_raise true false row rest e f = absurd (cc)
past_raise false again row rest e f = absurd (cc)

pub raise_again : (looks : RaiseFacts) (by : By) (row : RaiseRow) → is_clerk by ≡ true → looks.again ≡ true → judge_raise looks by row ≡ RaisedAgain row
raise_again looks by row clerk again =
    past_raise (is_clerk by) looks.again row (refuse_as (not_open looks.window looks.rounds row.window) (refuse_if (row.window == looks.rounds) LastWindow (judge_new_seats looks row))) clerk again

-- ---- the programme of a code

pub with_new : (now : ℕ) (prog : Option ProgId) (rest : ProgId → Decision) (act : Act) → newly now (with_programme prog rest) ≡ Some act
    → (p : ProgId) × (prog ≡ Some p) × (newly now (rest p) ≡ Some act) × (with_programme prog rest ≡ rest p)
with_new now None rest act h = absurd (cc)
with_new now (Some prog) rest act h = (prog, refl, h, refl)
