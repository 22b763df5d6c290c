-- A raise is taken exactly where the tests say so; and which windows are open.
use Rattle.std.proofs.Common.{◌≡◌, ◌<◌, ◌≤◌, ◌+◌, ℕ, Bool, true, false, not, Option, Some, None, arith, refl, sym, ap, ◌∙◌, subst, nat_lt, ◌==◌, if◌then◌else◌}
use Rattle.std.specs.Prelude.{◌&&◌, ◌||◌, ◌-◌, nat_le}
use Rattle.std.proofs.lemmas.Bool.{and_from, and_parts, eq-eqb, eqb-true, ltb-true, not-true, le-ltb}
use Rattle.std.proofs.lemmas.Bool.Decides.{nat_tests}
use Rattle.office_base.specs.Limits.{most_matrix_seats, most_step_seats}
use Rattle.office_asks.specs.declared.ask.By.{By}
use Rattle.kept_rows.specs.declared.rows.RaiseRow.{RaiseRow}
use Rattle.seat_matrix.specs.Seats.{is_dereserved}
use Rattle.office_moves.specs.History.{newly}
use Rattle.office_moves.specs.Judge.{is_clerk, judge_new_seats, judge_raise, not_open, refuse_as, refuse_if}
use Rattle.office_moves.specs.declared.decide.Decision.{Decision}
use Rattle.office_moves.specs.declared.decide.Decision.TheVariants.{Lift, RaisedAgain}
use Rattle.office_moves.specs.declared.decide.RaiseFacts.{RaiseFacts}
use Rattle.office_moves.specs.declared.moves.Act.{Act}
use Rattle.office_moves.specs.declared.refusal.Refusal.{Refusal}
use Rattle.office_moves.specs.declared.refusal.Refusal.TheVariants.{Ahead, Denied, LastWindow, Late}
use Rattle.office_moves.proofs.Chains.{raise_new}
use Rattle.history_laws.proofs.Accepted.{is_open}
use Rattle.audit_rules.specs.Raises.{lifts, may_have}

-- ---- windows

open_when : (late ahead beyond : Bool) (r s : Refusal) → late ≡ false → ahead ≡ false → beyond ≡ false → (if late then Some r else if ahead || beyond then Some s else None) ≡ None
open_when true ahead beyond r s a b c = absurd (cc)
open_when false true beyond r s a b c = absurd (cc)
open_when false false true r s a b c = absurd (cc)
open_when false false false r s a b c = refl

-- the open window, up to the one after the last round
pub opened : (now rounds window : ℕ) → window ≡ now → now ≤ rounds → not_open now rounds window ≡ None
opened now rounds window same few =
    open_when (nat_lt window now) (nat_lt now window) (nat_lt rounds window) (Late now) (Ahead now) (le-ltb window now (omega (arith, same))) (le-ltb now window (omega (arith, same)))
    (le-ltb rounds window (omega (arith, same, few)))

-- ---- the seats of a raise

have_chain : (fixed few big over : Bool) (first second third : Refusal) (row : RaiseRow) → (not fixed && (not few && (not big && not over))) ≡ true
    → refuse_if fixed first (refuse_if few second (refuse_if (big || over) third (Lift row))) ≡ Lift row
have_chain true few big over first second third row e = absurd (cc)
have_chain false true big over first second third row e = absurd (cc)
have_chain false false true over first second third row e = absurd (cc)
have_chain false false false true first second third row e = absurd (cc)
have_chain false false false false first second third row e = refl

have_back : (fixed few big over : Bool) (first second third : Refusal) (row : RaiseRow) → refuse_if fixed first (refuse_if few second (refuse_if (big || over) third (Lift row))) ≡ Lift row
    → (not fixed && (not few && (not big && not over))) ≡ true
have_back true few big over first second third row e = absurd (cc)
have_back false true big over first second third row e = absurd (cc)
have_back false false true over first second third row e = absurd (cc)
have_back false false false true first second third row e = absurd (cc)
have_back false false false false first second third row e = refl

less_is : (m n : ℕ) → nat_lt m n ≡ not (nat_le n m)
less_is m n = grind (arith, nat_tests)

most_is : (m n : ℕ) → nat_le m n ≡ not (nat_lt n m)
most_is m n = grind (arith, nat_tests)

have_is : (looks : RaiseFacts) (row : RaiseRow) → may_have looks row
    ≡ (not (is_dereserved row.step) && (not (nat_le row.seats looks.seats) && (not (nat_lt most_step_seats row.seats) && not (nat_lt most_matrix_seats (looks.total - looks.seats + row.seats)))))
have_is looks row =
    ap (λ (b : Bool). not (is_dereserved row.step) && (b && (nat_le row.seats most_step_seats && nat_le (looks.total - looks.seats + row.seats) most_matrix_seats))) (less_is looks.seats row.seats)
    ∙ (ap (λ (b : Bool). not (is_dereserved row.step) && (not (nat_le row.seats looks.seats) && (b && nat_le (looks.total - looks.seats + row.seats) most_matrix_seats))) (most_is row.seats most_step_seats)
    ∙ ap (λ (b : Bool). not (is_dereserved row.step) && (not (nat_le row.seats looks.seats) && (not (nat_lt most_step_seats row.seats) && b))) (most_is (looks.total - looks.seats + row.seats) most_matrix_seats))

seats_pass : (looks : RaiseFacts) (row : RaiseRow) → may_have looks row ≡ true → judge_new_seats looks row ≡ Lift row
seats_pass looks row e =
    have_chain (is_dereserved row.step) (nat_le row.seats looks.seats) (nat_lt most_step_seats row.seats) (nat_lt most_matrix_seats (looks.total - looks.seats + row.seats)) _ _ _ row (sym (have_is looks row) ∙ e)

seats_back : (looks : RaiseFacts) (row : RaiseRow) → judge_new_seats looks row ≡ Lift row → may_have looks row ≡ true
seats_back looks row e =
    have_is looks row
    ∙ have_back (is_dereserved row.step) (nat_le row.seats looks.seats) (nat_lt most_step_seats row.seats) (nat_lt most_matrix_seats (looks.total - looks.seats + row.seats)) _ _ _ row e

-- ---- every test

lift_chain : (clerk again : Bool) (opened : Option Refusal) (last : Bool) (row : RaiseRow) (rest : Decision) → clerk ≡ true → again ≡ false → opened ≡ None → last ≡ false → rest ≡ Lift row
    → refuse_if (not clerk) (Denied 4) (if again then RaisedAgain row else refuse_as opened (refuse_if last LastWindow rest)) ≡ Lift row
lift_chain true false None false row rest a b c d e = e
lift_chain false again opened last row rest a b c d e = absurd (cc)
lift_chain true true opened last row rest a b c d e = absurd (cc)
lift_chain true false (Some r) last row rest a b c d e = absurd (cc)
lift_chain true false None true row rest a b c d e = absurd (cc)

is_not : (b : Bool) → b ≡ false → not b ≡ true
is_not true e = absurd (cc)
is_not false e = refl

pub not_last : (m n : ℕ) → m < n → (m == n) ≡ false
not_last m n less = grind (arith, nat_tests)

less_than : (m n : ℕ) → m ≤ n → (m == n) ≡ false → nat_lt m n ≡ true
less_than m n few other = grind (arith, nat_tests)

pub is_lifted : (looks : RaiseFacts) (by : By) (row : RaiseRow) → lifts looks by row ≡ true → judge_raise looks by row ≡ Lift row
is_lifted looks by row e =
    let clerk = and_parts (is_clerk by) _ e in
    let fresh = and_parts (not looks.again) _ clerk.1 in
    let rest = and_parts (row.window == looks.window && nat_lt looks.window looks.rounds) (may_have looks row) fresh.1 in
    let time = and_parts (row.window == looks.window) (nat_lt looks.window looks.rounds) rest.0 in
    let same = eqb-true row.window looks.window time.0 in
    let less = ltb-true looks.window looks.rounds time.1 in
    lift_chain (is_clerk by) looks.again (not_open looks.window looks.rounds row.window) (row.window == looks.rounds) row (judge_new_seats looks row) clerk.0 (not-true looks.again fresh.0)
    (opened looks.window looks.rounds row.window same (omega (arith, less))) (not_last row.window looks.rounds (omega (arith, same, less))) (seats_pass looks row rest.1)

pub not_lifted : (now : ℕ) (looks : RaiseFacts) (by : By) (row : RaiseRow) → lifts looks by row ≡ false → newly now (judge_raise looks by row) ≡ None
not_lifted now looks by row fails = go (newly now (judge_raise looks by row)) refl
  where
    go : (o : Option Act) → newly now (judge_raise looks by row) ≡ o → o ≡ None
    go None e = refl
    go (Some act) e =
        let n = raise_new now looks by row act e in
        let time = is_open looks.window looks.rounds row.window n.opened in
        let last = subst (λ (w : ℕ). (w == looks.rounds) ≡ false) time.0 n.before_last in
        let all : lifts looks by row ≡ true =
        and_from (is_clerk by) _ n.clerk (and_from (not looks.again) _ (is_not looks.again n.fresh)
        (and_from (row.window == looks.window && nat_lt looks.window looks.rounds) (may_have looks row)
        (and_from (row.window == looks.window) (nat_lt looks.window looks.rounds) (eq-eqb row.window looks.window time.0) (less_than looks.window looks.rounds time.1 last)) (seats_back looks row n.next))) in
        absurd (cc)
