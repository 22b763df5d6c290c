-- What passed the tests of an accepted request: its window is open, and its answer may be noted.
use Rattle.std.proofs.Common.{◌≡◌, ◌≤◌, ◌⊎◌, inl, inr, ℕ, Bool, true, false, Some, None, arith, refl, not, nat_lt, if◌then◌else◌}
use Rattle.std.specs.Prelude.{◌||◌, ◌&&◌}
use Rattle.std.proofs.lemmas.Bool.{ltb-false, not-false}
use Rattle.office_base.specs.Limits.{most_turns}
use Rattle.office_base.specs.declared.choice.Choice.{Choice}
use Rattle.office_base.specs.declared.choice.Choice.TheVariants.{Freeze, Float, Slide, Withdraw}
use Rattle.kept_rows.specs.declared.rows.AnswerRow.{AnswerRow}
use Rattle.round_options.specs.Options.{may_follow}
use Rattle.office_moves.specs.Judge.{choice_of, is_gone, is_withdraw, judge_next_answer, not_open, refuse_if}
use Rattle.office_moves.specs.declared.decide.AnswerFacts.{AnswerFacts}
use Rattle.office_moves.specs.declared.decide.Decision.TheVariants.{Note}
use Rattle.office_moves.specs.declared.refusal.Refusal.{Refusal}
use Rattle.office_moves.specs.declared.refusal.Refusal.TheVariants.{Ahead, Gone, Late, NoSeat, TooManyTurns, Widening}

-- ---- the window

open_tests : (late ahead beyond : Bool) (r s : Refusal) → (if late then Some r else if ahead || beyond then Some s else None) ≡ None → (late ≡ false) × (ahead ≡ false) × (beyond ≡ false)
open_tests true ahead beyond r s e = absurd (cc)
open_tests false true beyond r s e = absurd (cc)
open_tests false false true r s e = absurd (cc)
open_tests false false false r s e = (refl, refl, refl)

-- an open window is the one of now, and a window of the season
pub is_open : (now rounds window : ℕ) → not_open now rounds window ≡ None → (window ≡ now) × (now ≤ rounds)
is_open now rounds window e =
    let tests = open_tests (nat_lt window now) (nat_lt now window) (nat_lt rounds window) (Late now) (Ahead now) e in
    let low = ltb-false window now tests.0 in
    let high = ltb-false now window tests.1 in
    let few = ltb-false rounds window tests.2 in
    (omega (arith, low, high), omega (arith, low, high, few))

-- ---- an answer that is noted

pub record IsNoted (looks : AnswerFacts) (row : AnswerRow) : Type 0 where
  pub here : is_gone looks.standing ≡ false
  pub seated : (row.choice ≡ Withdraw) ⊎ (looks.seated ≡ true)
  pub follows : may_follow looks.left row.choice ≡ true
  pub turns : (row.choice ≡ Withdraw) ⊎ (row.turn ≤ most_turns)

next_tests : (gone none wide many : Bool) (how first second third : Refusal) (row : AnswerRow)
    → refuse_if gone how (refuse_if none first (refuse_if wide second (refuse_if many third (Note row)))) ≡ Note row
    → (gone ≡ false) × (none ≡ false) × (wide ≡ false) × (many ≡ false)
next_tests true none wide many how first second third row h = absurd (cc)
next_tests false true wide many how first second third row h = absurd (cc)
next_tests false false true many how first second third row h = absurd (cc)
next_tests false false false true how first second third row h = absurd (cc)
next_tests false false false false how first second third row h = (refl, refl, refl, refl)

unless_withdraw : (b : Bool) (choice : Choice) → b && not (is_withdraw choice) ≡ false → (choice ≡ Withdraw) ⊎ (b ≡ false)
unless_withdraw false choice e = inr refl
unless_withdraw true Freeze e = absurd (cc)
unless_withdraw true Float e = absurd (cc)
unless_withdraw true Slide e = absurd (cc)
unless_withdraw true Withdraw e = inl refl

pub is_noted : (looks : AnswerFacts) (row : AnswerRow) → judge_next_answer looks row ≡ Note row → IsNoted looks row
is_noted looks row e =
    let tests = next_tests (is_gone looks.standing) (not looks.seated && not (is_withdraw row.choice)) (not (may_follow looks.left row.choice))
    (nat_lt most_turns row.turn && not (is_withdraw row.choice)) (Gone looks.standing) NoSeat (Widening (choice_of looks.left)) TooManyTurns row e in
    record {
      here = tests.0;
      seated = elim (unless_withdraw (not looks.seated) row.choice tests.1) [ inl a ↦ inl a | inr b ↦ inr (not-false looks.seated b) ];
      follows = not-false _ tests.2;
      turns = elim (unless_withdraw (nat_lt most_turns row.turn) row.choice tests.3) [ inl a ↦ inl a | inr b ↦ inr (ltb-false most_turns row.turn b) ];
    }
