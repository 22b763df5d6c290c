-- What an office kept is replayed.
use Rattle.std.proofs.Common.{◌≡◌, ◌≤◌, ◌<◌, ◌+◌, ◌-◌, ◌==◌, inl, inr, ℕ, zero, suc, Bool, true, false, List, [], ◌∷◌, map, arith, refl, sym, ap, ◌∙◌, subst, nat_lt, if◌then◌else◌}
use Rattle.std.specs.Prelude.{Result, Ok, Err}
use Rattle.std.proofs.lemmas.Bool.{cases_Bool, cond-false, lt-ltb, ltb-true}
use Rattle.kept_rows.specs.declared.rows.AnswerRow.{AnswerRow}
use Rattle.kept_rows.specs.declared.rows.Kept.{Kept}
use Rattle.kept_rows.specs.declared.rows.RaiseRow.{RaiseRow}
use Rattle.office_moves.specs.Facts.{SeasonFacts}
use Rattle.office_moves.specs.Stands.{AreRecordsOf, raises_in}
use Rattle.office_moves.specs.State.{State, in_window, with_raise, with_row}
use Rattle.office_moves.specs.declared.moves.Act.{Act}
use Rattle.office_moves.specs.declared.moves.Act.TheVariants.{Answer, Raise}
use Rattle.season_laws.specs.Kept.{KeptIsReplayed}
use Rattle.replays.specs.Replay.{Closes, IsReplayed, Pass, RowsPass, WindowPasses, rows_replayed, takes}
use Rattle.season_laws.proofs.InWindows.{AllTaken, AreOver, GoesByWindows, IsOver, RowsTaken, all_by_windows}

-- ---- the rows of one window, in their table

-- a row of the window that is taken
replayed_on : (facts : SeasonFacts) (window place : ℕ) (row : Act) (rows : List Act) (state : State) (mine took : Bool) (rest here : Result State ℕ) → mine ≡ true → took ≡ true
    → (if mine then (if took then rest else Err place) else here) ≡ rest
replayed_on facts window place row rows state true true rest here first second = refl
replayed_on facts window place row rows state true false rest here first second = absurd (cc)
replayed_on facts window place row rows state false took rest here first second = absurd (cc)

raises_replayed_well : (facts : SeasonFacts) (window place : ℕ) (rows : List RaiseRow) (old new : State) → AllTaken facts (map Raise (raises_in window rows)) old new
    → rows_replayed facts window place (map Raise rows) old ≡ Ok new
raises_replayed_well facts window place [] old new all = ap (λ s. Ok s) (sym all)
raises_replayed_well facts window place (row ∷ rows) old new all = elim (cases_Bool (row.window == window)) [
  | inl mine ↦
      let rest = taken (row.window == window) mine all in
      replayed_on facts window place (Raise row) (map Raise rows) old (row.window == window) (takes facts old (Raise row)) _ _ mine rest.0
      ∙ raises_replayed_well facts window (place + 1) rows (with_raise old row) new rest.1
  | inr other ↦
      cond-false (row.window == window) _ (rows_replayed facts window (place + 1) (map Raise rows) old) other
      ∙ raises_replayed_well facts window (place + 1) rows old new (left_out (row.window == window) other all)
]
  where
    taken : (b : Bool) → b ≡ true → AllTaken facts (map Raise (if b then row ∷ raises_in window rows else raises_in window rows)) old new
        → (takes facts old (Raise row) ≡ true) × AllTaken facts (map Raise (raises_in window rows)) (with_raise old row) new
    taken true e all = all
    taken false e all = absurd (cc)

    left_out : (b : Bool) → b ≡ false → AllTaken facts (map Raise (if b then row ∷ raises_in window rows else raises_in window rows)) old new
        → AllTaken facts (map Raise (raises_in window rows)) old new
    left_out true e all = absurd (cc)
    left_out false e all = all

answers_replayed_well : (facts : SeasonFacts) (window place : ℕ) (rows : List AnswerRow) (old new : State) → AllTaken facts (map Answer (in_window window rows)) old new
    → rows_replayed facts window place (map Answer rows) old ≡ Ok new
answers_replayed_well facts window place [] old new all = ap (λ s. Ok s) (sym all)
answers_replayed_well facts window place (row ∷ rows) old new all = elim (cases_Bool (row.window == window)) [
  | inl mine ↦
      let rest = taken (row.window == window) mine all in
      replayed_on facts window place (Answer row) (map Answer rows) old (row.window == window) (takes facts old (Answer row)) _ _ mine rest.0
      ∙ answers_replayed_well facts window (place + 1) rows (with_row old row) new rest.1
  | inr other ↦
      cond-false (row.window == window) _ (rows_replayed facts window (place + 1) (map Answer rows) old) other
      ∙ answers_replayed_well facts window (place + 1) rows old new (left_out (row.window == window) other all)
]
  where
    taken : (b : Bool) → b ≡ true → AllTaken facts (map Answer (if b then row ∷ in_window window rows else in_window window rows)) old new
        → (takes facts old (Answer row) ≡ true) × AllTaken facts (map Answer (in_window window rows)) (with_row old row) new
    taken true e all = all
    taken false e all = absurd (cc)

    left_out : (b : Bool) → b ≡ false → AllTaken facts (map Answer (if b then row ∷ in_window window rows else in_window window rows)) old new
        → AllTaken facts (map Answer (in_window window rows)) old new
    left_out true e all = absurd (cc)
    left_out false e all = all

-- ---- windows

module _ (facts : SeasonFacts) (state : State) (kept : Kept) (records : AreRecordsOf facts state kept) where
  rows_pass : (window : ℕ) (old new : State) → RowsTaken facts (raises_in window state.raises) (in_window window state.answers) old new → RowsPass facts kept window old new
  rows_pass window old new rows = record {
    raised = rows.raised;
    raises = raises_replayed_well facts window 1 kept.raises old rows.raised (subst (λ l. AllTaken facts (map Raise l) old rows.raised) (sym (records.raises window)) rows.first);
    answers = answers_replayed_well facts window 1 kept.answers rows.raised new (subst (λ l. AllTaken facts (map Answer l) rows.raised new) (sym (records.answers window)) rows.second);
  }

  -- a window that is over passes
  over_passes : (window : ℕ) (old new : State) → window < kept.cuts → IsOver facts state window old new → WindowPasses facts kept window old new
  over_passes window old new less over = record {
    last = over.last;
    rows = rows_pass window old over.last over.rows;
    close = subst (λ b. Closes facts kept window b over.last new) (sym (lt-ltb window kept.cuts less)) (over.cut, λ id. records.allots (window + 1) id ∙ over.seats id);
  }

  over_pass : (window : ℕ) (new : State) → window ≤ kept.cuts → AreOver facts state window new → Pass facts kept window new
  over_pass zero new few over = over
  over_pass (suc window) new few over = (over.0, over_pass window over.0 (omega (arith, few)) over.1, over_passes window over.0 new (omega (arith, few)) over.2)

  -- a window without a cut
  stays_open : (window : ℕ) (old new : State) → kept.cuts ≤ window → RowsTaken facts (raises_in window state.raises) (in_window window state.answers) old new
      → WindowPasses facts kept window old new
  stays_open window old new late rows = record {
    last = new;
    rows = rows_pass window old new rows;
    close = subst (λ b. Closes facts kept window b new new) (sym (not_less window kept.cuts late)) refl;
  }
    where
      not_less : (m n : ℕ) → n ≤ m → nat_lt m n ≡ false
      not_less m n late = elim (cases_Bool (nat_lt m n)) [ inl e ↦ absurd (let less = ltb-true m n e in omega (arith, less, late)) | inr e ↦ e ]

  -- the open window
  open_passes : GoesByWindows facts state → Pass facts kept (suc state.now) state
  open_passes goes =
      let cuts = records.cuts in
      (goes.begun, over_pass state.now goes.begun (omega (arith, cuts)) goes.over, stays_open state.now goes.begun state (omega (arith, cuts)) goes.rows)

  -- a window to come
  later_passes : (window : ℕ) → state.now < window → GoesByWindows facts state → WindowPasses facts kept window state state
  later_passes window later goes =
      let cuts = records.cuts in
      stays_open window state state (omega (arith, cuts, later)) (record {
        raised = state;
        first = subst (λ l. AllTaken facts (map Raise l) state state) (sym (goes.later_raises window later)) refl;
        second = subst (λ l. AllTaken facts (map Answer l) state state) (sym (goes.later_answers window later)) refl;
      })

  -- the open window, and so many after it
  all_pass : (more window : ℕ) → window ≡ more + state.now → GoesByWindows facts state → Pass facts kept (suc window) state
  all_pass zero window same goes = let e : state.now ≡ window = omega (arith, same) in subst (λ n. Pass facts kept (suc n) state) e (open_passes goes)
  all_pass (suc more) window same goes =
      let before = more + state.now in
      let e : suc before ≡ window = omega (arith, same) in
      subst (λ n. Pass facts kept (suc n) state) e (state, all_pass more before refl goes, later_passes (suc before) (omega arith) goes)

  passed_all : (windows : ℕ) → state.now < windows → GoesByWindows facts state → Pass facts kept windows state
  passed_all zero later goes = absurd (omega (arith, later))
  passed_all (suc window) later goes = all_pass (window - state.now) window (omega (arith, later)) goes

  replayed : GoesByWindows facts state → IsReplayed facts kept state
  replayed goes = record {
    passed = λ windows later. passed_all windows (let cuts = records.cuts in omega (arith, later, cuts)) goes;
    uncounted = λ number none id. records.allots number id;
  }

pub kept_is_replayed : (facts : SeasonFacts) → KeptIsReplayed facts
kept_is_replayed facts entries state kept history records = replayed facts state kept records (all_by_windows facts entries state history.reached)
