-- Windows that pass, one after another, and the faults that stop them.
use Rattle.std.proofs.Common.{◌≡◌, ◌<◌, ◌≤◌, ◌+◌, ◌⊎◌, inl, inr, ℕ, zero, suc, add-one, Bool, true, false, List, [], ◌∷◌, Option, Some, None, length, arith, refl, sym, ap, ◌∙◌, subst, ◌==◌, if◌then◌else◌}
use Rattle.std.specs.Prelude.{slice_get}
use Rattle.std.proofs.lemmas.Bool.{cases_lt, eqb-true, lt-ltb, le-ltb}
use Rattle.kept_rows.specs.declared.rows.AllotRow.{AllotRow}
use Rattle.kept_rows.specs.declared.rows.Kept.{Kept}
use Rattle.rounds.specs.declared.round.Round.{Round}
use Rattle.seat_matrix.specs.Matrix.{AreSeats}
use Rattle.history_laws.specs.Orderly.{IsOrderly}
use Rattle.office_moves.specs.Facts.{SeasonFacts}
use Rattle.office_moves.specs.Stands.{published_seat, seat_in_finals}
use Rattle.office_moves.specs.State.{State, round_at, seat_in, seat_of}
use Rattle.replays.specs.Faults.{IsFaultOfWindow, IsFirstDifference, IsReplayFault, IsStrayRow, StopsInWindow}
use Rattle.replays.specs.Later.{IsEmptyWindow, IsLaterRound, IsLaterWindow}
use Rattle.replays.specs.Replay.{AllPass, AreAllotsOf, Closes, CutPasses, IsReplayed, IsUncounted, Pass, RowsPass, WindowPasses}
use Rattle.replays.specs.Steps.{IsDifference, IsRefusedCut}
use Rattle.replays.specs.declared.fault.ReplayFault.{ReplayFault}
use Rattle.replays.specs.declared.fault.ReplayFault.TheVariants.{Stray, StrayRaise, Differs, OutOfMemory}
use Rattle.replays.proofs.Passed.{cut_leads, rows_lead}
use Rattle.replays.proofs.RowLemmas.{answers_ahead, answers_none, raises_ahead, raises_lead, raises_none}

-- ---- one window

pub window_cut : (facts : SeasonFacts) (kept : Kept) (window : ℕ) (old last new : State) → window < kept.cuts → RowsPass facts kept window old last → CutPasses facts last new
    → AreAllotsOf facts new kept (window + 1) → WindowPasses facts kept window old new
window_cut facts kept window old last new less rows cut allots = record {
  last = last;
  rows = rows;
  close = subst (λ (b : Bool). Closes facts kept window b last new) (sym (lt-ltb window kept.cuts less)) (cut, allots);
}

pub window_open : (facts : SeasonFacts) (kept : Kept) (window : ℕ) (old new : State) → kept.cuts ≤ window → RowsPass facts kept window old new → WindowPasses facts kept window old new
window_open facts kept window old new past rows = record {
  last = new;
  rows = rows;
  close = subst (λ (b : Bool). Closes facts kept window b new new) (sym (le-ltb window kept.cuts past)) refl;
}

pub one_more : (facts other : SeasonFacts) (kept : Kept) (window : ℕ) (old new : State) → other ≡ facts → Pass facts kept window old → WindowPasses other kept window old new → Pass facts kept (window + 1) new
one_more facts other kept window old new same pass more =
    subst (λ n. Pass facts kept n new) (sym (add-one window)) (old, pass, subst (λ (f : SeasonFacts). WindowPasses f kept window old new) same more)

-- ---- faults

pub stray_row : (facts : SeasonFacts) (kept : Kept) (window : ℕ) (old : State) (fault : ReplayFault) → IsStrayRow facts kept window old fault → IsFaultOfWindow facts kept window old fault
stray_row facts kept window old (Stray row) is = inl is
stray_row facts kept window old (StrayRaise row) is = is
stray_row facts kept window old (Differs round cand one other) is = absurd is
stray_row facts kept window old OutOfMemory is = tt

pub stray_cut : (facts : SeasonFacts) (kept : Kept) (window : ℕ) (old last : State) (fault : ReplayFault) → window < kept.cuts → RowsPass facts kept window old last → last.now ≡ window
    → IsRefusedCut facts last fault → IsFaultOfWindow facts kept window old fault
stray_cut facts kept window old last (Stray row) less rows now is = inr (last, rows, (less, (let past = is.0 in omega (arith, past, now))), is.1)
stray_cut facts kept window old last (StrayRaise row) less rows now is = absurd is
stray_cut facts kept window old last (Differs round cand one other) less rows now is = absurd is
stray_cut facts kept window old last OutOfMemory less rows now is = tt

pub differs : (facts : SeasonFacts) (kept : Kept) (window : ℕ) (old last new : State) (fault : ReplayFault) → window < kept.cuts → RowsPass facts kept window old last → CutPasses facts last new
    → IsDifference facts new kept (window + 1) fault → IsFaultOfWindow facts kept window old fault
differs facts kept window old last new (Stray row) less rows cut is = absurd is
differs facts kept window old last new (StrayRaise row) less rows cut is = absurd is
differs facts kept window old last new (Differs round cand one other) less rows cut is =
    (last, new, rows, less, cut, is.0, subst (λ n. IsFirstDifference facts new kept n cand.0 one other) (sym is.0) is.1)
differs facts kept window old last new OutOfMemory less rows cut is = tt

pub stops : (facts : SeasonFacts) (kept : Kept) (fault : ReplayFault) → StopsInWindow facts kept fault → IsReplayFault facts kept fault
stops facts kept (Stray row) is = is
stops facts kept (StrayRaise row) is = is
stops facts kept (Differs round cand one other) is = inl is
stops facts kept OutOfMemory is = tt

-- ---- of one window, with the season stated again after each step

pub cut_now : (facts : SeasonFacts) (old new : State) → CutPasses facts old new → new.now ≡ old.now + 1
cut_now facts old new cut = elim (cut_leads facts old new cut) [
  | inl next ↦ ap (λ (s : State). s.now) next.3
  | inr last ↦ ap (λ (s : State). s.now) last.1
]

pub window_done : (facts mid last : SeasonFacts) (kept : Kept) (window : ℕ) (old noted new : State) → mid ≡ facts → last ≡ facts → window < kept.cuts → RowsPass facts kept window old noted
    → CutPasses mid noted new → AreAllotsOf last new kept (window + 1) → WindowPasses facts kept window old new
window_done facts mid last kept window old noted new one two less rows cut allots =
    window_cut facts kept window old noted new less rows (subst (λ (f : SeasonFacts). CutPasses f noted new) one cut) (subst (λ (f : SeasonFacts). AreAllotsOf f new kept (window + 1)) two allots)

pub window_now : (facts mid : SeasonFacts) (kept : Kept) (window : ℕ) (old noted new : State) → mid ≡ facts → RowsPass facts kept window old noted → CutPasses mid noted new → new.now ≡ old.now + 1
window_now facts mid kept window old noted new one rows cut = cut_now mid noted new cut ∙ ap (λ n. n + 1) (rows_lead facts kept window old noted rows).now

pub cut_fault : (facts mid : SeasonFacts) (kept : Kept) (window : ℕ) (old noted : State) (fault : ReplayFault) → mid ≡ facts → window < kept.cuts → window ≡ old.now → RowsPass facts kept window old noted
    → IsRefusedCut mid noted fault → IsFaultOfWindow facts kept window old fault
cut_fault facts mid kept window old noted fault one less opened rows is =
    stray_cut facts kept window old noted fault less rows ((rows_lead facts kept window old noted rows).now ∙ sym opened) (subst (λ (f : SeasonFacts). IsRefusedCut f noted fault) one is)

pub seats_fault : (facts mid last : SeasonFacts) (kept : Kept) (window : ℕ) (old noted new : State) (fault : ReplayFault) → mid ≡ facts → last ≡ facts → window < kept.cuts
    → RowsPass facts kept window old noted → CutPasses mid noted new → IsDifference last new kept (window + 1) fault → IsFaultOfWindow facts kept window old fault
seats_fault facts mid last kept window old noted new fault one two less rows cut is =
    differs facts kept window old noted new fault less rows (subst (λ (f : SeasonFacts). CutPasses f noted new) one cut)
    (subst (λ (f : SeasonFacts). IsDifference f new kept (window + 1) fault) two is)

-- ---- windows after the counted cuts

empty_rows : (facts : SeasonFacts) (kept : Kept) (window : ℕ) (state : State) → IsEmptyWindow kept window → RowsPass facts kept window state state
empty_rows facts kept window state empty = record {
  raised = state;
  raises = raises_none facts window kept.raises state empty.0;
  answers = answers_none facts window kept.answers state empty.1;
}

-- windows of which nothing is kept pass, and leave the state
on_empty : (facts : SeasonFacts) (kept : Kept) (state : State) (last : ℕ) → Pass facts kept (kept.cuts + 1) state → ((window : ℕ) → kept.cuts < window → window < last → IsEmptyWindow kept window)
    → (windows : ℕ) → kept.cuts < windows → windows ≤ last → Pass facts kept windows state
on_empty facts kept state last pass empty zero past few = absurd (omega (arith, past))
on_empty facts kept state last pass empty (suc window) past few = elim (cases_lt kept.cuts window) [
  | inl less ↦ (
    state,
    on_empty facts kept state last pass empty window less (omega (arith, few)),
    window_open facts kept window state state (omega (arith, less)) (empty_rows facts kept window state (empty window less (omega (arith, few)))),
  )
  | inr more ↦
      let same : kept.cuts ≡ window = omega (arith, past, more) in
      subst (λ n. Pass facts kept n state) (add-one kept.cuts ∙ ap suc same) pass
]

pub pass_to : (facts : SeasonFacts) (kept : Kept) (state : State) (first : ℕ) → Pass facts kept (kept.cuts + 1) state → IsLaterWindow kept (Some first) → Pass facts kept first state
pass_to facts kept state first pass later = on_empty facts kept state first pass later.2 first later.0 (omega arith)

pub all_pass : (facts : SeasonFacts) (kept : Kept) (state : State) → Pass facts kept (kept.cuts + 1) state → IsLaterWindow kept None → AllPass facts kept state
all_pass facts kept state pass later windows past = on_empty facts kept state windows pass (λ window less low. later window less) windows past (omega arith)

-- no row of a later window is accepted
pub not_ahead : (facts : SeasonFacts) (kept : Kept) (state new : State) (window : ℕ) → AreSeats facts.matrix → state.now ≡ kept.cuts → IsLaterWindow kept (Some window) → RowsPass facts kept window state new → ⊥
not_ahead facts kept state new window seats now later rows =
    let past = later.0 in
    let lead = raises_lead facts window kept.raises state rows.raised rows.raises in
    let raised : rows.raised.now ≡ kept.cuts = ap (λ (s : State). s.now) lead ∙ now in
    later.1 (
      raises_ahead facts window kept.raises state rows.raised seats (omega (arith, past, now)) rows.raises,
      answers_ahead facts window kept.answers rows.raised new seats (omega (arith, past, raised)) rows.answers,
    )

-- ---- rounds that no counted cut publishes

no_finals : (finals : Option (List AllotRow)) (number id : ℕ) → finals ≡ None → seat_in_finals finals number id ≡ None
no_finals None number id e = refl
no_finals (Some rows) number id e = absurd (cc)

past_end : (rounds : List Round) (number : ℕ) → (number ≡ 0) ⊎ (length rounds < number) → round_at rounds number ≡ None
past_end rounds zero out = refl
past_end rounds (suc before) (inl none) = absurd (omega (arith, none))
past_end rounds (suc before) (inr past) = beyond rounds before (omega (arith, past))
  where
    beyond : {X : Type 0} (xs : List X) (k : ℕ) → length xs ≤ k → slice_get xs k ≡ None
    beyond [] k few = refl
    beyond (x ∷ xs) zero few = absurd (omega (arith, few))
    beyond (x ∷ xs) (suc k) few = beyond xs k (omega (arith, few))

-- nobody has a seat in a round that no cut published
pub unpublished : (facts : SeasonFacts) (kept : Kept) (state : State) (number id : ℕ) → IsOrderly facts state → state.now ≡ kept.cuts → IsUncounted kept number → published_seat facts state number id ≡ None
unpublished facts kept state number id orderly now out = step (number == facts.rounds + 1) refl
  where
    few : length state.rounds ≤ state.now
    few = elim (cases_lt facts.rounds state.now) [
      | inl over ↦ (let most = orderly.course.few in omega (arith, over, most))
      | inr within ↦ (let same = orderly.course.order within in omega (arith, same))
    ]

    beyond : (number ≡ 0) ⊎ (length state.rounds < number)
    beyond = elim out [
      | inl none ↦ inl none
      | inr past ↦ inr (omega (arith, past, few, now))
    ]

    last : number ≡ facts.rounds + 1 → (number ≡ 0) ⊎ (kept.cuts < number) → state.now ≤ facts.rounds
    last is (inl none) = absurd (omega (arith, is, none))
    last is (inr past) = omega (arith, is, past, now)

    step : (b : Bool) → (number == facts.rounds + 1) ≡ b → (if b then seat_in_finals state.finals number id else seat_in facts state.rounds number id) ≡ None
    step true e = no_finals state.finals number id (orderly.unfinished (last (eqb-true number (facts.rounds + 1) e) out))
    step false e = ap (λ (r : Option Round). seat_of facts r id) (past_end state.rounds number beyond)

pub replayed : (facts : SeasonFacts) (kept : Kept) (state : State) → IsOrderly facts state → state.now ≡ kept.cuts → Pass facts kept (kept.cuts + 1) state → IsLaterWindow kept None → IsLaterRound kept None
    → IsReplayed facts kept state
replayed facts kept state orderly now pass windows rounds = record {
  passed = all_pass facts kept state pass windows;
  uncounted = λ number out id. rounds number out id ∙ sym (unpublished facts kept state number id orderly now out);
}

pub not_uncounted : (facts : SeasonFacts) (kept : Kept) (state : State) (number : ℕ) → IsOrderly facts state → state.now ≡ kept.cuts → IsLaterRound kept (Some number) → AreAllotsOf facts state kept number → ⊥
not_uncounted facts kept state number orderly now later same = later.1 (λ id. same id ∙ unpublished facts kept state number id orderly now later.0)

pub uncounted_fault : (facts : SeasonFacts) (kept : Kept) (state : State) (number : ℕ) (fault : ReplayFault) → IsOrderly facts state → state.now ≡ kept.cuts → Pass facts kept (kept.cuts + 1) state
    → IsLaterWindow kept None → IsLaterRound kept (Some number) → IsDifference facts state kept number fault → IsReplayFault facts kept fault
uncounted_fault facts kept state number (Stray row) orderly now pass windows later is = absurd is
uncounted_fault facts kept state number (StrayRaise row) orderly now pass windows later is = absurd is
uncounted_fault facts kept state number (Differs round cand one other) orderly now pass windows later is = inr (record {
  state = state;
  passed = all_pass facts kept state pass windows;
  uncounted = subst (λ n. IsUncounted kept n) (sym is.0) later.0;
  before = λ n low out id. later.2 n (let same = is.0 in omega (arith, low, same)) out id ∙ sym (unpublished facts kept state n id orderly now out);
  first = subst (λ n. IsFirstDifference facts state kept n cand.0 one other) (sym is.0) is.1;
})
uncounted_fault facts kept state number OutOfMemory orderly now pass windows later is = tt

pub later_fault : (facts : SeasonFacts) (kept : Kept) (state : State) (window : ℕ) (fault : ReplayFault) → Pass facts kept (kept.cuts + 1) state → IsLaterWindow kept (Some window)
    → IsStrayRow facts kept window state fault → IsReplayFault facts kept fault
later_fault facts kept state window fault pass later is = stops facts kept fault (window, state, pass_to facts kept state window pass later, stray_row facts kept window state fault is)
