-- Kept records lead to one state or have one first fault.
use Rattle.std.proofs.Common.{◌≡◌, ◌≢◌, ◌<◌, ◌≤◌, ◌+◌, ◌⊎◌, inl, inr, ℕ, zero, suc, Bool, true, false, List, [], ◌∷◌, ◌++◌, Option, Some, Result, Ok, Err, arith, refl, sym, ap, ◌∙◌, subst, ◌==◌, if◌then◌else◌}
use Rattle.std.specs.Prelude.{map}
use Rattle.std.proofs.lemmas.Bool.{cases_lt}
use Rattle.office_base.specs.declared.seat.Seat.{Seat}
use Rattle.office_base.specs.declared.person.CandId.{CandId}
use Rattle.kept_rows.specs.declared.rows.Kept.{Kept}
use Rattle.office_moves.specs.Decided.{decided}
use Rattle.office_moves.specs.Facts.{IsSound, SeasonFacts}
use Rattle.office_moves.specs.History.{Reaches, asked, newly}
use Rattle.office_moves.specs.Laws.{NextRoundsAreOne}
use Rattle.office_moves.specs.Moves.{IsMove}
use Rattle.office_moves.specs.State.{State, opening, with_round}
use Rattle.office_moves.specs.declared.moves.Act.{Act}
use Rattle.office_moves.specs.declared.moves.Act.TheVariants.{Answer, Raise, Cut}
use Rattle.office_moves.specs.declared.moves.Entry.{Entry}
use Rattle.office_moves.specs.declared.moves.Reply.{Reply}
use Rattle.office_moves.proofs.OneState.{reaches_more}
use Rattle.replays.specs.Differences.{IsFirstApart}
use Rattle.replays.specs.Faults.{IsFaultOfWindow, IsFirstDifference, IsReplayFault, IsUncountedSeat, StopsInWindow}
use Rattle.replays.specs.Laws.{HaveOneEnd}
use Rattle.replays.specs.Replay.{AllPass, AreAllotsOf, CutPasses, IsReplayed, Pass, RowsPass, WindowPasses, answers_replayed, raises_replayed, rows_replayed, takes, window_of, with_act}
use Rattle.replays.specs.declared.fault.ReplayFault.{ReplayFault}
use Rattle.replays.specs.declared.fault.ReplayFault.TheVariants.{Stray, StrayRaise, Differs, OutOfMemory}
use Rattle.replays.proofs.Passed.{closes_by, cut_leads, has_passed, rows_lead, stays_by}
use Rattle.replays.proofs.RowLemmas.{row_moves}

-- ---- a state to which records lead is reached by a history

-- some entries lead to a state
abbrev IsReached : SeasonFacts → State → Type 0
IsReached facts state = (entries : List Entry) × Reaches facts opening entries state

reached_more : (facts : SeasonFacts) (old new : State) (act : Act) (reply : Reply) → IsReached facts old → newly old.now (decided facts old (asked facts act)) ≡ Some act
    → IsMove facts old (asked facts act) reply new → IsReached facts new
reached_more facts old new act reply there accepted moves =
    let entry : Entry = record { number = 1; act = act } in
    (there.0 ++ entry ∷ [], reaches_more facts opening old new there.0 entry reply there.1 accepted moves)

reached_rows : (facts : SeasonFacts) (window place : ℕ) (rows : List Act) (old new : State) → IsSound facts → IsReached facts old → rows_replayed facts window place rows old ≡ Ok new → IsReached facts new
reached_rows facts window place [] old new sound there e = let same : old ≡ new = cc in subst (λ (s : State). IsReached facts s) same there
reached_rows facts window place (row ∷ rows) old new sound there e =
    step (window_of row == window) (takes facts old row) refl (reached_rows facts window (place + 1) rows old new sound there) (reached_rows facts window (place + 1) rows (with_act old row) new sound) e
  where
    step : (b t : Bool) → takes facts old row ≡ t → (rows_replayed facts window (place + 1) rows old ≡ Ok new → IsReached facts new)
        → (IsReached facts (with_act old row) → rows_replayed facts window (place + 1) rows (with_act old row) ≡ Ok new → IsReached facts new)
        → (if b then (if t then rows_replayed facts window (place + 1) rows (with_act old row) else Err place) else rows_replayed facts window (place + 1) rows old) ≡ Ok new
        → IsReached facts new
    step true true taken past on e = let (reply, accepted, moves) = row_moves facts old row sound.seats taken in on (reached_more facts old (with_act old row) row reply there accepted moves) e
    step true false taken past on e = absurd (cc)
    step false t taken past on e = past e

reached_window : (facts : SeasonFacts) (kept : Kept) (window : ℕ) (old last : State) → IsSound facts → IsReached facts old → RowsPass facts kept window old last → IsReached facts last
reached_window facts kept window old last sound there rows =
    reached_rows facts window 1 (map Answer kept.answers) rows.raised last sound (reached_rows facts window 1 (map Raise kept.raises) old rows.raised sound there rows.raises) rows.answers

reached_cut : (facts : SeasonFacts) (old new : State) → IsReached facts old → CutPasses facts old new → IsReached facts new
reached_cut facts old new there cut = reached_more facts old new (Cut old.now) cut.reply there cut.accepted cut.moves

reached_pass : (facts : SeasonFacts) (kept : Kept) (windows : ℕ) (state : State) → IsSound facts → Pass facts kept windows state → IsReached facts state
reached_pass facts kept zero state sound pass = ([], pass)
reached_pass facts kept (suc window) state sound pass =
    let last = reached_window facts kept window pass.0 pass.2.last sound (reached_pass facts kept window pass.0 sound pass.1) pass.2.rows in
    elim (cases_lt window kept.cuts) [
      | inl less ↦ reached_cut facts pass.2.last state last (closes_by facts kept window pass.2.last state less pass.2.close).0
      | inr past ↦ subst (λ (s : State). IsReached facts s) (sym (stays_by facts kept window pass.2.last state past pass.2.close)) last
    ]

-- ---- one state

one_rows : (facts : SeasonFacts) (kept : Kept) (window : ℕ) (old a b : State) → RowsPass facts kept window old a → RowsPass facts kept window old b → a ≡ b
one_rows facts kept window old a b first second =
    let raised : first.raised ≡ second.raised = ok_one (sym first.raises ∙ second.raises) in
    ok_one (sym first.answers ∙ (ap (λ (s : State). answers_replayed facts window kept.answers s) raised ∙ second.answers))
  where
    ok_one : {x y : State} → ◌≡◌ {A = Result State ℕ} (Ok x) (Ok y) → x ≡ y
    ok_one e = cc e

one_cut : (facts : SeasonFacts) (old a b : State) → NextRoundsAreOne facts → IsReached facts old → CutPasses facts old a → CutPasses facts old b → a ≡ b
one_cut facts old a b one there first second = elim (cut_leads facts old a first) [
  | inl next ↦ elim (cut_leads facts old b second) [
    | inl other ↦ next.3 ∙ (ap (with_round old) (one there.0 old there.1 next.1 other.1 next.2 other.2) ∙ sym other.3)
    | inr last ↦ absurd (omega (arith, next.0, last.0))
  ]
  | inr last ↦ elim (cut_leads facts old b second) [
    | inl next ↦ absurd (omega (arith, next.0, last.0))
    | inr other ↦ last.1 ∙ sym other.1
  ]
]

one_window : (facts : SeasonFacts) (kept : Kept) (window : ℕ) (old a b : State) → IsSound facts → NextRoundsAreOne facts → IsReached facts old → WindowPasses facts kept window old a
    → WindowPasses facts kept window old b → a ≡ b
one_window facts kept window old a b sound one there first second =
    let last : first.last ≡ second.last = one_rows facts kept window old first.last second.last first.rows second.rows in
    elim (cases_lt window kept.cuts) [
      | inl less ↦ one_cut facts first.last a b one (reached_window facts kept window old first.last sound there first.rows) (closes_by facts kept window first.last a less first.close).0
          (subst (λ (s : State). CutPasses facts s b) (sym last) (closes_by facts kept window second.last b less second.close).0)
      | inr past ↦ stays_by facts kept window first.last a past first.close ∙ (last ∙ sym (stays_by facts kept window second.last b past second.close))
    ]

one_pass : (facts : SeasonFacts) (kept : Kept) (windows : ℕ) (a b : State) → IsSound facts → NextRoundsAreOne facts → Pass facts kept windows a → Pass facts kept windows b → a ≡ b
one_pass facts kept zero a b sound one first second = first ∙ sym second
one_pass facts kept (suc window) a b sound one first second =
    let before = one_pass facts kept window first.0 second.0 sound one first.1 second.1 in
    one_window facts kept window first.0 a b sound one (reached_pass facts kept window first.0 sound first.1) first.2 (subst (λ (s : State). WindowPasses facts kept window s b) (sym before) second.2)

-- the state after fewer windows
pass_before : (facts : SeasonFacts) (kept : Kept) (windows few : ℕ) (state : State) → few ≤ windows → Pass facts kept windows state → (old : State) × Pass facts kept few old
pass_before facts kept zero few state less pass = let same : 0 ≡ few = omega (arith, less) in (state, subst (λ (n : ℕ). Pass facts kept n state) same pass)
pass_before facts kept (suc window) few state less pass = elim (cases_lt few (suc window)) [
  | inl fewer ↦ pass_before facts kept window few pass.0 (omega (arith, fewer)) pass.1
  | inr all ↦ (let same : suc window ≡ few = omega (arith, less, all) in (state, subst (λ (n : ℕ). Pass facts kept n state) same pass))
]

-- ---- a window passes or has a fault

-- no id of which seats differ has the same seats
not_differs : (facts : SeasonFacts) (state : State) (kept : Kept) (number id : ℕ) (one other : Option Seat) → IsFirstDifference facts state kept number id one other → AreAllotsOf facts state kept number → ⊥
not_differs facts state kept number id one other first same = first.apart (sym first.found ∙ (same id ∙ first.made))

no_err : {A : Type 0} (r : Result A ℕ) (state : A) (row : ℕ) → r ≡ Ok state → r ≡ Err row → ⊥
no_err r state row ok err = cc (ok, err)

-- answers that stop are not all accepted
answers_stop : (facts : SeasonFacts) (kept : Kept) (window : ℕ) (old last raised : State) (row : ℕ) → RowsPass facts kept window old last → raises_replayed facts window kept.raises old ≡ Ok raised
    → answers_replayed facts window kept.answers raised ≡ Err row → ⊥
answers_stop facts kept window old last raised row rows raises stop =
    let same : rows.raised ≡ raised = (let e = rows.raises in cc (e, raises)) in
    no_err (answers_replayed facts window kept.answers raised) last row (ap (λ (s : State). answers_replayed facts window kept.answers s) (sym same) ∙ rows.answers) stop

-- a cut that is made is none after the last one
cut_there : (facts : SeasonFacts) (kept : Kept) (window : ℕ) (old last new : State) → Pass facts kept window old → window < kept.cuts → RowsPass facts kept window old last → CutPasses facts last new
    → facts.rounds < window → ⊥
cut_there facts kept window old last new pass less rows cut past =
    let before = has_passed facts kept window old (omega (arith, less)) pass in
    let lead = rows_lead facts kept window old last rows in
    let now = lead.now in
    let at = before.now in
    elim (cut_leads facts last new cut) [
      | inl next ↦ (let few = next.0 in omega (arith, few, now, at, past))
      | inr end ↦ (let same = end.0 in omega (arith, same, now, at, past))
    ]

window_apart : (facts : SeasonFacts) (kept : Kept) (window : ℕ) (old new : State) (fault : ReplayFault) → IsSound facts → NextRoundsAreOne facts → Pass facts kept window old
    → WindowPasses facts kept window old new → IsFaultOfWindow facts kept window old fault → fault ≡ OutOfMemory
window_apart facts kept window old new (Stray row) sound one pass passes (inl stray) = absurd (answers_stop facts kept window old passes.last stray.0 row passes.rows stray.1 stray.2)
window_apart facts kept window old new (Stray row) sound one pass passes (inr stray) =
    let less = stray.2.0 in
    absurd (cut_there facts kept window old passes.last new pass less passes.rows (closes_by facts kept window passes.last new less passes.close).0 stray.2.1)
window_apart facts kept window old new (StrayRaise row) sound one pass passes stray = absurd (no_err (raises_replayed facts window kept.raises old) passes.rows.raised row passes.rows.raises stray)
window_apart facts kept window old new (Differs round cand first other) sound one pass passes (last, after, rows, less, cut, number, differs) =
    let close = closes_by facts kept window passes.last new less passes.close in
    let alike : passes.last ≡ last = one_rows facts kept window old passes.last last passes.rows rows in
    let there = reached_window facts kept window old last sound (reached_pass facts kept window old sound pass) rows in
    let same : after ≡ new = one_cut facts last after new one there cut (subst (λ (s : State). CutPasses facts s new) alike close.0) in
    absurd (not_differs facts after kept round cand.0 first other differs
    (subst (λ (n : ℕ). AreAllotsOf facts after kept n) (sym number) (subst (λ (s : State). AreAllotsOf facts s kept (window + 1)) (sym same) close.1)))
window_apart facts kept window old new OutOfMemory sound one pass passes fault = refl

-- windows that pass have no fault in a window of theirs
stops_apart : (facts : SeasonFacts) (kept : Kept) (windows : ℕ) (state : State) (fault : ReplayFault) (stops : StopsInWindow facts kept fault) → IsSound facts → NextRoundsAreOne facts
    → Pass facts kept windows state → stops.0 < windows → fault ≡ OutOfMemory
stops_apart facts kept windows state fault (window, old, pass, is) sound one passed less =
    let (after, more) = pass_before facts kept windows (suc window) state (omega (arith, less)) passed in
    let same : more.0 ≡ old = one_pass facts kept window more.0 old sound one more.1 pass in
    window_apart facts kept window old after fault sound one pass (subst (λ (s : State). WindowPasses facts kept window s after) same more.2) is

-- some more windows than the counted cuts, and than this one
all_apart : (facts : SeasonFacts) (kept : Kept) (state : State) (fault : ReplayFault) → IsSound facts → NextRoundsAreOne facts → AllPass facts kept state → StopsInWindow facts kept fault → fault ≡ OutOfMemory
all_apart facts kept state fault sound one all stops =
    stops_apart facts kept (suc (kept.cuts + stops.0)) state fault stops sound one (all (suc (kept.cuts + stops.0)) (omega arith)) (omega arith)

apart : (facts : SeasonFacts) (kept : Kept) (state : State) (fault : ReplayFault) → IsSound facts → NextRoundsAreOne facts → IsReplayed facts kept state → IsReplayFault facts kept fault → fault ≡ OutOfMemory
apart facts kept state (Stray row) sound one replayed is = all_apart facts kept state (Stray row) sound one replayed.passed is
apart facts kept state (StrayRaise row) sound one replayed is = all_apart facts kept state (StrayRaise row) sound one replayed.passed is
apart facts kept state (Differs round cand first other) sound one replayed (inl is) = all_apart facts kept state (Differs round cand first other) sound one replayed.passed is
apart facts kept state (Differs round cand first other) sound one replayed (inr is) =
    let same = one_pass facts kept (suc kept.cuts) is.state state sound one (is.passed (suc kept.cuts) (omega arith)) (replayed.passed (suc kept.cuts) (omega arith)) in
    absurd (not_differs facts is.state kept round cand.0 first other is.first (subst (λ (s : State). AreAllotsOf facts s kept round) (sym same) (replayed.uncounted round is.uncounted)))
apart facts kept state OutOfMemory sound one replayed is = refl

-- ---- one fault

-- Of two first differences of the same seats there is one.
record IsOneDifference (id lower : ℕ) (kept held computed made : Option Seat) : Type 0 where
  cand : id ≡ lower
  first : kept ≡ held
  second : computed ≡ made

one_difference : (first second : ℕ → Option Seat) (id lower : ℕ) (kept held computed made : Option Seat) → IsFirstApart first second id kept computed → IsFirstApart first second lower held made
    → IsOneDifference id lower kept held computed made
one_difference first second id lower kept held computed made a b = elim (cases_lt id lower) [
  | inl less ↦ absurd (a.apart (sym a.found ∙ (b.before id less ∙ a.made)))
  | inr more ↦ elim (cases_lt lower id) [
    | inl less ↦ absurd (b.apart (sym b.found ∙ (a.before lower less ∙ b.made)))
    | inr few ↦
        let same : id ≡ lower = omega (arith, more, few) in
        record { cand = same; first = sym a.found ∙ (ap first same ∙ b.found); second = sym a.made ∙ (ap second same ∙ b.made) }
  ]
]

same_differs : (round next : ℕ) (cand other : CandId) (kept held computed made : Option Seat) → round ≡ next → IsOneDifference cand.0 other.0 kept held computed made
    → Differs round cand kept computed ≡ Differs next other held made
same_differs round next cand other kept held computed made rounds one =
    ap (λ (n : ℕ). Differs n cand kept computed) rounds
    ∙ (ap (λ (n : ℕ). let who : CandId = record { 0 = n } in Differs next who kept computed) one.cand
    ∙ (ap (λ (s : Option Seat). Differs next other s computed) one.first ∙ ap (λ (s : Option Seat). Differs next other held s) one.second))

-- where a window stops, and the fault of that: at a raise, at an answer, at a cut, or at its seats
abbrev StopsRaise : SeasonFacts → Kept → ℕ → State → ReplayFault → Type 0
StopsRaise facts kept window old fault = (row : ℕ) × (raises_replayed facts window kept.raises old ≡ Err row) × (fault ≡ StrayRaise row)

abbrev StopsAnswer : SeasonFacts → Kept → ℕ → State → ReplayFault → Type 0
StopsAnswer facts kept window old fault =
    (raised : State) × (row : ℕ) × (raises_replayed facts window kept.raises old ≡ Ok raised) × (answers_replayed facts window kept.answers raised ≡ Err row) × (fault ≡ Stray row)

abbrev StopsCut : SeasonFacts → Kept → ℕ → State → ReplayFault → Type 0
StopsCut facts kept window old fault = (last : State) × RowsPass facts kept window old last × (facts.rounds < window) × (fault ≡ Stray 0)

abbrev StopsSeats : SeasonFacts → Kept → ℕ → State → ReplayFault → Type 0
StopsSeats facts kept window old fault = (last : State) × (new : State) × RowsPass facts kept window old last × (window < kept.cuts) × CutPasses facts last new
    × ((round : ℕ) × (cand : CandId) × (one : Option Seat) × (other : Option Seat) × (round ≡ window + 1) × IsFirstDifference facts new kept round cand.0 one other × (fault ≡ Differs round cand one other))

abbrev Stops : SeasonFacts → Kept → ℕ → State → ReplayFault → Type 0
Stops facts kept window old fault = (StopsRaise facts kept window old fault ⊎ StopsAnswer facts kept window old fault) ⊎ (StopsCut facts kept window old fault ⊎ StopsSeats facts kept window old fault)

stops_at : (facts : SeasonFacts) (kept : Kept) (window : ℕ) (old : State) (fault : ReplayFault) → fault ≢ OutOfMemory → IsFaultOfWindow facts kept window old fault → Stops facts kept window old fault
stops_at facts kept window old (Stray row) some (inl is) = inl (inr (is.0, row, is.1, is.2, refl))
stops_at facts kept window old (Stray row) some (inr is) = inr (inl (is.0, is.1, is.2.1, ap (λ (n : ℕ). Stray n) is.3))
stops_at facts kept window old (StrayRaise row) some is = inl (inl (row, is, refl))
stops_at facts kept window old (Differs round cand one other) some (last, new, rows, less, cut, number, differs) = inr (inr (last, new, rows, less, cut, (round, cand, one, other, number, differs, refl)))
stops_at facts kept window old OutOfMemory some is = absurd (some refl)

window_one : (facts : SeasonFacts) (kept : Kept) (window : ℕ) (old : State) (fault other : ReplayFault) → IsSound facts → NextRoundsAreOne facts → Pass facts kept window old → Stops facts kept window old fault
    → Stops facts kept window old other → fault ≡ other
window_one facts kept window old fault other sound one pass (inl (inl a)) (inl (inl b)) = (let row : a.0 ≡ b.0 = (let e = a.1 in let f = b.1 in cc (e, f)) in a.2 ∙ (ap (λ (n : ℕ). StrayRaise n) row ∙ sym b.2))
window_one facts kept window old fault other sound one pass (inl (inl a)) (inl (inr b)) = absurd (no_err (raises_replayed facts window kept.raises old) b.0 a.0 b.2 a.1)
window_one facts kept window old fault other sound one pass (inl (inl a)) (inr (inl b)) = absurd (no_err (raises_replayed facts window kept.raises old) b.1.raised a.0 b.1.raises a.1)
window_one facts kept window old fault other sound one pass (inl (inl a)) (inr (inr b)) = absurd (no_err (raises_replayed facts window kept.raises old) b.2.raised a.0 b.2.raises a.1)
window_one facts kept window old fault other sound one pass (inl (inr a)) (inl (inl b)) = absurd (no_err (raises_replayed facts window kept.raises old) a.0 b.0 a.2 b.1)
window_one facts kept window old fault other sound one pass (inl (inr a)) (inl (inr b)) =
    let raised : a.0 ≡ b.0 = (let e = a.2 in let f = b.2 in cc (e, f)) in
    let row : a.1 ≡ b.1 = (let e = a.3 in let f : answers_replayed facts window kept.answers a.0 ≡ Err b.1 = ap (λ (s : State). answers_replayed facts window kept.answers s) raised ∙ b.3 in cc (e, f)) in
    a.4 ∙ (ap (λ (n : ℕ). Stray n) row ∙ sym b.4)
window_one facts kept window old fault other sound one pass (inl (inr a)) (inr (inl b)) = absurd (answers_stop facts kept window old b.0 a.0 a.1 b.1 a.2 a.3)
window_one facts kept window old fault other sound one pass (inl (inr a)) (inr (inr b)) = absurd (answers_stop facts kept window old b.0 a.0 a.1 b.2 a.2 a.3)
window_one facts kept window old fault other sound one pass (inr (inl a)) (inl (inl b)) = absurd (no_err (raises_replayed facts window kept.raises old) a.1.raised b.0 a.1.raises b.1)
window_one facts kept window old fault other sound one pass (inr (inl a)) (inl (inr b)) = absurd (answers_stop facts kept window old a.0 b.0 b.1 a.1 b.2 b.3)
window_one facts kept window old fault other sound one pass (inr (inl a)) (inr (inl b)) = a.3 ∙ sym b.3
window_one facts kept window old fault other sound one pass (inr (inl a)) (inr (inr b)) = absurd (cut_there facts kept window old b.0 b.1 pass b.3 b.2 b.4 a.2)
window_one facts kept window old fault other sound one pass (inr (inr a)) (inl (inl b)) = absurd (no_err (raises_replayed facts window kept.raises old) a.2.raised b.0 a.2.raises b.1)
window_one facts kept window old fault other sound one pass (inr (inr a)) (inl (inr b)) = absurd (answers_stop facts kept window old a.0 b.0 b.1 a.2 b.2 b.3)
window_one facts kept window old fault other sound one pass (inr (inr a)) (inr (inl b)) = absurd (cut_there facts kept window old a.0 a.1 pass a.3 a.2 a.4 b.2)
window_one facts kept window old fault other sound one pass (inr (inr (last, new, rows, less, cut, (round, cand, kept_seat, made, number, differs, is))))
    (inr (inr (end, after, same_rows, again, same_cut, (next, who, held, other_made, next_number, others, is_other)))) =
    let alike : last ≡ end = one_rows facts kept window old last end rows same_rows in
    let there = reached_window facts kept window old last sound (reached_pass facts kept window old sound pass) rows in
    let same : after ≡ new = one_cut facts last after new one there (subst (λ (s : State). CutPasses facts s after) (sym alike) same_cut) cut in
    let rounds : next ≡ round = next_number ∙ sym number in
    let moved : IsFirstDifference facts new kept round who.0 held other_made =
    subst (λ (n : ℕ). IsFirstDifference facts new kept n who.0 held other_made) rounds (subst (λ (s : State). IsFirstDifference facts s kept next who.0 held other_made) same others) in
    is ∙ (same_differs round next cand who kept_seat held made other_made (sym rounds) (one_difference _ _ cand.0 who.0 kept_seat held made other_made differs moved) ∙ sym is_other)

-- a fault is of a window, or comes last
abbrev EndsLast : SeasonFacts → Kept → ReplayFault → Type 0
EndsLast facts kept fault = (round : ℕ) × (cand : CandId) × (one : Option Seat) × (other : Option Seat) × IsUncountedSeat facts kept round cand one other × (fault ≡ Differs round cand one other)

ends_at : (facts : SeasonFacts) (kept : Kept) (fault : ReplayFault) → fault ≢ OutOfMemory → IsReplayFault facts kept fault → StopsInWindow facts kept fault ⊎ EndsLast facts kept fault
ends_at facts kept (Stray row) some is = inl is
ends_at facts kept (StrayRaise row) some is = inl is
ends_at facts kept (Differs round cand one other) some (inl is) = inl is
ends_at facts kept (Differs round cand one other) some (inr is) = inr (round, cand, one, other, is, refl)
ends_at facts kept OutOfMemory some is = absurd (some refl)

one_stop : (facts : SeasonFacts) (kept : Kept) (fault other : ReplayFault) → IsSound facts → NextRoundsAreOne facts → fault ≢ OutOfMemory → other ≢ OutOfMemory → StopsInWindow facts kept fault
    → StopsInWindow facts kept other → fault ≡ other
one_stop facts kept fault other sound one some more (window, old, pass, is) (next, mid, passed, has) = elim (cases_lt window next) [
  | inl less ↦ absurd (some (stops_apart facts kept next mid fault (window, old, pass, is) sound one passed less))
  | inr past ↦ elim (cases_lt next window) [
    | inl less ↦ absurd (more (stops_apart facts kept window old other (next, mid, passed, has) sound one pass less))
    | inr few ↦
        let same : next ≡ window = omega (arith, past, few) in
        let here : Pass facts kept window mid = subst (λ (n : ℕ). Pass facts kept n mid) same passed in
        let alike : mid ≡ old = one_pass facts kept window mid old sound one here pass in
        let moved : IsFaultOfWindow facts kept window old other = subst (λ (s : State). IsFaultOfWindow facts kept window s other) alike (subst (λ (n : ℕ). IsFaultOfWindow facts kept n mid other) same has) in
        window_one facts kept window old fault other sound one pass (stops_at facts kept window old fault some is) (stops_at facts kept window old other more moved)
  ]
]

one_last : (facts : SeasonFacts) (kept : Kept) (fault other : ReplayFault) → IsSound facts → NextRoundsAreOne facts → EndsLast facts kept fault → EndsLast facts kept other → fault ≡ other
one_last facts kept fault other sound one (round, cand, held, made, a, is) (next, who, kept_seat, computed, b, is_other) =
    let alike : b.state ≡ a.state = one_pass facts kept (suc kept.cuts) b.state a.state sound one (b.passed (suc kept.cuts) (omega arith)) (a.passed (suc kept.cuts) (omega arith)) in
    elim (cases_lt round next) [
      | inl less ↦ absurd (not_differs facts a.state kept round cand.0 held made a.first (subst (λ (s : State). AreAllotsOf facts s kept round) alike (b.before round less a.uncounted)))
      | inr past ↦ elim (cases_lt next round) [
        | inl less ↦ absurd (not_differs facts b.state kept next who.0 kept_seat computed b.first (subst (λ (s : State). AreAllotsOf facts s kept next) (sym alike) (a.before next less b.uncounted)))
        | inr few ↦
            let rounds : next ≡ round = omega (arith, past, few) in
            let moved : IsFirstDifference facts a.state kept round who.0 kept_seat computed =
            subst (λ (n : ℕ). IsFirstDifference facts a.state kept n who.0 kept_seat computed) rounds (subst (λ (s : State). IsFirstDifference facts s kept next who.0 kept_seat computed) alike b.first) in
            is ∙ (same_differs round next cand who held kept_seat made computed (sym rounds) (one_difference _ _ cand.0 who.0 held kept_seat made computed a.first moved) ∙ sym is_other)
      ]
    ]

one_fault : (facts : SeasonFacts) (kept : Kept) (fault other : ReplayFault) → IsSound facts → NextRoundsAreOne facts → IsReplayFault facts kept fault → IsReplayFault facts kept other
    → fault ≢ OutOfMemory → other ≢ OutOfMemory → fault ≡ other
one_fault facts kept fault other sound one is has some more = elim (ends_at facts kept fault some is) [
  | inl stops ↦ elim (ends_at facts kept other more has) [
    | inl others ↦ one_stop facts kept fault other sound one some more stops others
    | inr last ↦ absurd (some (all_apart facts kept last.4.state fault sound one last.4.passed stops))
  ]
  | inr last ↦ elim (ends_at facts kept other more has) [
    | inl stops ↦ absurd (more (all_apart facts kept last.4.state other sound one last.4.passed stops))
    | inr others ↦ one_last facts kept fault other sound one last others
  ]
]

-- Kept records have one end.
pub one_end : (facts : SeasonFacts) (kept : Kept) → IsSound facts → NextRoundsAreOne facts → HaveOneEnd facts kept
one_end facts kept sound one = record {
  one_state = λ state other a b. one_pass facts kept (suc kept.cuts) state other sound one (a.passed (suc kept.cuts) (omega arith)) (b.passed (suc kept.cuts) (omega arith));
  one_fault = λ fault other a b some more. one_fault facts kept fault other sound one a b some more;
  apart = λ state fault replayed is. apart facts kept state fault sound one replayed is;
}
