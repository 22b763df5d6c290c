-- What an accepted answer makes of the arrays.
use Rattle.std.proofs.Common.{◌≡◌, ◌≢◌, ◌<◌, ◌≤◌, ◌+◌, inl, inr, ℕ, zero, suc, Bool, true, false, List, [], ◌∷◌, ◌++◌, Some, map, slice_set, arith, refl, sym, ap, ◌∙◌, subst, append-nil, ◌==◌, if◌then◌else◌}
use Rattle.std.specs.Prelude.{option_map, slice_get}
use Rattle.std.specs.List.{AllByRecursion}
use Rattle.std.proofs.lemmas.Bool.{cond-false, cond-true, eq-eqb}
use Rattle.std.proofs.lemmas.Bool.Decides.{eqb_tells}
use Rattle.std.proofs.lemmas.List.{map-append}
use Rattle.std.proofs.lemmas.Option.{same_Some, slice_get-map}
use Rattle.office_base.proofs.Lists.{all-get, get_set_other}
use Rattle.office_base.specs.declared.choice.Choice.{Choice}
use Rattle.office_base.specs.declared.choice.Choice.TheVariants.{Freeze as ToFreeze, Float as ToFloat, Slide as ToSlide, Withdraw as ToWithdraw}
use Rattle.office_base.specs.declared.person.Person.{Person}
use Rattle.kept_rows.specs.declared.rows.AnswerRow.{AnswerRow}
use Rattle.round_options.specs.Options.{after_cut, standing_of}
use Rattle.round_options.specs.declared.standing.Standing.{Standing}
use Rattle.office_moves.specs.Facts.{SeasonFacts}
use Rattle.office_moves.specs.State.{State, answered, in_window, left_by, rows_of, seat_of, view_of, with_row}
use Rattle.office_moves.specs.Judge.{is_gone}
use Rattle.office_moves.specs.Promise.{standing_then}
use Rattle.history_laws.proofs.Rows.{OfOther, OfWindow, Own, Owns, answered_last, own_row, owns, rows_then}
use Rattle.cut_arrays.proofs.OfficeLinks.{AreRising, same_map}
use Rattle.proceedings.specs.Changes.{StillAfter}
use Rattle.proceedings.specs.Proceeding.{choices_in, in_after, left_along, still_among, table_along}
use Rattle.proceedings.proofs.CutLemmas.{AreTables}

-- ---- rows

-- the row is none of the candidate in the window
not_own : (state : State) (row : AnswerRow) (window id : ℕ) → own_row window id row ≡ [] → in_window window (rows_of id (state.answers ++ row ∷ [])) ≡ in_window window (rows_of id state.answers)
not_own state row window id none =
    rows_then window id state.answers row ∙ (ap (λ (z : List AnswerRow). in_window window (rows_of id state.answers) ++ z) none ∙ append-nil (in_window window (rows_of id state.answers)))

none_of_other : (row : AnswerRow) (window id : ℕ) → Owns window id row → id ≢ row.cand.0 → own_row window id row ≡ []
none_of_other row window id (Own same time mine) other = absurd (other (sym same))
none_of_other row window id (OfOther others none) other = none
none_of_other row window id (OfWindow apart none) other = none

none_of_window : (row : AnswerRow) (window id : ℕ) → Owns window id row → window ≢ row.window → own_row window id row ≡ []
none_of_window row window id (Own same time mine) other = absurd (other (sym time))
none_of_window row window id (OfOther others none) other = none
none_of_window row window id (OfWindow apart none) other = none

own_of : (row : AnswerRow) (window id : ℕ) → Owns window id row → id ≡ row.cand.0 → window ≡ row.window → own_row window id row ≡ row ∷ []
own_of row window id (Own same time mine) is at = mine
own_of row window id (OfOther others none) is at = absurd (let one : rows_of id (row ∷ []) ≡ row ∷ [] = cond-true (row.cand.0 == id) (row ∷ []) [] (eq-eqb row.cand.0 id (sym is)) in cc)
own_of row window id (OfWindow apart none) is at = absurd (apart (sym at))

-- the rows of another window, or of another candidate, are as before
pub other_window : (state : State) (row : AnswerRow) (window id : ℕ) → window ≢ row.window → in_window window (rows_of id (state.answers ++ row ∷ [])) ≡ in_window window (rows_of id state.answers)
other_window state row window id other = not_own state row window id (none_of_window row window id (owns window id row) other)

other_candidate : (state : State) (row : AnswerRow) (window id : ℕ) → id ≢ row.cand.0 → in_window window (rows_of id (state.answers ++ row ∷ [])) ≡ in_window window (rows_of id state.answers)
other_candidate state row window id other = not_own state row window id (none_of_other row window id (owns window id row) other)

own_rows_more : (state : State) (row : AnswerRow) (window id : ℕ) → id ≡ row.cand.0 → window ≡ row.window
    → in_window window (rows_of id (state.answers ++ row ∷ [])) ≡ in_window window (rows_of id state.answers) ++ row ∷ []
own_rows_more state row window id is at =
    rows_then window id state.answers row ∙ ap (λ (z : List AnswerRow). in_window window (rows_of id state.answers) ++ z) (own_of row window id (owns window id row) is at)

-- ---- how the last cut left

left_same : (facts : SeasonFacts) (state : State) (row : AnswerRow) (id window : ℕ) → window ≤ row.window
    → left_by facts (view_of (with_row state row) id) id window ≡ left_by facts (view_of state id) id window
left_same facts state row id zero few = refl
left_same facts state row id (suc window) few =
    ap (λ (l : Standing). after_cut (answered l (in_window window (rows_of id (state.answers ++ row ∷ [])))) (seat_of facts (slice_get state.rounds window) id)) (left_same facts state row id window (omega (arith, few)))
    ∙ ap (λ (rows : List AnswerRow). after_cut (answered (left_by facts (view_of state id) id window) rows) (seat_of facts (slice_get state.rounds window) id))
    (other_window state row window id (omega (arith, few)))

pub left_stays : (facts : SeasonFacts) (state : State) (row : AnswerRow) → row.window ≡ state.now → left_along facts state ≡ left_along facts (with_row state row)
left_stays facts state row opens =
    same_map (λ p. left_by facts (view_of state p.id.0) p.id.0 state.now) (λ p. left_by facts (view_of (with_row state row) p.id.0) p.id.0 state.now) facts.people
    (λ p. sym (left_same facts state row p.id.0 state.now (omega (arith, opens))))

-- ---- how they stand

standing_other : (facts : SeasonFacts) (state : State) (row : AnswerRow) (id : ℕ) → row.window ≡ state.now → id ≢ row.cand.0
    → standing_then facts (with_row state row) state.now id ≡ standing_then facts state state.now id
standing_other facts state row id opens other =
    ap (λ (l : Standing). answered l (in_window state.now (rows_of id (state.answers ++ row ∷ [])))) (left_same facts state row id state.now (omega (arith, opens)))
    ∙ ap (λ (rows : List AnswerRow). answered (left_by facts (view_of state id) id state.now) rows) (other_candidate state row state.now id other)

standing_own : (facts : SeasonFacts) (state : State) (row : AnswerRow) (id : ℕ) → row.window ≡ state.now → id ≡ row.cand.0 → standing_then facts (with_row state row) state.now id ≡ standing_of row.choice
standing_own facts state row id opens same =
    ap (λ (rows : List AnswerRow). answered (left_by facts (view_of (with_row state row) id) id state.now) rows) (own_rows_more state row state.now id same (sym opens))
    ∙ answered_last (left_by facts (view_of (with_row state row) id) id state.now) (in_window state.now (rows_of id state.answers)) row

-- ---- who is still in

still_others : (facts : SeasonFacts) (state : State) (row : AnswerRow) (people : List Person) → row.window ≡ state.now → AllByRecursion (λ (p : Person). row.cand.0 < p.id.0) people
    → still_among facts (with_row state row) people ≡ still_among facts state people
still_others facts state row [] opens all = refl
still_others facts state row (p ∷ people) opens all =
    let less = all.0 in
    ap (λ (s : Standing). in_after (still_among facts (with_row state row) people) s) (standing_other facts state row p.id.0 opens (omega (arith, less)))
    ∙ ap (λ (n : ℕ). in_after n (standing_then facts state state.now p.id.0)) (still_others facts state row people opens all.1)

from_gone : (choice : Choice) (n : ℕ) (before : Standing) → is_gone before ≡ false → StillAfter choice (in_after n before) (in_after n (standing_of choice))
from_gone ToFreeze n before there = sym (cond-false (is_gone before) n (n + 1) there)
from_gone ToFloat n before there = sym (cond-false (is_gone before) n (n + 1) there)
from_gone ToSlide n before there = sym (cond-false (is_gone before) n (n + 1) there)
from_gone ToWithdraw n before there = sym (cond-false (is_gone before) n (n + 1) there)

after_more : (choice : Choice) (m n : ℕ) (standing : Standing) → StillAfter choice m n → StillAfter choice (in_after m standing) (in_after n standing)
after_more ToFreeze m n standing e = ap (λ (k : ℕ). in_after k standing) e
after_more ToFloat m n standing e = ap (λ (k : ℕ). in_after k standing) e
after_more ToSlide m n standing e = ap (λ (k : ℕ). in_after k standing) e
after_more ToWithdraw m n standing e = by (is_gone standing)
  where
    by : (b : Bool) → (if b then n else n + 1) + 1 ≡ (if b then m else m + 1)
    by true = e
    by false = ap (λ (k : ℕ). k + 1) e

pub still_noted : (facts : SeasonFacts) (state : State) (row : AnswerRow) (people : List Person) (at : ℕ) (person : Person) → AreRising people → slice_get people at ≡ Some person → person.id.0 ≡ row.cand.0
    → row.window ≡ state.now → is_gone (standing_then facts state state.now row.cand.0) ≡ false
    → StillAfter row.choice (still_among facts state people) (still_among facts (with_row state row) people)
still_noted facts state row [] at person rising here is opens there = absurd (cc)
still_noted facts state row (p ∷ people) zero person rising here is opens there =
    let same : p.id.0 ≡ row.cand.0 = ap (λ (z : Person). z.id.0) (same_Some p person here) ∙ is in
    let others = still_others facts state row people opens (subst (λ (n : ℕ). AllByRecursion (λ (q : Person). n < q.id.0) people) same rising.0) in
    let gone : is_gone (standing_then facts state state.now p.id.0) ≡ false = subst (λ (n : ℕ). is_gone (standing_then facts state state.now n) ≡ false) (sym same) there in
    let first = from_gone row.choice (still_among facts state people) (standing_then facts state state.now p.id.0) gone in
    subst (λ (n : ℕ). StillAfter row.choice (in_after (still_among facts state people) (standing_then facts state state.now p.id.0)) (in_after n (standing_then facts (with_row state row) state.now p.id.0))) (sym others)
    (subst (λ (s : Standing). StillAfter row.choice (in_after (still_among facts state people) (standing_then facts state state.now p.id.0)) (in_after (still_among facts state people) s))
    (sym (standing_own facts state row p.id.0 opens same)) first)
still_noted facts state row (p ∷ people) (suc at) person rising here is opens there =
    let less = all-get (λ (b : Person). p.id.0 < b.id.0) people at person rising.0 here in
    let rest = still_noted facts state row people at person rising.1 here is opens there in
    subst (λ (s : Standing). StillAfter row.choice (in_after (still_among facts state people) (standing_then facts state state.now p.id.0)) (in_after (still_among facts (with_row state row) people) s))
    (sym (standing_other facts state row p.id.0 opens (omega (arith, less, is))))
    (after_more row.choice (still_among facts state people) (still_among facts (with_row state row) people) (standing_then facts state state.now p.id.0) rest)

-- somebody is still in who is not gone
pub some_still : (facts : SeasonFacts) (state : State) (people : List Person) (at : ℕ) (person : Person) → slice_get people at ≡ Some person → is_gone (standing_then facts state state.now person.id.0) ≡ false
    → 1 ≤ still_among facts state people
some_still facts state [] at person here there = absurd (cc)
some_still facts state (p ∷ people) zero person here there =
    by (is_gone (standing_then facts state state.now p.id.0)) (ap (λ (z : Person). is_gone (standing_then facts state state.now z.id.0)) (same_Some p person here) ∙ there)
  where
    by : (b : Bool) → b ≡ false → 1 ≤ (if b then still_among facts state people else still_among facts state people + 1)
    by true e = absurd (cc)
    by false e = omega arith
some_still facts state (p ∷ people) (suc at) person here there =
    let rest = some_still facts state people at person here there in
    by (is_gone (standing_then facts state state.now p.id.0)) rest
  where
    by : (b : Bool) → 1 ≤ still_among facts state people → 1 ≤ (if b then still_among facts state people else still_among facts state people + 1)
    by true rest = rest
    by false rest = omega arith

-- ---- tables

put_others : (state : State) (row : AnswerRow) (window : ℕ) (people : List Person) → AllByRecursion (λ (p : Person). row.cand.0 < p.id.0) people
    → map (λ (p : Person). choices_in (with_row state row) window p.id.0) people ≡ map (λ (p : Person). choices_in state window p.id.0) people
put_others state row window [] all = refl
put_others state row window (p ∷ people) all =
    let less = all.0 in
    ap (λ (rows : List AnswerRow). map (λ (r : AnswerRow). r.choice) rows ∷ map (λ (q : Person). choices_in (with_row state row) window q.id.0) people) (other_candidate state row window p.id.0 (omega (arith, less)))
    ∙ ap (λ (z : List (List Choice)). choices_in state window p.id.0 ∷ z) (put_others state row window people all.1)

put_along : (state : State) (row : AnswerRow) (window : ℕ) (people : List Person) (at : ℕ) (person : Person) → AreRising people → slice_get people at ≡ Some person → person.id.0 ≡ row.cand.0 → window ≡ row.window
    → slice_set (map (λ (p : Person). choices_in state window p.id.0) people) at (choices_in state window row.cand.0 ++ row.choice ∷ []) ≡ map (λ (p : Person). choices_in (with_row state row) window p.id.0) people
put_along state row window [] at person rising here is opens = absurd (cc)
put_along state row window (p ∷ people) zero person rising here is opens =
    let same : p.id.0 ≡ row.cand.0 = ap (λ (z : Person). z.id.0) (same_Some p person here) ∙ is in
    let mine : choices_in (with_row state row) window p.id.0 ≡ choices_in state window p.id.0 ++ row.choice ∷ [] =
    ap (λ (rows : List AnswerRow). map (λ (r : AnswerRow). r.choice) rows) (own_rows_more state row window p.id.0 same opens) ∙ map-append (λ (r : AnswerRow). r.choice) (in_window window (rows_of p.id.0 state.answers)) (row ∷ []) in
    let new : choices_in state window row.cand.0 ++ row.choice ∷ [] ≡ choices_in (with_row state row) window p.id.0 =
    ap (λ (n : ℕ). choices_in state window n ++ row.choice ∷ []) (sym same) ∙ sym mine in
    let others = put_others state row window people (subst (λ (n : ℕ). AllByRecursion (λ (q : Person). n < q.id.0) people) same rising.0) in
    ap (λ (z : List Choice). z ∷ map (λ (q : Person). choices_in state window q.id.0) people) new ∙ ap (λ (z : List (List Choice)). choices_in (with_row state row) window p.id.0 ∷ z) (sym others)
put_along state row window (p ∷ people) (suc at) person rising here is opens =
    let less = all-get (λ (b : Person). p.id.0 < b.id.0) people at person rising.0 here in
    ap (λ (z : List (List Choice)). choices_in state window p.id.0 ∷ z) (put_along state row window people at person rising.1 here is opens)
    ∙ ap (λ (rows : List AnswerRow). map (λ (r : AnswerRow). r.choice) rows ∷ map (λ (q : Person). choices_in (with_row state row) window q.id.0) people)
    (sym (other_candidate state row window p.id.0 (omega (arith, less, is))))

get_set_same : {X : Type 0} (xs : List X) (i : ℕ) (x y : X) → slice_get (slice_set xs i x) i ≡ Some y → y ≡ x
get_set_same [] i x y e = absurd (cc)
get_set_same (z ∷ xs) zero x y e = sym (same_Some x y e)
get_set_same (z ∷ xs) (suc i) x y e = get_set_same xs i x y e

-- the choices at the place of the candidate
pub put_here : (facts : SeasonFacts) (state : State) (row : AnswerRow) (window at : ℕ) (person : Person) (table : List (List Choice)) → slice_get facts.people at ≡ Some person → person.id.0 ≡ row.cand.0
    → table ≡ table_along facts state window → slice_get table at ≡ Some (choices_in state window row.cand.0)
put_here facts state row window at person table here is so =
    ap (λ (z : List (List Choice)). slice_get z at) so ∙ (slice_get-map (λ (p : Person). choices_in state window p.id.0) facts.people at ∙ ap (option_map (λ (p : Person). choices_in state window p.id.0)) here ∙ ap (λ (n : ℕ). Some (choices_in state window n)) is)

-- all tables, where the choice is put into that of the opens window
pub tables_noted : (facts : SeasonFacts) (state : State) (row : AnswerRow) (tables : List (List (List Choice))) (at window : ℕ) (person : Person) (table new : List (List Choice)) → AreRising facts.people
    → slice_get facts.people at ≡ Some person → person.id.0 ≡ row.cand.0 → window ≡ row.window → AreTables facts state tables → slice_get tables window ≡ Some table
    → ((old : List Choice) → slice_get table at ≡ Some old → new ≡ slice_set table at (old ++ row.choice ∷ []))
    → AreTables facts (with_row state row) (slice_set tables window new)
tables_noted facts state row tables at window person table new rising here is opens all there put other t got = elim (eqb_tells other window) [
  | inl h ↦
      let mine : t ≡ new = get_set_same tables window new t (ap (λ (n : ℕ). slice_get (slice_set tables window new) n) (sym h.1) ∙ got) in
      let so = all window table there in
      mine ∙ (put (choices_in state window row.cand.0) (put_here facts state row window at person table here is so)
      ∙ (ap (λ (z : List (List Choice)). slice_set z at (choices_in state window row.cand.0 ++ row.choice ∷ [])) so
      ∙ (put_along state row window facts.people at person rising here is opens ∙ ap (λ (n : ℕ). table_along facts (with_row state row) n) (sym h.1))))
  | inr h ↦
      all other t (sym (get_set_other tables window other new h.1) ∙ got)
      ∙ same_map (λ p. choices_in state other p.id.0) (λ p. choices_in (with_row state row) other p.id.0) facts.people
      (λ p. ap (λ (rows : List AnswerRow). map (λ (r : AnswerRow). r.choice) rows) (sym (other_window state row other p.id.0 (λ e. h.1 (e ∙ sym opens)))))
]
