-- The rows of a candidate in a window, and the raises before a window, with a row more.
use Rattle.std.proofs.Common.{◌≡◌, ◌<◌, ◌≤◌, inl, inr, ℕ, Bool, true, false, List, [], ◌∷◌, ◌++◌, refl, ap, ◌∙◌, nat_lt, ◌==◌, if◌then◌else◌, append-nil}
use Rattle.std.proofs.lemmas.Bool.{cases_Bool, eq-eqb, eqb-false, eqb-true, lt-ltb, le-ltb}
use Rattle.kept_rows.specs.declared.rows.AnswerRow.{AnswerRow}
use Rattle.kept_rows.specs.declared.rows.RaiseRow.{RaiseRow}
use Rattle.round_options.specs.Options.{standing_of}
use Rattle.round_options.specs.declared.standing.Standing.{Standing}
use Rattle.office_moves.specs.State.{answered, in_window, rows_of}
use Rattle.office_moves.specs.Raised.{raised_before}
use Rattle.office_moves.proofs.Repeats.{rows_append, rows_when}

-- ---- the rows of a window

pub window_append : (window : ℕ) (rows more : List AnswerRow) → in_window window (rows ++ more) ≡ in_window window rows ++ in_window window more
window_append window [] more = refl
window_append window (row ∷ rows) more =
    ap (λ (z : List AnswerRow). if row.window == window then row ∷ z else z) (window_append window rows more)
    ∙ rows_when (row.window == window) row (in_window window rows) (in_window window more)

-- the row, where it is one of the candidate and of the window
abbrev pub own_row : ℕ → ℕ → AnswerRow → List AnswerRow
own_row window id row = in_window window (rows_of id (row ∷ []))

pub rows_then : (window id : ℕ) (answers : List AnswerRow) (row : AnswerRow)
    → in_window window (rows_of id (answers ++ row ∷ [])) ≡ in_window window (rows_of id answers) ++ own_row window id row
rows_then window id answers row =
    ap (in_window window) (rows_append id answers (row ∷ [])) ∙ window_append window (rows_of id answers) (rows_of id (row ∷ []))

-- a row is one of a candidate and a window, or none of it
pub data Owns (window id : ℕ) (row : AnswerRow) : Type 0 where
  Own : row.cand.0 ≡ id → row.window ≡ window → own_row window id row ≡ row ∷ [] → Owns window id row
  OfOther : rows_of id (row ∷ []) ≡ [] → own_row window id row ≡ [] → Owns window id row
  OfWindow : (row.window ≡ window → ⊥) → own_row window id row ≡ [] → Owns window id row

rows_if : (b c : Bool) (row : AnswerRow) (rows : List AnswerRow) → b ≡ c → (if b then row ∷ rows else rows) ≡ (if c then row ∷ rows else rows)
rows_if b c row rows e = ap (λ (z : Bool). if z then row ∷ rows else rows) e

pub owns : (window id : ℕ) (row : AnswerRow) → Owns window id row
owns window id row = elim (cases_Bool (row.cand.0 == id)) [
  | inl e ↦
      let mine : rows_of id (row ∷ []) ≡ row ∷ [] = rows_if (row.cand.0 == id) true row [] e in
      elim (cases_Bool (row.window == window)) [
        | inl f ↦ Own (eqb-true row.cand.0 id e) (eqb-true row.window window f) (ap (in_window window) mine ∙ rows_if (row.window == window) true row [] f)
        | inr f ↦ OfWindow (eqb-false row.window window f) (ap (in_window window) mine ∙ rows_if (row.window == window) false row [] f)
      ]
  | inr e ↦
      let none : rows_of id (row ∷ []) ≡ [] = rows_if (row.cand.0 == id) false row [] e in
      OfOther none (ap (in_window window) none)
]

own_is : (window id : ℕ) (row : AnswerRow) → row.cand.0 ≡ id → row.window ≡ window → own_row window id row ≡ row ∷ []
own_is window id row own here =
    ap (in_window window) (rows_if (row.cand.0 == id) true row [] (eq-eqb row.cand.0 id own)) ∙ rows_if (row.window == window) true row [] (eq-eqb row.window window here)

own_none : (window id : ℕ) (row : AnswerRow) → (row.cand.0 ≡ id → row.window ≡ window → ⊥) → Owns window id row → own_row window id row ≡ []
own_none window id row apart (Own own here mine) = absurd (apart own here)
own_none window id row apart (OfOther others none) = none
own_none window id row apart (OfWindow other none) = none

-- a row of the candidate in the window is the last one there
pub window_more : (window id : ℕ) (rows : List AnswerRow) (row : AnswerRow) → row.cand.0 ≡ id → row.window ≡ window
    → in_window window (rows_of id (rows ++ row ∷ [])) ≡ in_window window (rows_of id rows) ++ row ∷ []
window_more window id rows row own here = rows_then window id rows row ∙ ap (λ (z : List AnswerRow). in_window window (rows_of id rows) ++ z) (own_is window id row own here)

-- a row of another candidate, or of another window, changes nothing there
pub window_same : (window id : ℕ) (rows : List AnswerRow) (row : AnswerRow) → (row.cand.0 ≡ id → row.window ≡ window → ⊥)
    → in_window window (rows_of id (rows ++ row ∷ [])) ≡ in_window window (rows_of id rows)
window_same window id rows row apart =
    rows_then window id rows row
    ∙ (ap (λ (z : List AnswerRow). in_window window (rows_of id rows) ++ z) (own_none window id row apart (owns window id row)) ∙ append-nil (in_window window (rows_of id rows)))

-- the last row decides the standing of a candidate
pub answered_last : (standing : Standing) (rows : List AnswerRow) (row : AnswerRow) → answered standing (rows ++ row ∷ []) ≡ standing_of row.choice
answered_last standing [] row = refl
answered_last standing (first ∷ rows) row = answered_last (standing_of first.choice) rows row

-- ---- the raises before a window

pub lifted_when : (b : Bool) (row : RaiseRow) (rows more : List RaiseRow) → (if b then row ∷ (rows ++ more) else rows ++ more) ≡ (if b then row ∷ rows else rows) ++ more
lifted_when true row rows more = refl
lifted_when false row rows more = refl

pub before_append : (window : ℕ) (rows more : List RaiseRow) → raised_before window (rows ++ more) ≡ raised_before window rows ++ raised_before window more
before_append window [] more = refl
before_append window (row ∷ rows) more =
    ap (λ (z : List RaiseRow). if nat_lt row.window window then row ∷ z else z) (before_append window rows more)
    ∙ lifted_when (nat_lt row.window window) row (raised_before window rows) (raised_before window more)

-- a raise of this window or a later one is not among those before it
pub before_same : (window : ℕ) (rows : List RaiseRow) (row : RaiseRow) → window ≤ row.window → raised_before window (rows ++ row ∷ []) ≡ raised_before window rows
before_same window rows row late =
    before_append window rows (row ∷ [])
    ∙ (ap (λ (b : Bool). raised_before window rows ++ (if b then row ∷ [] else [])) (le-ltb row.window window late) ∙ append-nil (raised_before window rows))

-- a raise of an earlier window is
pub before_more : (window : ℕ) (rows : List RaiseRow) (row : RaiseRow) → row.window < window → raised_before window (rows ++ row ∷ []) ≡ raised_before window rows ++ row ∷ []
before_more window rows row early =
    before_append window rows (row ∷ [])
    ∙ ap (λ (b : Bool). raised_before window rows ++ (if b then row ∷ [] else [])) (lt-ltb row.window window early)
