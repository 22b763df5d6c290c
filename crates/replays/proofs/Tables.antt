-- The rows of a number among the rows of a table.
use Rattle.std.proofs.Common.{◌≡◌, ◌≢◌, ◌<◌, ◌≤◌, ◌+◌, ◌⊎◌, inl, inr, ℕ, Bool, true, false, List, [], ◌∷◌, ◌++◌, arith, refl, sym, ap, ◌∙◌, subst, append-nil, ◌==◌, if◌then◌else◌}
use Rattle.std.specs.Prelude.{map}
use Rattle.std.proofs.lemmas.Bool.{cases_lt, eqb-true, ne_eqb}
use Rattle.kept_rows.specs.declared.rows.AnswerRow.{AnswerRow}
use Rattle.kept_rows.specs.declared.rows.RaiseRow.{RaiseRow}
use Rattle.office_moves.specs.Stands.{raises_in}
use Rattle.office_moves.specs.State.{in_window}

-- the rows of a number
abbrev pub with_number : {X : Type 0} → (X → ℕ) → ℕ → List X → List X
with_number number n [] = []
with_number number n (row ∷ rows) = if number row == n then row ∷ with_number number n rows else with_number number n rows

pub with_append : {X : Type 0} (number : X → ℕ) (n : ℕ) (rows more : List X) → with_number number n (rows ++ more) ≡ with_number number n rows ++ with_number number n more
with_append number n [] more = refl
with_append {X} number n (row ∷ rows) more = step (number row == n) (with_number number n (rows ++ more)) (with_number number n rows) (with_append number n rows more)
  where
    step : (b : Bool) (whole rest : List X) → whole ≡ rest ++ with_number number n more → (if b then row ∷ whole else whole) ≡ (if b then row ∷ rest else rest) ++ with_number number n more
    step true whole rest e = ap (λ z. row ∷ z) e
    step false whole rest e = e

-- the rows of a number have that number alone
with_again : {X : Type 0} (number : X → ℕ) (n : ℕ) (rows : List X) → with_number number n (with_number number n rows) ≡ with_number number n rows
with_again number n [] = refl
with_again number n (row ∷ rows) = step (number row == n) refl (with_again number n rows)
  where
    keep : (b : Bool) → b ≡ true → with_number number n (with_number number n rows) ≡ with_number number n rows
        → (if b then row ∷ with_number number n (with_number number n rows) else with_number number n (with_number number n rows)) ≡ row ∷ with_number number n rows
    keep true e rest = ap (λ z. row ∷ z) rest
    keep false e rest = absurd (cc)

    step : (b : Bool) → (number row == n) ≡ b → with_number number n (with_number number n rows) ≡ with_number number n rows
        → with_number number n (if b then row ∷ with_number number n rows else with_number number n rows) ≡ (if b then row ∷ with_number number n rows else with_number number n rows)
    step true e rest = keep (number row == n) e rest
    step false e rest = rest

with_other : {X : Type 0} (number : X → ℕ) (n other : ℕ) (rows : List X) → other ≢ n → with_number number other (with_number number n rows) ≡ []
with_other number n other [] apart = refl
with_other number n other (row ∷ rows) apart = step (number row == n) refl (with_other number n other rows apart)
  where
    skip : (b : Bool) → b ≡ false → with_number number other (with_number number n rows) ≡ []
        → (if b then row ∷ with_number number other (with_number number n rows) else with_number number other (with_number number n rows)) ≡ []
    skip true e rest = absurd (cc)
    skip false e rest = rest

    step : (b : Bool) → (number row == n) ≡ b → with_number number other (with_number number n rows) ≡ []
        → with_number number other (if b then row ∷ with_number number n rows else with_number number n rows) ≡ []
    step true e rest = skip (number row == other) (ne_eqb (number row) other (λ same. apart (sym same ∙ eqb-true (number row) n e))) rest
    step false e rest = rest

-- the rows of a number among those that are made of others
pub with_map : {X Y : Type 0} (make : X → Y) (number : Y → ℕ) (n : ℕ) (rows : List X) → with_number number n (map make rows) ≡ map make (with_number (λ row. number (make row)) n rows)
with_map make number n [] = refl
with_map make number n (row ∷ rows) = step (number (make row) == n) (with_map make number n rows)
  where
    step : (b : Bool) → with_number number n (map make rows) ≡ map make (with_number (λ row. number (make row)) n rows)
        → (if b then make row ∷ with_number number n (map make rows) else with_number number n (map make rows))
        ≡ map make (if b then row ∷ with_number (λ row. number (make row)) n rows else with_number (λ row. number (make row)) n rows)
    step true rest = ap (λ z. make row ∷ z) rest
    step false rest = rest

-- ---- of a window

abbrev pub raise_of : RaiseRow → ℕ
raise_of row = row.window

abbrev pub answer_of : AnswerRow → ℕ
answer_of row = row.window

pub raises_as : (window : ℕ) (rows : List RaiseRow) → with_number raise_of window rows ≡ raises_in window rows
raises_as window [] = refl
raises_as window (row ∷ rows) = ap (λ (z : List RaiseRow). if row.window == window then row ∷ z else z) (raises_as window rows)

pub answers_as : (window : ℕ) (rows : List AnswerRow) → with_number answer_of window rows ≡ in_window window rows
answers_as window [] = refl
answers_as window (row ∷ rows) = ap (λ (z : List AnswerRow). if row.window == window then row ∷ z else z) (answers_as window rows)

-- ---- the first windows

-- The rows of the first windows, so many, are those of a table, and there are no others.
pub record Holds {X : Type 0} (number : X → ℕ) (windows : ℕ) (table rows : List X) : Type 0 where
  pub same : (window : ℕ) → window < windows → with_number number window table ≡ with_number number window rows
  pub none : (window : ℕ) → windows ≤ window → with_number number window rows ≡ []

pub holds_nothing : {X : Type 0} (number : X → ℕ) (table : List X) → Holds number 0 table []
holds_nothing number table = record { same = λ window less. absurd (omega (arith, less)); none = λ window past. refl }

-- the cases of a window below the next number
pub below_next : (window windows : ℕ) → window < windows + 1 → (window < windows) ⊎ (window ≡ windows)
below_next window windows less = elim (cases_lt window windows) [ inl before ↦ inl before | inr past ↦ inr (omega (arith, past, less)) ]

pub holds_more : {X : Type 0} (number : X → ℕ) (windows : ℕ) (table rows more : List X) → more ≡ rows ++ with_number number windows table → Holds number windows table rows
    → Holds number (windows + 1) table more
holds_more {X} number windows table rows more is holds = record {
  same = λ window less. elim (below_next window windows less) [
    | inl before ↦ holds.same window before ∙ sym (parts window ∙ (ap (λ (z : List X). with_number number window rows ++ z) (with_other number windows window table (λ e. absurd (omega (arith, e, before))))
        ∙ append-nil (with_number number window rows)))
    | inr own ↦ subst (λ n. with_number number n table ≡ with_number number n more) (sym own)
        (sym (parts windows ∙ (ap (λ (z : List X). z ++ with_number number windows (with_number number windows table)) (holds.none windows (omega arith)) ∙ with_again number windows table)))
  ];
  none = λ window past.
      parts window ∙ (ap (λ (z : List X). z ++ with_number number window (with_number number windows table)) (holds.none window (omega (arith, past)))
      ∙ with_other number windows window table (λ e. absurd (omega (arith, e, past))));
}
  where
    parts : (window : ℕ) → with_number number window more ≡ with_number number window rows ++ with_number number window (with_number number windows table)
    parts window = ap (λ (z : List X). with_number number window z) is ∙ with_append number window rows (with_number number windows table)

-- where nothing is kept of later windows, the rows of each window are those of the table
pub held_whole : {X : Type 0} (number : X → ℕ) (among : ℕ → List X → List X) (windows : ℕ) (table rows : List X) → ((window : ℕ) (some : List X) → with_number number window some ≡ among window some)
    → Holds number windows table rows → ((window : ℕ) → windows ≤ window → among window table ≡ []) → (window : ℕ) → among window table ≡ among window rows
held_whole number among windows table rows alike holds later window = elim (cases_lt window windows) [
  | inl less ↦ sym (alike window table) ∙ (holds.same window less ∙ alike window rows)
  | inr past ↦ later window past ∙ (sym (holds.none window past) ∙ alike window rows)
]
