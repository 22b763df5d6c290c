-- What the writer of `csv` writes of a row, piece by piece.
use Rattle.std.proofs.Common.{◌≡◌, ◌≢◌, ◌<◌, ◌+◌, ℕ, zero, suc, Bool, false, List, [], ◌∷◌, ◌++◌, Option, Some, None, length, drop, refl, sym, ap, subst, ◌∙◌, ◌==◌, if◌then◌else◌, append_assoc, add-one, arith, inl, inr}
use Rattle.std.specs.Io.KnownBytes.{Appends}
use Rattle.std.proofs.lemmas.Bool.{cases_Bool, eqb-true}
use Rattle.csv.specs.Writing.{escaped, field_text, next_sep}
use Rattle.csv.specs.declared.writer.QuoteStyle.TheVariants as style
use Rattle.csv.specs.declared.writer.WriterBuilder.{WriterBuilder}
use Rattle.section_rows.specs.Rows.{Row, field}
use Rattle.quota_units.specs.Quoted.{comma_before, doubled, fields_text, in_quotes, quoting, spaced, spaced_row}

-- a quote is written twice
pub doubled-same : (f : List ℕ) → escaped quoting f ≡ doubled f
unfolding escaped
doubled-same [] = refl
doubled-same (b ∷ f) = ap (λ (l : List ℕ). if b == 34 then 34 ∷ b ∷ l else b ∷ l) (doubled-same f)

pub field-same : (f : List ℕ) → field_text quoting f ≡ in_quotes f
field-same f = ap (λ (l : List ℕ). 34 ∷ (l ++ 34 ∷ [])) (doubled-same f)

-- A field is written as its number says.
pub field-written : (cfg : WriterBuilder) (n at : ℕ) (f : List ℕ) (old new : Option (List ℕ)) → cfg ≡ quoting → (n == 0) ≡ (at == 0)
    → ((cfg.style ≢ style.NonNumeric) → Appends old new (next_sep cfg n ++ field_text cfg f)) → Appends old new (comma_before (at == 0) ++ in_quotes f)
field-written cfg n at f old new is count writes =
    let made = subst (λ (c : WriterBuilder). (c.style ≢ style.NonNumeric) → Appends old new (next_sep c n ++ field_text c f)) is writes in
    let first : next_sep quoting n ≡ comma_before (at == 0) = ap (λ (b : Bool). if b then [] else 44 ∷ []) count in
    subst (λ (l : List ℕ). Appends old new (l ++ in_quotes f)) first
    (subst (λ (l : List ℕ). Appends old new (next_sep quoting n ++ l)) (field-same f) (made (λ e. cc e)))

-- Bytes were written, and with these they are all.
abbrev pub Leaves : Option (List ℕ) → Option (List ℕ) → List ℕ → List ℕ → Type 0
Leaves None now left all = Unit {0}
Leaves (Some xs) None left all = ⊥
Leaves (Some xs) (Some ys) left all = ys ++ left ≡ xs ++ all

pub leaves-next : (old now next : Option (List ℕ)) (piece left all : List ℕ) → Leaves old now (piece ++ left) all → Appends now next piece → Leaves old next left all
leaves-next None now next piece left all h a = tt
leaves-next (Some xs) None next piece left all h a = absurd h
leaves-next (Some xs) (Some ys) None piece left all h a = absurd a
leaves-next (Some xs) (Some ys) (Some zs) piece left all h a = ap (λ (l : List ℕ). l ++ left) a ∙ append_assoc ys piece left ∙ h

-- the fields of a row from one of them on
drop-field : (row : Row) (at : ℕ) → at < length row → drop at (spaced_row row) ≡ spaced (field row at) ∷ drop (suc at) (spaced_row row)
drop-field [] at less = absurd (omega (arith, less))
drop-field (f ∷ row) zero less = refl
drop-field (f ∷ row) (suc at) less = drop-field row at (omega (arith, less))

-- a further field is not the first
later : (n : ℕ) → (n + 1 == 0) ≡ false
later n = elim (cases_Bool (n + 1 == 0)) [
  | inl is ↦ absurd (let e = eqb-true (n + 1) 0 is in omega (arith, e))
  | inr other ↦ other
]

-- A field more is written.
pub row-step : (row : Row) (at : ℕ) (old now next : Option (List ℕ)) (f all : List ℕ) → at < length row → f ≡ spaced (field row at)
    → Leaves old now (fields_text (at == 0) (drop at (spaced_row row))) all → Appends now next (comma_before (at == 0) ++ in_quotes f)
    → Leaves old next (fields_text (at + 1 == 0) (drop (at + 1) (spaced_row row))) all
row-step row at old now next f all less is left wrote =
    let split = ap (fields_text (at == 0)) (drop-field row at less) in
    let made = subst (λ (l : List ℕ). Leaves old now l all) split left in
    let same = subst (λ (g : List ℕ). Appends now next (comma_before (at == 0) ++ in_quotes g)) is wrote in
    let after = leaves-next old now next (comma_before (at == 0) ++ in_quotes (spaced (field row at))) (fields_text false (drop (suc at) (spaced_row row))) all made same in
    subst (λ (b : Bool). Leaves old next (fields_text b (drop (at + 1) (spaced_row row))) all) (sym (later at))
    (subst (λ (n : ℕ). Leaves old next (fields_text false (drop n (spaced_row row))) all) (sym (add-one at)) after)
