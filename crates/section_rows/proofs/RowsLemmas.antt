-- Rows, without the empty fields at their ends.
use Rattle.std.proofs.Common.{◌≡◌, ◌<◌, ◌≤◌, ℕ, zero, suc, Bool, true, false, List, [], ◌∷◌, ◌++◌, Some, None, length, take, refl, ap, ◌∙◌, sub-one, ◌-◌, arith}
use Rattle.std.proofs.Math.Seq.{take-suc}
use Rattle.std.specs.Prelude.{◌==◌, ◌&&◌, bytes_eq}
use Rattle.std.proofs.lemmas.Bool.{eqb-true}
use Rattle.csv.specs.Records.{field_at}
use Rattle.section_rows.specs.Rows.{Row, before, same_fields, without_empty_end, field}

-- what a record has at a place is its field there
pub field_at-field : (row : Row) (n : ℕ) (f : List ℕ) → field_at row n ≡ Some f → field row n ≡ f
unfolding field_at
field_at-field [] n f e = cc e
field_at-field (x ∷ row) zero f e = cc e
field_at-field (x ∷ row) (suc n) f e = field_at-field row n f e

pub field_at-none : (row : Row) (n : ℕ) → field_at row n ≡ None → field row n ≡ []
unfolding field_at
field_at-none [] n e = refl
field_at-none (x ∷ row) zero e = cc e
field_at-none (x ∷ row) (suc n) e = field_at-none row n e

-- An empty field at the end of others is left out.
pub without_empty_end-drops : (row : Row) → without_empty_end (row ++ [] ∷ []) ≡ without_empty_end row
without_empty_end-drops [] = refl
without_empty_end-drops (f ∷ row) = ap (before f) (without_empty_end-drops row)

before-some : (f g : List ℕ) (row : Row) → before f (row ++ g ∷ []) ≡ f ∷ (row ++ g ∷ [])
before-some [] g [] = refl
before-some [] g (x ∷ row) = refl
before-some (b ∷ f) g [] = refl
before-some (b ∷ f) g (x ∷ row) = refl

-- Fields that end with one that is not empty stay.
pub without_empty_end-keeps : (row : Row) (b : ℕ) (f : List ℕ) → without_empty_end (row ++ (b ∷ f) ∷ []) ≡ row ++ (b ∷ f) ∷ []
without_empty_end-keeps [] b f = refl
without_empty_end-keeps (g ∷ row) b f = ap (before g) (without_empty_end-keeps row b f) ∙ before-some g (b ∷ f) row

-- the test for no bytes
pub empty_test : (f : List ℕ) → ((length f == 0) ≡ true → f ≡ []) × (f ≡ [] → (length f == 0) ≡ true)
empty_test [] = (λ e. refl, λ e. refl)
empty_test (b ∷ f) = (λ e. absurd (let h : length (b ∷ f) ≡ 0 = eqb-true (length (b ∷ f)) 0 e in omega arith), λ e. cc e)

-- An empty field after the first n is left out.
pub used-less : (row : Row) (n : ℕ) → 0 < n → n ≤ length row → field row (n - 1) ≡ [] → without_empty_end (take n row) ≡ without_empty_end (take (n - 1) row)
used-less row zero some within e = absurd (omega arith)
used-less row (suc n) some within e =
    let split : take (suc n) row ≡ take n row ++ field row n ∷ [] = take-suc row n [] (omega arith) in
    rw (sub-one, split, (let e2 : field row n ≡ [] = rw sub-one at e in e2)) (without_empty_end-drops (take n row))

-- Where the last of the first n is not empty, they stay.
pub used-all : (row : Row) (n : ℕ) → 0 < n → n ≤ length row → (field row (n - 1) ≡ [] → ⊥) → without_empty_end (take n row) ≡ take n row
used-all row zero some within ne = absurd (omega arith)
used-all row (suc n) some within ne = by (field row n) refl
  where
    by : (f : List ℕ) → field row n ≡ f → without_empty_end (take (suc n) row) ≡ take (suc n) row
    by [] e = absurd (ne (rw sub-one e))
    by (b ∷ f) e = rw (take-suc row n [] (omega arith), e) (without_empty_end-keeps (take n row) b f)

-- what is false is false together with any test
and-false-right : (a b : Bool) → false ≡ b → false ≡ (a && b)
and-false-right true b e = e
and-false-right false b e = refl

-- Rows of different lengths do not have the same fields.
pub same_fields-length : (row names : Row) → (length row ≡ length names → ⊥) → false ≡ same_fields row names
same_fields-length [] [] ne = absurd (ne refl)
same_fields-length [] (n ∷ names) ne = refl
same_fields-length (f ∷ row) [] ne = refl
same_fields-length (f ∷ row) (n ∷ names) ne = and-false-right (bytes_eq f n) _ (same_fields-length row names (λ e. ne (ap suc e)))
