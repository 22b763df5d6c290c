-- Rows that are written in quotes are read back.
use Rattle.std.proofs.Common.{◌≡◌, ◌≤◌, ◌+◌, ℕ, zero, suc, Bool, true, false, List, [], ◌∷◌, ◌++◌, Some, length, map, refl, sym, ap, subst, ◌∙◌, ◌==◌, if◌then◌else◌, append_assoc, length-append, arith}
use Rattle.std.specs.List.{AllByRecursion}
use Rattle.csv.specs.Machine.{next_record}
use Rattle.csv.specs.Reading.{default_config, records, records_from, records_next, strip_bom}
use Rattle.csv.specs.Writing.{default_writer, escaped}
use Rattle.csv.specs.declared.parser.State.TheVariants as st
use Rattle.csv.proofs.RoundTrip.{quoted-run}
use Rattle.section_rows.specs.Rows.{Row, before, row_before, rows_among, rows_of, without_empty_end}
use Rattle.section_rows.proofs.RecordLemmas.{none_left}
use Rattle.quota_units.specs.Quoted.{comma_before, doubled, fields_text, in_quotes, row_text, rows_text, spaced, spaced_row}

escaped-same : (f : List ℕ) → escaped default_writer f ≡ doubled f
unfolding escaped
escaped-same [] = refl
escaped-same (b ∷ f) = ap (λ (l : List ℕ). if b == 34 then 34 ∷ b ∷ l else b ∷ l) (escaped-same f)

-- a field in quotes, from inside of them
quotes-run : (fields : List (List ℕ)) (f tail : List ℕ) → next_record default_config st.InQuoted fields [] ((doubled f ++ 34 ∷ []) ++ tail) ≡ next_record default_config st.AfterQuote fields f tail
quotes-run fields f tail =
    ap (λ (l : List ℕ). next_record default_config st.InQuoted fields [] l) (append_assoc (doubled f) (34 ∷ []) tail)
    ∙ ap (λ (l : List ℕ). next_record default_config st.InQuoted fields [] (l ++ 34 ∷ tail)) (sym (escaped-same f)) ∙ quoted-run fields [] f tail

-- the further fields of a row, after one of them
rest-run : (fields : List (List ℕ)) (f : List ℕ) (rest : Row) (tail : List ℕ)
    → next_record default_config st.AfterQuote fields f (fields_text false rest ++ tail) ≡ Some (fields ++ (f ∷ rest), st.StartRecord, tail)
unfolding next_record
rest-run fields f [] tail = refl
rest-run fields f (g ∷ rest) tail =
    ap (λ (l : List ℕ). next_record default_config st.AfterQuote fields f (44 ∷ 34 ∷ l)) (append_assoc (doubled g ++ 34 ∷ []) (fields_text false rest) tail)
    ∙ quotes-run (fields ++ f ∷ []) g (fields_text false rest ++ tail)
    ∙ rest-run (fields ++ f ∷ []) g rest tail
    ∙ ap (λ (l : List (List ℕ)). Some (l, st.StartRecord, tail)) (append_assoc fields (f ∷ []) (g ∷ rest))

-- A row with fields is read back.
pub row-run : (f : List ℕ) (rest : Row) (tail : List ℕ) → next_record default_config st.StartRecord [] [] (row_text (f ∷ rest) ++ tail) ≡ Some (f ∷ rest, st.StartRecord, tail)
unfolding next_record
row-run f rest tail =
    ap (λ (l : List ℕ). next_record default_config st.InQuoted [] [] l) (append_assoc (doubled f ++ 34 ∷ []) (fields_text false rest) tail)
    ∙ quotes-run [] f (fields_text false rest ++ tail) ∙ rest-run [] f rest tail

-- a row that is none but for its fields
pub record IsRow (row : Row) : Type 0 where
  pub first : List ℕ
  pub more : Row
  pub filled : row ≡ first ∷ more
  pub ends : without_empty_end row ≡ row

abbrev pub AreRows : List Row → Type 0
AreRows rows = AllByRecursion IsRow rows

rows-run : (n : ℕ) (rows : List Row) → length rows ≤ n → AreRows rows → records_from default_config n st.StartRecord (rows_text rows) ≡ rows
unfolding records_from
rows-run n [] within all = none_left n
rows-run zero (row ∷ rows) within all = absurd (omega (arith, within))
rows-run (suc n) (row ∷ rows) within all =
    let is = all.0 in
    subst (λ (r : Row). records_from default_config (suc n) st.StartRecord (row_text r ++ rows_text rows) ≡ r ∷ rows) (sym is.filled)
    (ap (λ o. records_next (records_from default_config n) o) (row-run is.first is.more (rows_text rows)) ∙ ap (λ (l : List Row). (is.first ∷ is.more) ∷ l) (rows-run n rows (omega (arith, within)) all.1))

among-all : (rows : List Row) → AreRows rows → rows_among rows ≡ rows
among-all [] all = refl
among-all (row ∷ rows) all =
    let is = all.0 in
    ap (λ (r : Row). row_before r (rows_among rows)) (is.ends ∙ is.filled) ∙ ap (λ (l : List Row). (is.first ∷ is.more) ∷ l) (among-all rows all.1) ∙ ap (λ (r : Row). r ∷ rows) (sym is.filled)

-- each row takes a byte at least
longer : (first : Bool) (row : Row) → 1 ≤ length (fields_text first row)
longer true [] = omega arith
longer false [] = omega arith
longer first (f ∷ row) = omega (arith, longer false row, length-append (comma_before first ++ in_quotes f) (fields_text false row))

enough : (rows : List Row) → length rows ≤ length (rows_text rows)
enough [] = omega arith
enough (row ∷ rows) = omega (arith, longer true row, enough rows, length-append (row_text row) (rows_text rows))

no-mark : (rows : List Row) → AreRows rows → strip_bom (rows_text rows) ≡ rows_text rows
unfolding strip_bom
no-mark [] all = refl
no-mark (row ∷ rows) all = subst (λ (r : Row). strip_bom (row_text r ++ rows_text rows) ≡ row_text r ++ rows_text rows) (sym all.0.filled) (quoted-first _)
  where
    quoted-first : (l : List ℕ) → strip_bom (34 ∷ l) ≡ 34 ∷ l
    quoted-first [] = refl
    quoted-first (b ∷ []) = refl
    quoted-first (b ∷ c ∷ l) = refl

-- Rows are read back.
pub rows-back : (rows : List Row) → AreRows rows → rows_of (rows_text rows) ≡ rows
unfolding rows_of
rows-back rows all =
    ap (λ (l : List ℕ). rows_among (records_from default_config (length l + 1) st.StartRecord l)) (no-mark rows all)
    ∙ ap rows_among (rows-run (length (rows_text rows) + 1) rows (omega (arith, enough rows)) all) ∙ among-all rows all

-- ---- what is read are rows

ends-twice : (row : Row) → without_empty_end (without_empty_end row) ≡ without_empty_end row
ends-twice [] = refl
ends-twice (f ∷ row) = by f (without_empty_end row) (ends-twice row)
  where
    by : (f : List ℕ) (r : Row) → without_empty_end r ≡ r → without_empty_end (before f r) ≡ before f r
    by [] [] e = refl
    by (b ∷ f) [] e = refl
    by [] (g ∷ r) e = rw e refl
    by (b ∷ f) (g ∷ r) e = rw e refl

among-are : (records : List Row) → AreRows (rows_among records)
among-are [] = tt
among-are (r ∷ records) = by (without_empty_end r) (ends-twice r) (among-are records)
  where
    by : (w : Row) → without_empty_end w ≡ w → AreRows (rows_among records) → AreRows (row_before w (rows_among records))
    by [] e all = all
    by (f ∷ w) e all = (record { first = f; more = w; filled = refl; ends = e }, all)

pub read-are : (body : List ℕ) → AreRows (rows_of body)
unfolding rows_of
read-are body = among-are (records default_config (strip_bom body))

-- spaces leave a row a row
ends-spaced : (row : Row) → without_empty_end (spaced_row row) ≡ spaced_row (without_empty_end row)
ends-spaced [] = refl
ends-spaced (f ∷ row) = ap (before (spaced f)) (ends-spaced row) ∙ by f (without_empty_end row)
  where
    by : (f : List ℕ) (r : Row) → before (spaced f) (spaced_row r) ≡ spaced_row (before f r)
    by [] [] = refl
    by (b ∷ f) [] = refl
    by [] (g ∷ r) = refl
    by (b ∷ f) (g ∷ r) = refl

pub spaced-are : (rows : List Row) → AreRows rows → AreRows (map spaced_row rows)
spaced-are [] all = tt
spaced-are (row ∷ rows) all =
    let is = all.0 in (
      record {
        first = spaced is.first;
        more = spaced_row is.more;
        filled = ap spaced_row is.filled;
        ends = ends-spaced row ∙ ap spaced_row is.ends;
      },
      spaced-are rows all.1,
    )
