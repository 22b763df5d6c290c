-- A table read row by row.
use Rattle.std.proofs.Common.{◌≡◌, ◌+◌, ◌⊎◌, inl, inr, ℕ, Bool, true, false, cond, List, [], ◌∷◌, ◌++◌, Result, Ok, Err, refl, sym, ap, subst, ◌∙◌}
use Rattle.std.proofs.lemmas.Bool.{cond-true, cond-false}
use Rattle.section_rows.specs.Rows.{Row, same_fields}
use Rattle.section_rows.specs.Table.{Given, Reading, entries_from, table_of, then_read}

module _ {Entry Kind : Type 0} (bad : Kind) (names : Row) (reading : Reading Entry Kind) where
  -- the header was read
  pub read-header : (all left : List Row) (header : Row) → all ≡ header ∷ left → same_fields header names ≡ true → entries_from reading 2 [] left ≡ table_of bad names reading all
  read-header all left header split same = sym (ap (table_of bad names reading) split ∙ cond-true (same_fields header names) _ _ same)

  -- the first row is another one, or there is none
  pub no-header : (all left : List Row) (header : Row) → all ≡ header ∷ left → same_fields header names ≡ false → table_of bad names reading all ≡ Err (1, bad)
  no-header all left header split other = ap (table_of bad names reading) split ∙ cond-false (same_fields header names) _ _ other

  pub no-rows : (all : List Row) → all ≡ [] → table_of bad names reading all ≡ Err (1, bad)
  no-rows all none = ap (table_of bad names reading) none

module _ {Entry Kind : Type 0} (reading : Reading Entry Kind) (number next : ℕ) (entries : List Entry) (rows left : List Row) (row : Row) (table : Given Entry Kind) (split : rows ≡ row ∷ left) (counted : next ≡ number + 1)
    (here : entries_from reading (number + 1) entries rows ≡ table) where
  to_row : then_read (number + 1) (reading entries row) (λ entry. entries_from reading (number + 1 + 1) (entries ++ entry ∷ []) left) ≡ table
  to_row = sym (ap (entries_from reading (number + 1) entries) split) ∙ here

  -- one more row gave an entry
  pub read-more : (entry : Entry) → reading entries row ≡ Ok entry → entries_from reading (next + 1) (entries ++ entry ∷ []) left ≡ table
  read-more entry gave =
      ap (λ (n : ℕ). entries_from reading (n + 1) (entries ++ entry ∷ []) left) counted
      ∙ sym (ap (λ (r : Result Entry Kind). then_read (number + 1) r (λ other. entries_from reading (number + 1 + 1) (entries ++ other ∷ []) left)) gave) ∙ to_row

  -- one more row has a fault
  pub read-fault : (kind : Kind) → reading entries row ≡ Err kind → table ≡ Err (next, kind)
  read-fault kind gave =
      sym to_row ∙ ap (λ (r : Result Entry Kind). then_read (number + 1) r (λ other. entries_from reading (number + 1 + 1) (entries ++ other ∷ []) left)) gave
      ∙ ap (λ (n : ℕ). Err (n, kind)) (sym counted)

-- all rows were read
pub read-all : {Entry Kind : Type 0} (reading : Reading Entry Kind) (number : ℕ) (entries : List Entry) (rows : List Row) (table : Given Entry Kind) → rows ≡ [] → entries_from reading number entries rows ≡ table → table ≡ Ok entries
read-all reading number entries rows table none here = sym here ∙ ap (entries_from reading number entries) none

-- ---- laws of tables

-- What holds of the entries so far and the rows that remain, if each row that gives an entry keeps it, holds of all entries.
module _ {Entry Kind : Type 0} (reading : Reading Entry Kind) (Holds : List Entry → List Row → Type 0)
    (step : (before : List Entry) (row : Row) (rows : List Row) (entry : Entry) → Holds before (row ∷ rows) → reading before row ≡ Ok entry → Holds (before ++ entry ∷ []) rows) where
  all-from : (number : ℕ) (before : List Entry) (rows : List Row) (entries : List Entry) → Holds before rows → entries_from reading number before rows ≡ Ok entries → Holds entries []
  all-from number before [] entries held e = let same : before ≡ entries = cc in subst (λ (es : List Entry). Holds es []) same held
  all-from number before (row ∷ rows) entries held e = by (λ entry. all-from (number + 1) (before ++ entry ∷ []) rows entries) (reading before row) refl e
    where
      by : ((entry : Entry) → Holds (before ++ entry ∷ []) rows → entries_from reading (number + 1) (before ++ entry ∷ []) rows ≡ Ok entries → Holds entries [])
          → (r : Result Entry Kind) → reading before row ≡ r → then_read number r (λ entry. entries_from reading (number + 1) (before ++ entry ∷ []) rows) ≡ Ok entries → Holds entries []
      by rest (Ok entry) is more = rest entry (step before row rows entry held is) more
      by rest (Err kind) is more = cc more

  pub all-along : (bad : Kind) (names header : Row) (rows : List Row) (entries : List Entry) → Holds [] rows → table_of bad names reading (header ∷ rows) ≡ Ok entries → Holds entries []
  all-along bad names header rows entries none e = by (same_fields header names) e
    where
      by : (b : Bool) → cond b (entries_from reading 2 [] rows) (Err (1, bad)) ≡ Ok entries → Holds entries []
      by true more = all-from 2 [] rows entries none more
      by false more = cc more

-- What holds of no entries, if each further entry keeps it, holds of all entries.
pub all-hold : {Entry Kind : Type 0} (reading : Reading Entry Kind) (Holds : List Entry → Type 0)
    → ((before : List Entry) (row : Row) (entry : Entry) → Holds before → reading before row ≡ Ok entry → Holds (before ++ entry ∷ []))
    → (bad : Kind) (names : Row) (rows : List Row) (entries : List Entry) → Holds [] → table_of bad names reading rows ≡ Ok entries → Holds entries
all-hold reading Holds step bad names [] entries none e = cc e
all-hold reading Holds step bad names (header ∷ rows) entries none e =
    all-along reading (λ before rest. Holds before) (λ before row rest entry held is. step before row entry held is) bad names header rows entries none e

-- What is made of the entries of a table is one value, if each list of entries makes one.
module _ {Entry Kind Value : Type 0} (table : Given Entry Kind) (Makes : List Entry → Value → Type 0) where
  -- the table has entries, which make the value
  abbrev Read : Value → Type 0
  Read value = (entries : List Entry) × (table ≡ Ok entries) × Makes entries value

  -- the table has a first fault
  abbrev HasFault : ℕ → Kind → Type 0
  HasFault row kind = table ≡ Err (row, kind)

  pub some_reading : ((entries : List Entry) → (value : Value) × Makes entries value) → ((value : Value) × Read value) ⊎ ((row : ℕ) × (kind : Kind) × HasFault row kind)
  some_reading make = by table refl
    where
      by : (t : Given Entry Kind) → table ≡ t → ((value : Value) × Read value) ⊎ ((row : ℕ) × (kind : Kind) × HasFault row kind)
      by (Ok entries) e = let (value, made) = make entries in inl (value, (entries, e, made))
      by (Err fault) e = inr (fault.0, fault.1, e)

  pub apart_reading : (value : Value) (row : ℕ) (kind : Kind) → Read value → HasFault row kind → ⊥
  apart_reading value row kind read fault = let e = read.1 in cc (e, fault)

  pub one_value : ((entries : List Entry) (value other : Value) → Makes entries value → Makes entries other → value ≡ other) → (value other : Value) → Read value → Read other → value ≡ other
  one_value one value other a b =
      let e = a.1 in
      let f = b.1 in
      let same : a.0 ≡ b.0 = cc (e, f) in
      one b.0 value other (subst (λ (entries : List Entry). Makes entries value) same a.2) b.2

-- the first fault of a table is one
pub one_fault : {Entry Kind : Type 0} (table : Given Entry Kind) (row other : ℕ) (kind next : Kind) → table ≡ Err (row, kind) → table ≡ Err (other, next) → (row ≡ other) × (kind ≡ next)
one_fault {Entry} {Kind} table row other kind next a b =
    let same : ◌≡◌ {A = ℕ × Kind} (row, kind) (other, next) = cc (a, b) in (ap (λ (p : ℕ × Kind). p.0) same, ap (λ (p : ℕ × Kind). p.1) same)
