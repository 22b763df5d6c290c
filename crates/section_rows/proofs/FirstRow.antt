-- The fault that a table reports is that of its first row with a fault.
use Rattle.std.proofs.Common.{◌≡◌, ◌<◌, ◌≤◌, ◌+◌, ℕ, zero, suc, Bool, true, false, cond, List, [], ◌∷◌, ◌++◌, Option, Some, None, Result, Ok, Err, length, take, arith, refl, ap, subst, ◌∙◌}
use Rattle.std.specs.Prelude.{slice_get}
use Rattle.office_text.specs.FirstFault.{IsFaultless, IsFirstFault, Judge, fault_at}
use Rattle.office_text.proofs.FirstFaultLemmas.{faults_apart, one_first_fault}
use Rattle.section_rows.specs.FirstFault.{ReportsFirst, fault_of, given_by, table_judge, with_entry}
use Rattle.section_rows.specs.Rows.{Row, same_fields}
use Rattle.section_rows.specs.Table.{Given, Reading, entries_from, table_of, then_read}

module _ {Entry Kind : Type 0} (reading : Reading Entry Kind) where
  -- what is wrong with a row after these entries and rows
  abbrev wrong : List Entry → List Row → Option Row → Option Kind
  wrong entries rows None = None
  wrong entries rows (Some row) = fault_of (reading (given_by reading entries rows) row)

  abbrev wrong_at : List Entry → List Row → ℕ → Option Kind
  wrong_at entries rows m = wrong entries (take m rows) (slice_get rows m)

  -- the first fault of rows after these entries
  pub record FirstOf (entries : List Entry) (rows : List Row) (m : ℕ) (kind : Kind) : Type 0 where
    pub here : wrong_at entries rows m ≡ Some kind
    pub within : m ≤ length rows
    pub before : (j : ℕ) → j < m → wrong_at entries rows j ≡ None

  abbrev NoneOf : List Entry → List Row → Type 0
  NoneOf entries rows = (m : ℕ) → wrong_at entries rows m ≡ None

  -- behind a row that gave an entry
  behind : (entries : List Entry) (row : Row) (rows : List Row) (r : Result Entry Kind) (j : ℕ) → reading entries row ≡ r → wrong_at entries (row ∷ rows) (suc j) ≡ wrong_at (with_entry entries r) rows j
  behind entries row rows r j is = by (slice_get rows j)
    where
      by : (o : Option Row) → wrong entries (row ∷ take j rows) o ≡ wrong (with_entry entries r) (take j rows) o
      by None = refl
      by (Some other) = ap (λ (z : Result Entry Kind). fault_of (reading (given_by reading (with_entry entries z) (take j rows)) other)) is

  later : (entries : List Entry) (row : Row) (rows : List Row) (entry : Entry) (m : ℕ) (kind : Kind) → reading entries row ≡ Ok entry → FirstOf (entries ++ entry ∷ []) rows m kind → FirstOf entries (row ∷ rows) (suc m) kind
  later entries row rows entry m kind is first = record { here = behind entries row rows (Ok entry) m is ∙ first.here; within = omega (arith, first.within); before = before }
    where
      before : (j : ℕ) → j < suc m → wrong_at entries (row ∷ rows) j ≡ None
      before zero less = ap fault_of is
      before (suc j) less = behind entries row rows (Ok entry) j is ∙ first.before j (omega (arith, less))

  none_later : (entries : List Entry) (row : Row) (rows : List Row) (entry : Entry) → reading entries row ≡ Ok entry → NoneOf (entries ++ entry ∷ []) rows → NoneOf entries (row ∷ rows)
  none_later entries row rows entry is none zero = ap fault_of is
  none_later entries row rows entry is none (suc j) = behind entries row rows (Ok entry) j is ∙ none j

  -- what rows give has no fault, or it is the first one
  abbrev Tells : ℕ → List Entry → List Row → Given Entry Kind → Type 0
  Tells number entries rows (Ok all) = NoneOf entries rows
  Tells number entries rows (Err fault) = (m : ℕ) × (fault.0 ≡ number + m) × FirstOf entries rows m fault.1

  tells_later : (number : ℕ) (entries : List Entry) (row : Row) (rows : List Row) (entry : Entry) (given : Given Entry Kind) → reading entries row ≡ Ok entry → Tells (number + 1) (entries ++ entry ∷ []) rows given
      → Tells number entries (row ∷ rows) given
  tells_later number entries row rows entry (Ok all) is none = none_later entries row rows entry is none
  tells_later number entries row rows entry (Err fault) is first = (suc first.0, (let at = first.1 in omega (arith, at)), later entries row rows entry first.0 fault.1 is first.2)

  pub tells : (number : ℕ) (entries : List Entry) (rows : List Row) → Tells number entries rows (entries_from reading number entries rows)
  tells number entries [] = λ m. refl
  tells number entries (row ∷ rows) = by (λ entry. tells (number + 1) (entries ++ entry ∷ []) rows) (reading entries row) refl
    where
      by : ((entry : Entry) → Tells (number + 1) (entries ++ entry ∷ []) rows (entries_from reading (number + 1) (entries ++ entry ∷ []) rows))
          → (r : Result Entry Kind) → reading entries row ≡ r → Tells number entries (row ∷ rows) (then_read number r (λ entry. entries_from reading (number + 1) (entries ++ entry ∷ []) rows))
      by rest (Ok entry) is = tells_later number entries row rows entry (entries_from reading (number + 1) (entries ++ entry ∷ []) rows) is (rest entry)
      by rest (Err kind) is = (zero, omega arith, record { here = ap fault_of is; within = omega arith; before = λ j less. absurd (omega (arith, less)) })

module _ {Entry Kind : Type 0} (bad : Kind) (names : Row) (reading : Reading Entry Kind) where
  abbrev judge : Judge Row Kind
  judge = table_judge bad names reading

  -- behind the header the judge reads one row after another
  judged : (header : Row) (rows : List Row) (j : ℕ) → fault_at judge (header ∷ rows) (suc j) ≡ wrong_at reading [] rows j
  judged header rows j = by (slice_get rows j)
    where
      by : (o : Option Row) → judge (header ∷ take j rows) o ≡ wrong reading [] (take j rows) o
      by None = refl
      by (Some row) = refl

  -- a table has entries and no fault, or the fault of its first row with one
  abbrev Says : List Row → Given Entry Kind → Type 0
  Says rows (Ok all) = IsFaultless judge rows
  Says rows (Err fault) = (n : ℕ) × (fault.0 ≡ n + 1) × IsFirstFault judge rows n fault.1

  at_header : (header : Row) (rows : List Row) → same_fields header names ≡ true → fault_at judge (header ∷ rows) zero ≡ None
  at_header header rows same = ap (λ (b : Bool). cond b None (Some bad)) same

  under_header : (header : Row) (rows : List Row) (given : Given Entry Kind) → same_fields header names ≡ true → Tells reading 2 [] rows given → Says (header ∷ rows) given
  under_header header rows (Ok all) same none = faultless
    where
      faultless : IsFaultless judge (header ∷ rows)
      faultless zero within = at_header header rows same
      faultless (suc j) within = judged header rows j ∙ none j
  under_header header rows (Err fault) same first = (suc first.0, (let at = first.1 in omega (arith, at)), record { here = judged header rows first.0 ∙ first.2.here; within = (let in' = first.2.within in omega (arith, in')); before = before })
    where
      before : (j : ℕ) → j < suc first.0 → fault_at judge (header ∷ rows) j ≡ None
      before zero less = at_header header rows same
      before (suc j) less = judged header rows j ∙ first.2.before j (omega (arith, less))

  says : (rows : List Row) → Says rows (table_of bad names reading rows)
  says [] = (zero, omega arith, record { here = refl; within = omega arith; before = λ j less. absurd (omega (arith, less)) })
  says (header ∷ rows) = by (same_fields header names) refl
    where
      by : (b : Bool) → same_fields header names ≡ b → Says (header ∷ rows) (cond b (entries_from reading 2 [] rows) (Err (1, bad)))
      by true same = under_header header rows (entries_from reading 2 [] rows) same (tells reading 2 [] rows)
      by false other = (zero, omega arith, record { here = ap (λ (b : Bool). cond b None (Some bad)) other; within = omega arith; before = λ j less. absurd (omega (arith, less)) })

  reported : (rows : List Row) (n : ℕ) (kind : Kind) → table_of bad names reading rows ≡ Err (n + 1, kind) → IsFirstFault judge rows n kind
  reported rows n kind e =
      let it : Says rows (Err (n + 1, kind)) = subst (λ (t : Given Entry Kind). Says rows t) e (says rows) in
      let same : it.0 ≡ n = let at = it.1 in omega (arith, at) in
      subst (λ (m : ℕ). IsFirstFault judge rows m kind) same it.2

  is_reported : (rows : List Row) (n : ℕ) (kind : Kind) → IsFirstFault judge rows n kind → (t : Given Entry Kind) → Says rows t → t ≡ Err (n + 1, kind)
  is_reported rows n kind first (Ok all) none = absurd (faults_apart judge rows n kind none first)
  is_reported rows n kind first (Err fault) it =
      let one = one_first_fault judge rows it.0 n fault.1 kind it.2 first in
      let number : fault.0 ≡ n + 1 = (let at = it.1 in let same = one.0 in omega (arith, at, same)) in
      ap (λ (m : ℕ). Err (m, fault.1)) number ∙ ap (λ (k : Kind). Err (n + 1, k)) one.1

  is_read : (rows : List Row) → IsFaultless judge rows → (t : Given Entry Kind) → Says rows t → (entries : List Entry) × (t ≡ Ok entries)
  is_read rows none (Ok all) it = (all, refl)
  is_read rows none (Err fault) it = absurd (faults_apart judge rows it.0 fault.1 none it.2)

  pub reports_first : (rows : List Row) → ReportsFirst bad names reading rows
  reports_first rows = record {
    fault = λ n kind. (reported rows n kind, λ first. is_reported rows n kind first (table_of bad names reading rows) (says rows));
    read = (λ read. subst (λ (t : Given Entry Kind). Says rows t) read.1 (says rows), λ none. is_read rows none (table_of bad names reading rows) (says rows));
  }
