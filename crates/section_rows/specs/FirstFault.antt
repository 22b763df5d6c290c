-- Which row of a table has its first fault.
use Rattle.std.specs.Prelude.{◌≡◌, ◌+◌, ◌↔◌, ℕ, List, [], ◌∷◌, ◌++◌, Option, Some, None, Result, Ok, Err, if◌then◌else◌}
use Rattle.office_text.specs.FirstFault.{IsFaultless, IsFirstFault, Judge}
use Rattle.section_rows.specs.Rows.{Row, same_fields}
use Rattle.section_rows.specs.Table.{Reading, table_of}

-- these entries, and the one that a row gives after them, if it has no fault
abbrev pub with_entry : {Entry Kind : Type 0} → List Entry → Result Entry Kind → List Entry
with_entry entries (Ok entry) = entries ++ entry ∷ []
with_entry entries (Err kind) = entries

-- these entries, and those that rows give after them; a row with a fault gives none
abbrev pub given_by : {Entry Kind : Type 0} → Reading Entry Kind → List Entry → List Row → List Entry
given_by reading entries [] = entries
given_by reading entries (row ∷ rows) = given_by reading (with_entry entries (reading entries row)) rows

-- the fault of what a row gives
abbrev pub fault_of : {Entry Kind : Type 0} → Result Entry Kind → Option Kind
fault_of (Ok entry) = None
fault_of (Err kind) = Some kind

-- What is wrong with a row of a table. The first has to be there and be the header, and each other one is read after the entries of those between.
abbrev pub table_judge : {Entry Kind : Type 0} → Kind → Row → Reading Entry Kind → Judge Row Kind
table_judge bad names reading [] None = Some bad
table_judge bad names reading [] (Some row) = if same_fields row names then None else Some bad
table_judge bad names reading (header ∷ rows) None = None
table_judge bad names reading (header ∷ rows) (Some row) = fault_of (reading (given_by reading [] rows) row)

-- The fault of a table is that of its first row with a fault, and a table has entries if and only if no row has one.
pub record ReportsFirst {Entry Kind : Type 0} (bad : Kind) (names : Row) (reading : Reading Entry Kind) (rows : List Row) : Type 0 where
  pub fault : (n : ℕ) (kind : Kind) → (table_of bad names reading rows ≡ Err (n + 1, kind)) ↔ IsFirstFault (table_judge bad names reading) rows n kind
  pub read : ((entries : List Entry) × (table_of bad names reading rows ≡ Ok entries)) ↔ IsFaultless (table_judge bad names reading) rows
