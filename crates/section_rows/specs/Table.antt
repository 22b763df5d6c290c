-- A table: a header row, and then rows of which each gives an entry or a fault, after the entries of the rows before it.
use Rattle.std.specs.Prelude.{◌≡◌, ◌+◌, ℕ, List, [], ◌∷◌, ◌++◌, Option, Some, None, Result, Ok, Err, if◌then◌else◌}
use Rattle.section_rows.specs.Rows.{Row, same_fields}
use Rattle.section_rows.specs.declared.fault.TableFault.{TableFault}
use Rattle.section_rows.specs.declared.fault.TableFault.TheVariants.{Bad, OutOfMemory}

-- what a row gives, after these entries
abbrev pub Reading : Type 0 → Type 0 → Type 0
Reading Entry Kind = List Entry → Row → Result Entry Kind

-- what a table gives: its entries, or the number of the first row with a fault, and the fault
abbrev pub Given : Type 0 → Type 0 → Type 0
Given Entry Kind = Result (List Entry) (ℕ × Kind)

-- what follows an entry, or the fault of the row of this number
abbrev pub then_read : {Entry Kind : Type 0} → ℕ → Result Entry Kind → (Entry → Given Entry Kind) → Given Entry Kind
then_read number (Ok entry) rest = rest entry
then_read number (Err kind) rest = Err (number, kind)

-- what rows give after these entries, the first of them with this number
abbrev pub entries_from : {Entry Kind : Type 0} → Reading Entry Kind → ℕ → List Entry → List Row → Given Entry Kind
entries_from reading number entries [] = Ok entries
entries_from reading number entries (row ∷ rows) = then_read number (reading entries row) (λ entry. entries_from reading (number + 1) (entries ++ entry ∷ []) rows)

-- What a table gives. Its first row is to be the header.
abbrev pub table_of : {Entry Kind : Type 0} → Kind → Row → Reading Entry Kind → List Row → Given Entry Kind
table_of bad names reading [] = Err (1, bad)
table_of bad names reading (row ∷ rows) = if same_fields row names then entries_from reading 2 [] rows else Err (1, bad)

-- the fault of a table; `OutOfMemory` says nothing of it
abbrev pub IsTableFault : {Entry Kind : Type 0} → Given Entry Kind → TableFault Kind → Type 0
IsTableFault table (Bad row kind) = table ≡ Err (row, kind)
IsTableFault table OutOfMemory = Unit {0}

-- a row gave an entry, which is kept after these, or it has this fault
abbrev pub IsPut : {Entry Kind : Type 0} → Result Entry Kind → List Entry → (List Entry → Type 0) → Option Kind → Type 0
IsPut {Entry} given entries kept None = (entry : Entry) × (given ≡ Ok entry) × kept (entries ++ entry ∷ [])
IsPut given entries kept (Some kind) = given ≡ Err kind
