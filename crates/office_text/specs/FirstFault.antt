-- Which fault of some rows is the first.
use Rattle.std.specs.Prelude.{◌≡◌, ◌<◌, ◌≤◌, ◌⊎◌, ℕ, List, Option, Some, None, length, take, slice_get}

-- What is wrong with a row, given the rows before it. None in place of the row means the end of the rows.
abbrev pub Judge : Type 0 → Type 0 → Type 0
Judge Row Kind = List Row → Option Row → Option Kind

-- what is wrong with the row of this number, counted from 0; the number of rows means their end
abbrev pub fault_at : {Row Kind : Type 0} → Judge Row Kind → List Row → ℕ → Option Kind
fault_at judge rows n = judge (take n rows) (slice_get rows n)

-- The first fault of the rows is of this row and this kind.
pub record IsFirstFault {Row Kind : Type 0} (judge : Judge Row Kind) (rows : List Row) (n : ℕ) (kind : Kind) : Type 0 where
  pub here : fault_at judge rows n ≡ Some kind
  pub within : n ≤ length rows
  pub before : (m : ℕ) → m < n → fault_at judge rows m ≡ None

-- no row has a fault, and neither has their end
abbrev pub IsFaultless : {Row Kind : Type 0} → Judge Row Kind → List Row → Type 0
IsFaultless judge rows = (m : ℕ) → m ≤ length rows → fault_at judge rows m ≡ None

-- Rows have no fault, or one that is the first; never both, and never two that are the first.
pub record HaveOneAnswer {Row Kind : Type 0} (judge : Judge Row Kind) (rows : List Row) : Type 0 where
  pub some : IsFaultless judge rows ⊎ ((n : ℕ) × (kind : Kind) × IsFirstFault judge rows n kind)
  pub apart : (n : ℕ) (kind : Kind) → IsFaultless judge rows → IsFirstFault judge rows n kind → ⊥
  pub one : (m n : ℕ) (first second : Kind) → IsFirstFault judge rows m first → IsFirstFault judge rows n second → (m ≡ n) × (first ≡ second)
