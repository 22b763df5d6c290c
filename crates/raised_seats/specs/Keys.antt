-- The accepted raises, and their keys for a search.
use Rattle.std.specs.Prelude.{ℕ, List, map}
use Rattle.std.specs.List.Sorted.{IsPermutation, IsSorted}
use Rattle.std.specs.Ordering.{nat_cmp, ordering_then}
use Rattle.std.specs.declared.cmp.Ordering.{Ordering}
use Rattle.kept_rows.specs.declared.rows.RaiseRow.{RaiseRow}
use Rattle.office_base.specs.StepNumbers.{step_number}

-- the window, the programme, the step and the seats of a raise
abbrev pub Key : Type 0
Key = ℕ × ℕ × ℕ × ℕ

-- the key of a raise
abbrev pub key_of : RaiseRow → Key
key_of row = (row.window, row.prog.0, step_number row.step, row.seats)

-- keys are in the order of the first numbers that differ
abbrev pub key_cmp : Key → Key → Ordering
key_cmp a b = ordering_then (ordering_then (ordering_then (nat_cmp a.0 b.0) (nat_cmp a.1 b.1)) (nat_cmp a.2 b.2)) (nat_cmp a.3 b.3)

-- the keys of these raises, sorted
pub record AreSortedKeys (rows : List RaiseRow) (keys : List Key) : Type 0 where
  pub sorted : IsSorted key_cmp keys
  pub same : IsPermutation (map key_of rows) keys

-- The accepted raises in their order. `room` is how many more can be put after them without memory.
pub record Accepted : Type 0 where
  pub rows : List RaiseRow
  pub room : ℕ
