-- What a matrix in the making knows of the entries so far.
use Rattle.std.specs.Prelude.{◌≡◌, ℕ, List, bytes_eq, nat_eq, option_map, position}
use Rattle.std.specs.BTreeMap as tree
use Rattle.std.specs.BTreeMap.{BTreeMap}
use Rattle.std.specs.Cmp.Lexicographic.{slice_cmp, pointwise}
use Rattle.std.specs.Ordering.{nat_cmp, ordering_then}
use Rattle.std.specs.declared.cmp.Ordering.{Ordering}
use Rattle.indexmap.specs.IndexMap as index
use Rattle.office_base.specs.declared.person.ProgId.{ProgId}
use Rattle.seat_matrix.specs.Matrix.{AreEntries, all_seats, codes_in, codes_of, home_at, seating_at}
use Rattle.seat_matrix.specs.declared.entry.Entry.{Entry}
use Rattle.seat_matrix.specs.declared.entry.Home.{Home}
use Rattle.seat_matrix.specs.declared.builder.MatrixBuilder.{MatrixBuilder}

-- by code, and then by the number of the step
abbrev pub step_cmp : List ℕ × ℕ → List ℕ × ℕ → Ordering
step_cmp a b = ordering_then (slice_cmp nat_cmp a.0 b.0) (nat_cmp a.1 b.1)

-- the number of each programme is kept under its code
abbrev pub AreNumbers : List (List ℕ × Home) → BTreeMap (List ℕ) ProgId → Type 0
AreNumbers programmes numbers = (code : List ℕ) → option_map (λ prog. prog.0) (tree.get (slice_cmp nat_cmp) numbers code) ≡ position (bytes_eq code) (codes_in programmes)

-- The maps know what the entries say.
pub record Keeps (entries : List Entry) (table : MatrixBuilder) : Type 0 where
  pub sound : AreEntries entries
  pub programmes : index.keys table.programmes ≡ codes_of entries
  pub homes : (code : List ℕ) → index.get (pointwise nat_eq) table.programmes code ≡ home_at code entries
  pub seatings : (code : List ℕ) (step : ℕ) → tree.get step_cmp table.steps (code, step) ≡ seating_at code step entries
  pub total : table.total ≡ all_seats entries
