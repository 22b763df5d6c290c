-- That rows give one matrix, which is sound, or have one fault, and what a matrix with other seats in one step is.
use Rattle.std.specs.Prelude.{◌≡◌, ◌<◌, ◌⊎◌, ℕ, List, false, true, length}
use Rattle.std.specs.List.{AllByRecursion}
use Rattle.office_base.specs.Codes.{is_code}
use Rattle.section_rows.specs.Rows.{Row}
use Rattle.section_rows.specs.declared.fault.TableFault.TheVariants.{Bad}
use Rattle.office_base.specs.declared.step.StepKind.{StepKind}
use Rattle.seat_matrix.specs.Matrix.{AreSeats, HasSeating, IsFault, IsRead, SeatTable, codes_in, matrix_with}
use Rattle.seat_matrix.specs.Seats.{is_dereserved}
use Rattle.seat_matrix.specs.declared.fault.MatrixKind.{MatrixKind}
use Rattle.seat_matrix.specs.declared.seats.Seating.{Seating}

-- each code is spelled as codes are
abbrev pub AreCodes : List (List ℕ) → Type 0
AreCodes codes = AllByRecursion (λ code. is_code code ≡ true) codes

-- Rows give a matrix, which is sound and whose codes are spelled as codes are, or have a fault; never both, and never two that differ.
pub record HaveOneReading (rows : List Row) : Type 0 where
  pub some : ((table : SeatTable) × IsRead rows table) ⊎ ((row : ℕ) × (kind : MatrixKind) × IsFault rows (Bad row kind))
  pub apart : (table : SeatTable) (row : ℕ) (kind : MatrixKind) → IsRead rows table → IsFault rows (Bad row kind) → ⊥
  pub sound : (table : SeatTable) → IsRead rows table → AreSeats table
  pub spelled : (table : SeatTable) → IsRead rows table → AreCodes (codes_in table.programmes)
  pub one_value : (table other : SeatTable) → IsRead rows table → IsRead rows other → table ≡ other
  pub one_fault : (row other : ℕ) (kind next : MatrixKind) → IsFault rows (Bad row kind) → IsFault rows (Bad other next) → (row ≡ other) × (kind ≡ next)

-- a matrix with other seats in one step has them there, and is as before elsewhere
abbrev pub OneStepChanges : Type 0
OneStepChanges = (table : SeatTable) (prog : ℕ) (step : StepKind) (seating : Seating) → prog < length table.steps → is_dereserved step ≡ false
    → HasSeating table prog step seating (matrix_with table prog step seating)
