-- A record is read back from the row in which it is stored, and a row represents one record alone.
use Rattle.std.proofs.Common.{◌≡◌, ◌<◌, ◌^◌, ℕ, ℤ, pos, ◌∷◌, Some, refl, ap}
use Rattle.std.proofs.lemmas.Bool.{lt-ltb}
use Rattle.sqlite.specs.declared.types.Value.TheVariants.{Null, Int}
use Rattle.office_base.specs.SeatKinds.{seat_kind_number}
use Rattle.office_base.specs.StepNumbers.{step_number}
use Rattle.office_base.specs.declared.choice.Choice.{Choice}
use Rattle.office_base.specs.declared.choice.Choice.TheVariants.{Freeze}
use Rattle.office_base.specs.declared.seat.SeatKind.{SeatKind}
use Rattle.office_base.specs.declared.seat.SeatKind.TheVariants.{Kept, Under}
use Rattle.office_base.specs.declared.step.StepKind.{StepKind}
use Rattle.office_base.specs.declared.step.StepKind.TheVariants.{Open}
use Rattle.kept_rows.specs.declared.rows.AnswerRow.{AnswerRow}
use Rattle.kept_rows.specs.declared.rows.AllotRow.{AllotRow}
use Rattle.kept_rows.specs.declared.rows.RaiseRow.{RaiseRow}
use Rattle.stored_tables.specs.Numbers.{choice_number}
use Rattle.stored_tables.specs.Texts.{answer_values, raise_values, allot_values}
use Rattle.stored_tables.specs.Fits.{AnswerFits, RaiseFits, AllotFits}
use Rattle.stored_tables.specs.Rows.{number_in, choice_in, seat_kind_in, step_in, answer_of, raise_of, allot_of}
use Rattle.stored_tables.proofs.RowLemmas.{IsNumbered}

pub number_fits : (bits n : ℕ) → n < 2 ^ bits → number_in bits (Int (pos n)) ≡ Some n
number_fits bits n fits = rw (lt-ltb n (2 ^ bits) fits)

pub choice_stored : (choice : Choice) → choice_in (Int (pos (choice_number choice))) ≡ Some choice
choice_stored Freeze = refl
choice_stored choice = refl

pub step_stored : (step : StepKind) → step_in (Int (pos (step_number step))) ≡ Some step
step_stored Open = refl
step_stored step = refl

pub seat_kind_stored : (kind : SeatKind) → seat_kind_in (Int (pos (seat_kind_number kind))) ≡ Some kind
seat_kind_stored (Under Open) = refl
seat_kind_stored (Under step) = refl
seat_kind_stored Kept = refl

pub answer_stored : (row : AnswerRow) (id : ℤ) (n : ℕ) → AnswerFits row → id ≡ pos n → IsNumbered answer_of (Int id ∷ Null ∷ answer_values row) row n
answer_stored row id n fits is = record { id = ap Int is; is = rw (number_fits 16 row.window fits.window, number_fits 32 row.cand.0 fits.cand, number_fits 16 row.turn fits.turn, choice_stored row.choice) }

pub raise_stored : (row : RaiseRow) (id : ℤ) (n : ℕ) → RaiseFits row → id ≡ pos n → IsNumbered raise_of (Int id ∷ Null ∷ raise_values row) row n
raise_stored row id n fits is = record { id = ap Int is; is = rw (number_fits 16 row.window fits.window, number_fits 16 row.prog.0 fits.prog, step_stored row.step, number_fits 16 row.seats fits.seats) }

pub allot_stored : (row : AllotRow) (id : ℤ) (n : ℕ) → AllotFits row → id ≡ pos n → IsNumbered allot_of (Int id ∷ allot_values row) row n
allot_stored row id n fits is = record { id = ap Int is; is = rw (number_fits 16 row.round fits.round, number_fits 32 row.cand.0 fits.cand, number_fits 16 row.prog.0 fits.prog, seat_kind_stored row.step) }
