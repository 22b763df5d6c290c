-- A course whose windows, answers and raises fit together is in order.
use Rattle.std.proofs.Common.{◌≡◌, ◌⊎◌, inl, inr, suc, length, arith, sym, subst}
use Rattle.std.proofs.lemmas.Bool.{cases_lt}
use Rattle.seat_matrix.specs.Matrix.{AreSeats, SeatTable}
use Rattle.rounds.specs.Rule.{ProgrammesChooseWell, ProgrammesGrow, StepsChooseWell}
use Rattle.office_moves.specs.Facts.{IsSound, SeasonFacts}
use Rattle.office_moves.specs.State.{State}
use Rattle.office_moves.specs.Raised.{matrix_at, matrix_of_round}
use Rattle.history_laws.specs.Course.{IsCourse}
use Rattle.history_laws.specs.Laws.{IsInTime}
use Rattle.history_laws.specs.Orderly.{AreAnswers, IsOrderly}
use Rattle.history_laws.proofs.Alone.{made_alone, next_is_alone}
use Rattle.history_laws.proofs.Word.{entries_full, keeps_its_word, seated_now, seeks_now_fit}

-- the last cut published a round, or it was the last cut of the season
one_more : (facts : SeasonFacts) (state : State) → IsCourse facts state → IsInTime facts state → (state.now ≡ length state.rounds) ⊎ (state.now ≡ suc (length state.rounds))
one_more facts state course windows = elim (cases_lt facts.rounds state.now) [
  | inl over ↦ let all = (windows.finished over).0 in let most = windows.now in inr (omega (arith, all, most, over))
  | inr open_yet ↦ inl (sym (course.order open_yet))
]

-- What holds of a course, with all that is read off it.
pub in_order : (facts : SeasonFacts) (state : State) → IsSound facts → ProgrammesChooseWell → ProgrammesGrow → StepsChooseWell → IsCourse facts state → AreAnswers facts state → IsInTime facts state
    → matrix_at facts state ≡ matrix_of_round facts state (suc state.now) → IsOrderly facts state
in_order facts state sound well grow steps course answers windows matrix = record {
  course = course;
  word = keeps_its_word facts state sound well grow steps course;
  alone = made_alone facts state sound well grow steps course;
  next_alone = next_is_alone facts state sound well grow steps course matrix;
  answers = answers;
  now = windows.now;
  unfinished = windows.unfinished;
  finished = windows.finished;
  seated = seated_now facts state sound well grow course (one_more facts state course windows);
  seeks = seeks_now_fit facts state sound course;
  entries = λ before round is. entries_full facts state before round sound course is;
  matrix = matrix;
  seats = subst (λ (table : SeatTable). AreSeats table) (sym matrix) (course.seats (suc state.now));
  programmes = subst (λ (table : SeatTable). table.programmes ≡ facts.matrix.programmes) (sym matrix) (course.programmes (suc state.now));
}
