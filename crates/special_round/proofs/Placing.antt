-- What holds of the final rows of an office holds for the season and the matrix that it shows.
use Rattle.std.proofs.Common.{◌≡◌, ◌<◌, ℕ, List, Some, length, sym, subst}
use Rattle.kept_rows.specs.declared.rows.AllotRow.{AllotRow}
use Rattle.season_file.specs.declared.season.Season.{Season}
use Rattle.seat_matrix.specs.Matrix.{SeatTable}
use Rattle.office_moves.specs.Facts.{IsSound, SeasonFacts}
use Rattle.office_moves.specs.Raised.{matrix_at}
use Rattle.season_facts.specs.Season.{facts_of}
use Rattle.office_moves.specs.State.{State}
use Rattle.history_laws.specs.Orderly.{IsOrderly}
use Rattle.special_round.specs.Laws.{FinalsAreKnown, FinalsFit, FitInto}
use Rattle.special_round.specs.Remaining.{AreFinals}
use Rattle.special_round.specs.Rows.{rows_of_step}

pub known_there : (facts : SeasonFacts) (season : Season) (table : SeatTable) (state : State) (rows : List AllotRow) → FinalsAreKnown → IsSound facts → IsOrderly facts state
    → state.finals ≡ Some rows → facts_of season ≡ facts → table ≡ matrix_at facts state → AreFinals season.register.people table rows
known_there facts season table state rows law sound orderly final same there =
    subst (λ (f : SeasonFacts). AreFinals f.people table rows) (sym same)
    (subst (λ (t : SeatTable). AreFinals facts.people t rows) (sym there) (law facts state rows sound orderly final))

pub fit_there : (facts : SeasonFacts) (season : Season) (table : SeatTable) (state : State) (rows : List AllotRow) → FinalsFit → IsSound facts → IsOrderly facts state
    → state.finals ≡ Some rows → facts_of season ≡ facts → table ≡ matrix_at facts state → (prog : ℕ) → prog < length season.matrix.programmes
    → FitInto table prog (rows_of_step rows prog)
fit_there facts season table state rows law sound orderly final same there = λ prog below.
    subst (λ (t : SeatTable). FitInto t prog (rows_of_step rows prog)) (sym there)
    (law facts state rows prog sound orderly final (subst (λ (f : SeasonFacts). prog < length f.matrix.programmes) same below))
