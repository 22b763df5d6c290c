-- What holds of final rows and of the seats that they leave.
use Rattle.std.specs.Prelude.{◌≡◌, ◌≢◌, ◌<◌, ◌≤◌, ◌+◌, ◌-◌, ◌⊎◌, ℕ, false, List, Some, length, sum_by, if◌then◌else◌}
use Rattle.office_base.specs.CategorySteps.{category_steps}
use Rattle.office_base.specs.declared.person.Person.{Person}
use Rattle.office_base.specs.declared.person.ProgId.{ProgId}
use Rattle.office_base.specs.declared.step.StepKind.{StepKind}
use Rattle.office_base.specs.declared.step.StepKind.TheVariants.{Dereserved}
use Rattle.kept_rows.specs.declared.rows.AllotRow.{AllotRow}
use Rattle.seat_matrix.specs.Matrix.{AreSeats, SeatTable, seating_in, steps_in}
use Rattle.seat_matrix.specs.Seats.{is_dereserved}
use Rattle.seeks.specs.declared.seek.Seek.{Seek}
use Rattle.rounds.specs.Round.{IsRound}
use Rattle.rounds.specs.Rule.{AreEntrants, nobody}
use Rattle.rounds.specs.declared.round.Round.{Round}
use Rattle.office_moves.specs.Facts.{IsSound, SeasonFacts}
use Rattle.office_moves.specs.Raised.{matrix_at, seats_in_all}
use Rattle.office_moves.specs.State.{State}
use Rattle.history_laws.specs.Orderly.{IsOrderly}
use Rattle.special_round.specs.Remaining.{AreFinals, IsRemaining, may_be_taken}
use Rattle.season_file.specs.declared.season.Season.{Season}
use Rattle.special_round.specs.Season.{IsRemainingSeason, IsSpecialFault, MayBeHeld}
use Rattle.special_round.specs.declared.fault.SpecialFault.{SpecialFault}
use Rattle.special_round.specs.declared.fault.SpecialFault.TheVariants.{OutOfMemory}
use Rattle.special_round.specs.Rows.{rows_in, rows_of_step, seats_held, seats_of_step}

-- So many of each step fit into the seats of a programme: each step has its own seats, and the de-reserved one those that the categories left whose seats
-- may be taken, OBC and EWS.
pub record FitInto (table : SeatTable) (prog : ℕ) (held : StepKind → ℕ) : Type 0 where
  pub own : (step : StepKind) → is_dereserved step ≡ false → held step ≤ (seating_in table prog step).seats
  pub dereserved : held Dereserved ≤ sum_by (λ row. if may_be_taken row then (seating_in table prog row.step).seats - held row.step else 0) category_steps

-- A round gives no more seats of a programme than there are, step by step.
abbrev pub RoundsFit : Type 0
RoundsFit = (version number : ℕ) (table : SeatTable) (people : List Person) (lists : List (List ProgId)) (seeks : List Seek) (round : Round) (prog : ℕ)
    → AreSeats table → AreEntrants table people lists → IsRound version nobody table people lists number seeks round → prog < length table.programmes
    → FitInto table prog (seats_of_step round.seats prog)

-- The final rows of a season fit into the raised matrix.
abbrev pub FinalsFit : Type 0
FinalsFit = (facts : SeasonFacts) (state : State) (rows : List AllotRow) (prog : ℕ) → IsSound facts → IsOrderly facts state → state.finals ≡ Some rows
    → prog < length facts.matrix.programmes → FitInto (matrix_at facts state) prog (rows_of_step rows prog)

-- They are of people in rising order of id, at programmes in whose merit lists these have a place.
abbrev pub FinalsAreKnown : Type 0
FinalsAreKnown = (facts : SeasonFacts) (state : State) (rows : List AllotRow) → IsSound facts → IsOrderly facts state → state.finals ≡ Some rows
    → AreFinals facts.people (matrix_at facts state) rows

-- Where rows fit into a matrix, they and all seats of a round over what they left are together no more than the seats of the programme.
abbrev pub TogetherWithin : Type 0
TogetherWithin = (version number : ℕ) (table left : SeatTable) (people : List Person) (lists : List (List ProgId)) (seeks : List Seek) (rows : List AllotRow) (round : Round) (prog : ℕ)
    → AreSeats left → IsRemaining people rows table left → FitInto table prog (rows_of_step rows prog) → AreEntrants left people lists
    → IsRound version nobody left people lists number seeks round → prog < length table.programmes
    → rows_in rows prog + seats_held round.seats prog ≤ seats_in_all (steps_in table prog)

-- Over the tables of an office, lists may be handed in or have a fault that is no want of memory, never both, and one fault alone.
pub record HaveOneAnswer (facts : SeasonFacts) (state : State) (body : List ℕ) : Type 0 where
  pub some : MayBeHeld facts state body ⊎ ((fault : SpecialFault) × IsSpecialFault facts state body fault × (fault ≢ OutOfMemory))
  pub apart : (fault : SpecialFault) → MayBeHeld facts state body → IsSpecialFault facts state body fault → fault ≡ OutOfMemory
  pub one : (fault other : SpecialFault) → IsSpecialFault facts state body fault → IsSpecialFault facts state body other → fault ≢ OutOfMemory → other ≢ OutOfMemory → fault ≡ other
  pub held : (season : Season) → IsRemainingSeason facts state body season → MayBeHeld facts state body
