-- What fair seats are worth, over any market of a round.
use Rattle.std.specs.Prelude.{◌≡◌, ◌<◌, ◌≤◌, ℕ, true, List, Option, Some, count_by, length, slice_get, ◌+◌}
use Rattle.office_base.specs.Person.{IsBetter}
use Rattle.office_base.specs.declared.seat.Seat.{Seat}
use Rattle.office_base.specs.declared.person.Person.{Person}
use Rattle.office_base.specs.declared.person.ProgId.{ProgId}
use Rattle.office_base.specs.declared.seat.SeatKind.TheVariants.{Under}
use Rattle.office_base.specs.declared.step.StepKind.{StepKind}
use Rattle.allocations.specs.Fair.{IsNextMarket}
use Rattle.allocations.specs.Market.{Seeker, is_of, seat_at, wants}
use Rattle.programme_laws.specs.Laws.{HoldsEachTraitOf, MayStandFor}
use Rattle.seat_matrix.specs.Matrix.{AreSeats, SeatTable, list_in, seats_in}
use Rattle.seat_matrix.specs.Seats.{HaveMoreSeats}
use Rattle.seeks.specs.declared.seek.Seek.{Seek}
use Rattle.rounds.specs.Round.{IsRound}
use Rattle.rounds.specs.Rule.{AreEntrants, nobody, seekers_of}
use Rattle.rounds.specs.declared.round.Round.{Round}
use Rattle.published_rounds.specs.Published.{AreWithin, IsThatOrEarlier}
use Rattle.published_rounds.specs.Fair.{AreFairOver, HasSeatLeft, IsDecided, newly_seated, raised_in}

-- No envy is justified. Somebody has a seat, and a better one seeks its programme, may stand for its step and holds each trait that they hold.
-- Then the better one has a seat of that programme, or of one sought more.
abbrev pub NobodyIsEnviedWhereFair : Type 0
NobodyIsEnviedWhereFair = (version : ℕ) (table : SeatTable) (seekers : List Seeker) (seats : List (Option Seat)) (prog i j : ℕ) (step : StepKind) (better worse : Seeker) (seat : Option Seat)
    → AreFairOver version table seekers seats → slice_get seekers i ≡ Some better → slice_get seats i ≡ Some seat → slice_get seekers j ≡ Some worse
    → slice_get seats j ≡ Some (Some (seat_at prog (Under step))) → wants prog better.list ≡ true → IsBetter (list_in table prog) better.person worse.person
    → MayStandFor (list_in table prog) step better.person → HoldsEachTraitOf better.person worse.person → IsThatOrEarlier better.list prog seat

-- where nobody is guaranteed a seat, each seat is under a step
abbrev pub NobodyIsKeptWhereFair : Type 0
NobodyIsKeptWhereFair = (version : ℕ) (table : SeatTable) (seekers : List Seeker) (seats : List (Option Seat)) (i : ℕ) (s : Seeker) (seat : Seat)
    → AreFairOver version table seekers seats → slice_get seekers i ≡ Some s → slice_get seats i ≡ Some (Some seat) → (step : StepKind) × (seat.step ≡ Under step)

-- no step of a programme gives more seats than it has
abbrev pub SeatsAreWithinWhereFair : Type 0
SeatsAreWithinWhereFair = (version : ℕ) (table : SeatTable) (seekers : List Seeker) (seats : List (Option Seat)) (prog : ℕ)
    → AreFairOver version table seekers seats → prog < length table.programmes → AreWithin version table prog seats

-- No seat is wasted. A step of a programme has a seat left, and somebody seeks the programme and may stand for the step.
-- Then they have a seat of that programme, or of one sought more. This holds of all steps.
abbrev pub NoSeatIsWasted : Type 0
NoSeatIsWasted = (version : ℕ) (table : SeatTable) (seekers : List Seeker) (seats : List (Option Seat)) (prog i : ℕ) (step : StepKind) (s : Seeker) (seat : Option Seat)
    → AreFairOver version table seekers seats → HasSeatLeft version table prog seats step → slice_get seekers i ≡ Some s → slice_get seats i ≡ Some seat
    → wants prog s.list ≡ true → MayStandFor (list_in table prog) step s.person → IsThatOrEarlier s.list prog seat

-- Closing places decide: each seeker has a seat of the first programme that is open to them, and none if and only if none is.
abbrev pub ClosingPlacesDecide : Type 0
ClosingPlacesDecide = (version : ℕ) (table : SeatTable) (seekers : List Seeker) (seats : List (Option Seat)) (i : ℕ) (s : Seeker) (seat : Option Seat)
    → AreFairOver version table seekers seats → slice_get seekers i ≡ Some s → slice_get seats i ≡ Some seat → IsDecided table seekers seats s seat

-- No vacancy fills by itself. After fair seats everybody wants only programmes to which they applied, and there are fair seats again.
-- A programme with the same seats then has no more holders than before. So no more people gain a seat of it than have left one.
abbrev pub NoVacancyFillsByItself : Type 0
NoVacancyFillsByItself = (version : ℕ) (table more : SeatTable) (seekers next : List Seeker) (seats others : List (Option Seat)) (prog : ℕ) → AreFairOver version table seekers seats
    → AreFairOver version more next others → IsNextMarket seekers seats next → prog < length table.programmes → prog < length more.programmes
    → seats_in more prog ≡ seats_in table prog → count_by (is_of prog) others ≤ count_by (is_of prog) seats

-- And raises bring no more holders than seats. The same, where the steps of the programme have no fewer seats than before, for the same protections.
-- Then it has at most as many holders more as it has seats more.
abbrev pub FewNewHolders : Type 0
FewNewHolders = (version : ℕ) (table more : SeatTable) (seekers next : List Seeker) (seats others : List (Option Seat)) (prog : ℕ) → AreFairOver version table seekers seats
    → AreFairOver version more next others → IsNextMarket seekers seats next → prog < length table.programmes → prog < length more.programmes
    → HaveMoreSeats (seats_in table prog) (seats_in more prog) → count_by (is_of prog) others ≤ count_by (is_of prog) seats + raised_in table more prog

-- So the newly seated are never more than those who lost a seat, and the seats raised.
abbrev pub FewNewlySeated : Type 0
FewNewlySeated = (version : ℕ) (table more : SeatTable) (seekers next : List Seeker) (seats others : List (Option Seat)) (prog : ℕ) → AreFairOver version table seekers seats
    → AreFairOver version more next others → IsNextMarket seekers seats next → prog < length table.programmes → prog < length more.programmes
    → HaveMoreSeats (seats_in table prog) (seats_in more prog) → newly_seated prog seats others ≤ newly_seated prog others seats + raised_in table more prog

-- Every round over a matrix has fair seats, so all of these hold of it: of a round of a season, and of the special round too.
abbrev pub RoundsAreFair : Type 0
RoundsAreFair = (version : ℕ) (table : SeatTable) (people : List Person) (lists : List (List ProgId)) (n : ℕ) (seeks : List Seek) (round : Round) → AreSeats table
    → AreEntrants table people lists → IsRound version nobody table people lists n seeks round → AreFairOver version table (seekers_of table people lists seeks) round.seats
