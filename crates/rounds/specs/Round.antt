-- What a round is.
use Rattle.std.specs.Prelude.{◌≡◌, ◌+◌, ℕ, List, [], ◌∷◌, Option, Some, None, length, slice_get}
use Rattle.office_base.specs.declared.seat.Seat.{Seat}
use Rattle.office_base.specs.declared.person.Person.{Person}
use Rattle.office_base.specs.declared.person.ProgId.{ProgId}
use Rattle.allocations.specs.Fair.{IsBest}
use Rattle.allocations.specs.Market.{applicants}
use Rattle.kept_seats.specs.Kept.{Guarantees}
use Rattle.seat_matrix.specs.Matrix.{SeatTable, seats_in}
use Rattle.programme_lists.specs.Chosen.{ShowsFrom}
use Rattle.programme_lists.specs.declared.programme.Programme.{Programme}
use Rattle.seeks.specs.declared.seek.Seek.{Seek}
use Rattle.rounds.specs.Rule.{rule_of, seekers_of}
use Rattle.rounds.specs.declared.round.Round.{Round}

-- how many of the persons have a seat
abbrev pub seated : List (Option Seat) → ℕ
seated [] = 0
seated (None ∷ seats) = seated seats
seated (Some seat ∷ seats) = seated seats + 1

-- A round over this matrix, on what the seeks leave of the choice lists: the best allocation, with the lists of each programme from its applicants.
pub record IsRound (version : ℕ) (guaranteed : Guarantees) (table : SeatTable) (people : List Person) (lists : List (List ProgId)) (n : ℕ) (seeks : List Seek) (round : Round) : Type 0 where
  pub number : round.number ≡ n
  pub sought : round.seeks ≡ seeks
  pub best : IsBest (rule_of version guaranteed table) (length table.programmes) (seekers_of table people lists seeks) round.seats
  pub count : length round.programmes ≡ length table.programmes
  pub shown : (p : ℕ) (programme : Programme) → slice_get round.programmes p ≡ Some programme
      → ShowsFrom version (seats_in table p) (applicants p (seekers_of table people lists seeks) round.seats) programme
