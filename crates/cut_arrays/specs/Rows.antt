-- The rows of seats, along the people.
use Rattle.std.specs.Prelude.{ℕ, List, [], ◌∷◌, Option, None, map, option_map, if◌then◌else◌}
use Rattle.office_base.specs.declared.seat.Seat.{Seat}
use Rattle.office_base.specs.declared.person.Person.{Person}
use Rattle.office_base.specs.declared.person.ProgId.{ProgId}
use Rattle.kept_rows.specs.declared.rows.AllotRow.{AllotRow}
use Rattle.round_options.specs.Options.{holds}
use Rattle.round_options.specs.declared.standing.Standing.{Standing}
use Rattle.office_moves.specs.Moves.{row_before}

-- the rows of a round of this number, one for each of the people who has a seat
abbrev pub rows_of_seats : ℕ → List Person → List (Option Seat) → List AllotRow
rows_of_seats number [] seats = []
rows_of_seats number (person ∷ people) [] = []
rows_of_seats number (person ∷ people) (seat ∷ seats) = row_before number person.id seat (rows_of_seats number people seats)

-- the seat, where the standing keeps it
abbrev pub kept_seat : Standing → Option Seat → Option Seat
kept_seat standing seat = if holds standing then seat else None

-- the seats of those who keep them
abbrev pub kept_seats : List Standing → List (Option Seat) → List (Option Seat)
kept_seats [] seats = []
kept_seats (standing ∷ all) [] = []
kept_seats (standing ∷ all) (seat ∷ seats) = kept_seat standing seat ∷ kept_seats all seats

-- the programmes of some seats
abbrev pub programmes_of : List (Option Seat) → List (Option ProgId)
programmes_of seats = map (λ seat. option_map (λ held. held.prog) seat) seats
