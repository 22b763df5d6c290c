-- The published papers of a season, apart from the season and its script.
use Rattle.std.specs.Prelude.{◌≡◌, ◌+◌, ◌*◌, ℕ, ◌==◌, List, [], ◌∷◌, Option, Some, None, length, map, take, drop, slice_get, if◌then◌else◌}
use Rattle.std.specs.Option.{unwrap_or}
use Rattle.office_base.specs.declared.seat.Seat.{Seat}
use Rattle.office_base.specs.declared.person.Person.{Person}
use Rattle.kept_rows.specs.declared.rows.AllotRow.{AllotRow}
use Rattle.programme_lists.specs.declared.programme.Programme.{Programme}

-- The rows of each round's text, in the order of the rounds; the lists of all programmes for one round after another; and the final rows, where there is a
-- text of them.
pub record Papers : Type 0 where
  pub rounds : List (List AllotRow)
  pub lists : List Programme
  pub finals : Option (List AllotRow)

-- the rows of the round that follows so many; none where no text tells of it
abbrev pub rows_after : Papers → ℕ → List AllotRow
rows_after papers now = unwrap_or (slice_get papers.rounds now) []

-- its lists, one for each of so many programmes
abbrev pub lists_after : Papers → ℕ → ℕ → List Programme
lists_after papers count now = take count (drop (now * count) papers.lists)

-- the seat that rows give to the candidate of this id: the first row of it tells
abbrev pub seat_told : List AllotRow → ℕ → Option Seat
seat_told [] id = None
seat_told (row ∷ rows) id = if row.cand.0 == id then Some (record { prog = row.prog; step = row.step }) else seat_told rows id

-- the seats that rows give, along the people
abbrev pub seats_told : List AllotRow → List Person → List (Option Seat)
seats_told rows people = map (λ person. seat_told rows person.id.0) people
