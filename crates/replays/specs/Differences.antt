-- Where two lists of seats differ first.
use Rattle.std.specs.Prelude.{◌≡◌, ◌<◌, ℕ, List, Option, Some, None, length, slice_get}
use Rattle.std.specs.Option.{option_and_then}
use Rattle.office_base.specs.Person.{at_person}
use Rattle.office_base.specs.declared.seat.Seat.{Seat}
use Rattle.office_base.specs.declared.person.Person.{Person}
use Rattle.kept_rows.specs.declared.rows.AllotRow.{AllotRow}
use Rattle.rank_lists.specs.Register.{row_of}
use Rattle.office_moves.specs.Stands.{first_allot}
use Rattle.replays.specs.declared.compare.Difference.{Difference}

-- this id is the smallest of which the two say other things
pub record IsFirstApart (first second : ℕ → Option Seat) (id : ℕ) (kept computed : Option Seat) : Type 0 where
  pub found : first id ≡ kept
  pub made : second id ≡ computed
  pub apart : kept ≡ computed → ⊥
  pub before : (lower : ℕ) → lower < id → first lower ≡ second lower

-- Of no id the two say other things, or this is the smallest one of which they do.
abbrev pub IsComparison : (ℕ → Option Seat) → (ℕ → Option Seat) → Option Difference → Type 0
IsComparison first second None = (id : ℕ) → first id ≡ second id
IsComparison first second (Some found) = IsFirstApart first second found.cand.0 found.kept found.computed

-- what a list of seats along the people has for the person of an id: nobody else has a seat
abbrev pub seat_along : List Person → List (Option Seat) → ℕ → Option Seat
seat_along people seats id = option_and_then (λ seat. seat) (at_person id people seats)

-- the first seat, where there is one, else the second
abbrev pub seat_or : Option Seat → Option Seat → Option Seat
seat_or None other = other
seat_or (Some seat) other = Some seat

-- Each of the people has the first seat of some rows of a round, once the rest of them are looked through.
pub record AreFound (number : ℕ) (people : List Person) (rows rest : List AllotRow) (found : List (Option Seat)) : Type 0 where
  pub full : length found ≡ length people
  pub first : (at : ℕ) (person : Person) (seat : Option Seat) → slice_get people at ≡ Some person → slice_get found at ≡ Some seat
      → seat_or seat (first_allot number person.id.0 rest) ≡ first_allot number person.id.0 rows

-- the first place at which two lists of seats differ, or none
abbrev pub IsFirstPlace : List (Option Seat) → List (Option Seat) → Option ℕ → Type 0
IsFirstPlace first second None = (at : ℕ) → at < length first → slice_get first at ≡ slice_get second at
IsFirstPlace first second (Some at) = (at < length first) × (slice_get first at ≡ slice_get second at → ⊥) × ((lower : ℕ) → lower < at → slice_get first lower ≡ slice_get second lower)

-- the id is none of the people's
abbrev pub IsOfNobody : List Person → ℕ → Type 0
IsOfNobody people id = row_of id people ≡ None

-- the id is one of the people's
abbrev pub IsOfPeople : List Person → ℕ → Type 0
IsOfPeople people id = IsOfNobody people id → ⊥

-- Of none of these ids the two say other things, or this is the smallest one of which they do.
abbrev pub IsComparisonOf : (ℕ → Type 0) → (ℕ → Option Seat) → (ℕ → Option Seat) → Option Difference → Type 0
IsComparisonOf those first second None = (id : ℕ) → those id → first id ≡ second id
IsComparisonOf those first second (Some found) = those found.cand.0 × (first found.cand.0 ≡ found.kept) × (second found.cand.0 ≡ found.computed)
    × (found.kept ≡ found.computed → ⊥) × ((id : ℕ) → id < found.cand.0 → those id → first id ≡ second id)

-- Of the ids that are none of the people's, this row's is the smallest that has a row of the round in a list; and it is the first row there. Or no such id has one. The
-- rest of the rows are not looked through yet.
abbrev pub IsStranger : ℕ → List Person → List AllotRow → List AllotRow → Option AllotRow → Type 0
IsStranger number people rows rest None = (id : ℕ) → IsOfNobody people id → first_allot number id rows ≡ first_allot number id rest
IsStranger number people rows rest (Some row) = IsOfNobody people row.cand.0 × (first_allot number row.cand.0 rows ≡ Some (record { prog = row.prog; step = row.step }))
    × ((id : ℕ) → id < row.cand.0 → IsOfNobody people id → first_allot number id rows ≡ first_allot number id rest)
