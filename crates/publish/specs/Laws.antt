-- That rounds and final admissions are read back as they were written.
use Rattle.std.specs.Prelude.{◌≡◌, ◌≢◌, ◌<◌, ◌^◌, ℕ, List, [], ◌∷◌, ◌++◌, Option, Some, None, length}
use Rattle.kept_rows.specs.declared.rows.AllotRow.{AllotRow}
use Rattle.office_base.specs.Lists.{Pairwise}
use Rattle.office_base.specs.declared.seat.Seat.{Seat}
use Rattle.office_base.specs.declared.person.CandId.{CandId}
use Rattle.office_base.specs.declared.person.Person.{Person}
use Rattle.published_texts.specs.Texts.{AreSeatsOf, final_text, round_text}
use Rattle.rounds.specs.declared.round.Round.{Round}
use Rattle.seat_matrix.specs.Matrix.{SeatTable, codes_in}
use Rattle.text_readers.specs.Parts.{AreSmall, AreSpelled}
use Rattle.publish.specs.Rows.{AreRows, IsFinalText, IsRoundText}
use Rattle.publish.specs.declared.reads.FinalRead.{FinalRead}
use Rattle.publish.specs.declared.reads.RoundRead.{RoundRead}

-- the row of a candidate who has a seat, and none for one who has none
abbrev pub row_of : ℕ → CandId → Option Seat → List AllotRow
row_of number id None = []
row_of number id (Some seat) = record { round = number; cand = id; prog = seat.prog; step = seat.step } ∷ []

-- the rows of the people who have a seat, in their order
abbrev pub rows_of : ℕ → List Person → List (Option Seat) → List AllotRow
rows_of number [] seats = []
rows_of number (person ∷ people) [] = []
rows_of number (person ∷ people) (seat ∷ seats) = row_of number person.id seat ++ rows_of number people seats

-- the text of a round is one that is read, as the number of the round and the rows of its seats
abbrev pub RoundsAreRead : Type 0
RoundsAreRead = (table : SeatTable) (people : List Person) (round : Round) → length round.seats ≡ length people → AreSeatsOf table round.seats → round.number < 2 ^ 16
    → IsRoundText table people (round_text table people round) (record { round = round.number; rows = rows_of round.number people round.seats })

-- the text of final admissions is one that is read, as the admissions
abbrev pub FinalsAreRead : Type 0
FinalsAreRead = (table : SeatTable) (people : List Person) (number : ℕ) (rows : List AllotRow) → AreRows table people number rows → IsFinalText table people number (final_text table rows) (record { rows = rows })

-- The codes are spelled and distinct, and neither the ids nor the people are too many.
pub record AreDistinct (table : SeatTable) (people : List Person) : Type 0 where
  pub spelled : AreSpelled table
  pub codes : Pairwise (λ a b. a ≢ b) (codes_in table.programmes)
  pub small : AreSmall people
  pub few : length people < 2 ^ 31

-- a text is that of one round
abbrev pub RoundsAreOne : Type 0
RoundsAreOne = (table : SeatTable) (people : List Person) (text : List ℕ) (a b : RoundRead) → AreDistinct table people → IsRoundText table people text a → IsRoundText table people text b
    → (a.round ≡ b.round) × (a.rows ≡ b.rows)

-- a text is that of one list of final admissions
abbrev pub FinalsAreOne : Type 0
FinalsAreOne = (table : SeatTable) (people : List Person) (number : ℕ) (text : List ℕ) (a b : FinalRead) → number < 2 ^ 16 → AreDistinct table people → IsFinalText table people number text a → IsFinalText table people number text b → a.rows ≡ b.rows
