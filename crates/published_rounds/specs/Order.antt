-- The same persons, with other numbers for their places.
use Rattle.std.specs.Prelude.{◌≡◌, ◌↔◌, ℕ, List, Option, length, map}
use Rattle.office_base.specs.Merit.{is_better}
use Rattle.office_base.specs.Person.{is_common}
use Rattle.office_base.specs.declared.seat.Seat.{Seat}
use Rattle.office_base.specs.declared.person.CandId.{CandId}
use Rattle.office_base.specs.declared.person.ListId.{ListId}
use Rattle.office_base.specs.declared.person.Person.{Person}
use Rattle.office_base.specs.declared.person.ProgId.{ProgId}
use Rattle.allocations.specs.Fair.{IsBest}
use Rattle.seat_matrix.specs.Matrix.{AreSeats, SeatTable}
use Rattle.seeks.specs.declared.seek.Seek.{Seek}
use Rattle.rounds.specs.Rule.{AreEntrants, nobody, rule_of, seekers_of}

-- It gives each person other numbers in the same order, and an id by a renaming that keeps ids apart. The traits and the category stay, and in each list who is
-- common and who is better than whom. Different persons stay different.
pub record KeepsOrder (rename : CandId → CandId) (renumber : Person → Person) : Type 0 where
  pub id : (a : Person) → (renumber a).id ≡ rename a.id
  pub ids_apart : (a b : CandId) → rename a ≡ rename b → a ≡ b
  pub traits : (a : Person) → (renumber a).traits ≡ a.traits
  pub category : (a : Person) → (renumber a).category ≡ a.category
  pub common : (list : ListId) (a : Person) → is_common list (renumber a) ≡ is_common list a
  pub better : (list : ListId) (a b : Person) → is_better list (renumber a) (renumber b) ≡ is_better list a b
  pub apart : (a b : Person) → renumber a ≡ renumber b → a ≡ b

-- Only the order of the places counts. With other numbers in the same order, other ids, and the same choice lists and seeks, the best fair seats are the same, under
-- the same steps. So neither the numbers, nor the gaps between them, nor the ids matter.
abbrev pub OnlyTheOrderCounts : Type 0
OnlyTheOrderCounts = (version : ℕ) (table : SeatTable) (people : List Person) (rename : CandId → CandId) (renumber : Person → Person) (lists : List (List ProgId)) (seeks : List Seek) (seats : List (Option Seat))
    → AreSeats table → KeepsOrder rename renumber → AreEntrants table people lists → AreEntrants table (map renumber people) lists
    → IsBest (rule_of version nobody table) (length table.programmes) (seekers_of table people lists seeks) seats
    ↔ IsBest (rule_of version nobody table) (length table.programmes) (seekers_of table (map renumber people) lists seeks) seats
