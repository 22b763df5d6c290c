-- Two registers of the same people, compared by the order of merit alone.
use Rattle.std.specs.Prelude.{◌≡◌, ◌≢◌, ◌≤◌, ◌⊎◌, ◌↔◌, ℕ, true, List, Option, Some, IsSome, length, slice_get}
use Rattle.office_base.specs.Person.{IsBetter, is_common, number_in}
use Rattle.office_base.specs.declared.seat.Seat.{Seat}
use Rattle.office_base.specs.declared.person.Category.TheVariants.{Gen}
use Rattle.office_base.specs.declared.person.ListId.{ListId}
use Rattle.office_base.specs.declared.person.Person.{Person}
use Rattle.office_base.specs.declared.person.ProgId.{ProgId}
use Rattle.allocations.specs.Fair.{IsBest, IsFair}
use Rattle.allocations.specs.Market.{Seeker, rank_of}
use Rattle.programme_laws.specs.Laws.{HoldsEachTraitOf}
use Rattle.seat_matrix.specs.Matrix.{AreSeats, SeatTable}
use Rattle.seeks.specs.declared.seek.Seek.{Seek}
use Rattle.rounds.specs.Rule.{AreEntrants, nobody, rule_of, seekers_of}
use Rattle.rounds.specs.declared.round.Round.{Round}
use Rattle.office_moves.specs.Facts.{SeasonFacts}
use Rattle.office_moves.specs.Promise.{all_sought_then}
use Rattle.office_moves.specs.State.{State, seat_of}
use Rattle.office_moves.specs.declared.moves.Entry.{Entry}
use Rattle.published_rounds.specs.Published.{IsPublished, matrix_then, wanted_then}
use Rattle.published_rounds.specs.Numbers.{with_numbers}

-- The person without the numbers: the id, the category, the traits, and in which lists there is a common or a relaxed place.
abbrev pub without_numbers : Person → Person
without_numbers = with_numbers (λ list number. 0)

-- ---- the same order

-- Two registers have the same people, candidate by candidate, apart from the ids and the numbers. In each merit list the same one of two people is better.
pub record AreInTheSameOrder (people others : List Person) : Type 0 where
  pub full : length others ≡ length people
  pub same : (i : ℕ) (a b : Person) → slice_get people i ≡ Some a → slice_get others i ≡ Some b → without_numbers b ≡ without_numbers (record a { id = b.id })
  pub order : (list : ListId) (i j : ℕ) (a b c d : Person) → slice_get people i ≡ Some a → slice_get people j ≡ Some b → slice_get others i ≡ Some c → slice_get others j ≡ Some d
      → IsBetter list c d ↔ IsBetter list a b

-- Two registers in the same order have the same seats. With the same choice lists and seeks, their best fair seats are the same, under the same steps, whatever the
-- numbers and the ids are. So neither the numbers, nor the gaps between them, nor the ids matter.
abbrev pub TheSameOrderGivesTheSameSeats : Type 0
TheSameOrderGivesTheSameSeats = (version : ℕ) (table : SeatTable) (people others : List Person) (lists : List (List ProgId)) (seeks : List Seek) (seats : List (Option Seat)) → AreSeats table
    → AreEntrants table people lists → AreEntrants table others lists → AreInTheSameOrder people others
    → IsBest (rule_of version nobody table) (length table.programmes) (seekers_of table people lists seeks) seats
    ↔ IsBest (rule_of version nobody table) (length table.programmes) (seekers_of table others lists seeks) seats

-- ---- one person moves up

-- One person moves up in the merit lists, and all others stay in the same order, whatever the numbers are.
-- The person is still ahead of everybody whom they were ahead of, and nobody passes them. They may also have a trait more, a category in place of GEN, or a common
-- place in place of a relaxed one, but have places in the same lists.
pub record OneMovesUp (i : ℕ) (before after : Person) (people others : List Person) : Type 0 where
  pub there : slice_get people i ≡ Some before
  pub there_after : slice_get others i ≡ Some after
  pub full : length others ≡ length people
  pub rest : (j : ℕ) (a b : Person) → j ≢ i → slice_get people j ≡ Some a → slice_get others j ≡ Some b → without_numbers b ≡ without_numbers a
  pub order : (list : ListId) (j k : ℕ) (a b c d : Person) → j ≢ i → k ≢ i → slice_get people j ≡ Some a → slice_get people k ≡ Some b → slice_get others j ≡ Some c
      → slice_get others k ≡ Some d → IsBetter list c d ↔ IsBetter list a b
  pub still_ahead : (list : ListId) (j : ℕ) (a b : Person) → j ≢ i → slice_get people j ≡ Some a → slice_get others j ≡ Some b → IsBetter list before a → IsBetter list after b
  pub not_passed : (list : ListId) (j : ℕ) (a b : Person) → j ≢ i → slice_get people j ≡ Some a → slice_get others j ≡ Some b → IsBetter list b after → IsBetter list a before
  pub id : after.id ≡ before.id
  pub traits : HoldsEachTraitOf after before
  pub category : (after.category ≡ before.category) ⊎ (before.category ≡ Gen)
  pub common : (list : ListId) → is_common list before ≡ true → is_common list after ≡ true
  pub placed : (list : ListId) → IsSome (number_in list after) ↔ IsSome (number_in list before)

-- Moving up never hurts. With the same lists and the same answers of all, the best allocation gives a person who moves up no worse seat than any fair one gave before.
-- Those whom the person passes may have any later numbers, so this holds of rank lists without gaps too.
abbrev pub MovingUpNeverHurts : Type 0
MovingUpNeverHurts = (version : ℕ) (table : SeatTable) (people changed : List Person) (lists : List (List ProgId)) (seeks : List Seek) (seats others : List (Option Seat)) (i : ℕ)
    (before after : Person) (s : Seeker) (seat other : Option Seat) → AreSeats table → AreEntrants table people lists → AreEntrants table changed lists → OneMovesUp i before after people changed
    → IsFair (rule_of version nobody table) (length table.programmes) (seekers_of table people lists seeks) seats
    → IsBest (rule_of version nobody table) (length table.programmes) (seekers_of table changed lists seeks) others → slice_get (seekers_of table people lists seeks) i ≡ Some s
    → slice_get seats i ≡ Some seat → slice_get others i ≡ Some other → rank_of s.list other ≤ rank_of s.list seat

-- So in the rounds of two seasons that are the same but for the order, in which one candidate moves up: each publishes a round at this window, by the same matrix,
-- and everybody seeks the same in both. Then the candidate has no worse seat in the second season's round.
abbrev pub MovingUpNeverHurtsInARound : SeasonFacts → SeasonFacts → Type 0
MovingUpNeverHurtsInARound facts other = (entries others : List Entry) (state then : State) (window i : ℕ) (round later : Round) (before after : Person)
    → IsPublished facts entries state window round → IsPublished other others then window later → other.version ≡ facts.version → other.lists ≡ facts.lists
    → matrix_then other then window ≡ matrix_then facts state window → all_sought_then other then window ≡ all_sought_then facts state window
    → OneMovesUp i before after facts.people other.people
    → rank_of (wanted_then facts state window before.id.0) (seat_of other (Some later) after.id.0) ≤ rank_of (wanted_then facts state window before.id.0) (seat_of facts (Some round) before.id.0)
