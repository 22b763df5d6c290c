-- What holds of rounds, over their definitions alone.
use Rattle.std.specs.Prelude.{◌≡◌, ◌≢◌, ◌<◌, ◌≤◌, ◌↔◌, ◌⊎◌, ℕ, List, Option, Some, length, map, slice_get}
use Rattle.office_base.specs.declared.seat.Seat.{Seat}
use Rattle.office_base.specs.declared.person.Person.{Person}
use Rattle.office_base.specs.declared.person.ProgId.{ProgId}
use Rattle.allocations.specs.Fair.{IsBest, IsFair, IsJustified, IsMarket, IsNextMarket}
use Rattle.allocations.specs.Market.{Seeker, place_of, rank_of}
use Rattle.allocations.specs.Compared.{SeatAlike}
use Rattle.choice_lists.specs.Choices.{AreChoices, Lists}
use Rattle.kept_seats.specs.Kept.{Guarantees, GuaranteesMore}
use Rattle.rank_lists.specs.Register.{AreRanks, Ranks}
use Rattle.rounds.specs.Round.{IsRound}
use Rattle.rounds.specs.Rule.{AreEntrants, IsRaised, MayApplyIn, rule_of, seekers_of}
use Rattle.rounds.specs.declared.round.Round.{Round}
use Rattle.seat_matrix.specs.Matrix.{AreSeats, SeatTable}
use Rattle.seeks.specs.Seek.{seek_leaves}
use Rattle.seeks.specs.declared.seek.Seek.{Seek}
use Rattle.seeks.specs.declared.seek.Seek.TheVariants.{Whole, UpTo, Within, Only, Nothing}

-- the choice lists of a season, along its register
abbrev pub lists_in : Lists → List (List ProgId)
lists_in lists = map (λ held. held.1) lists

-- the people of a season, each with a sound choice list, may enter its rounds, by its own matrix and by any other one of its programmes
abbrev pub Enter : Type 0
Enter = (ranks : Ranks) (table more : SeatTable) (lists : Lists) → AreRanks ranks → AreChoices ranks table lists
    → map (λ held. held.0) lists ≡ map (λ person. person.id.0) ranks.people → more.programmes ≡ table.programmes → AreEntrants more ranks.people (lists_in lists)

-- those who enter a round are a market, whatever each of them seeks
abbrev pub Market : Type 0
Market = (table : SeatTable) (people : List Person) (lists : List (List ProgId)) (seeks : List Seek) → AreSeats table → AreEntrants table people lists
    → IsMarket (MayApplyIn table) (length table.programmes) (seekers_of table people lists seeks)

-- Seats are fair exactly when nobody has a justified claim and each programme admits all who hold a seat of it, from
-- these alone, under the steps of their seats.
abbrev pub FairWithoutClaims : Type 0
FairWithoutClaims = (version : ℕ) (guaranteed : Guarantees) (table : SeatTable) (people : List Person) (lists : List (List ProgId)) (seeks : List Seek) (seats : List (Option Seat)) → AreSeats table
    → AreEntrants table people lists
    → IsFair (rule_of version guaranteed table) (length table.programmes) (seekers_of table people lists seeks) seats
    ↔ IsJustified (rule_of version guaranteed table) (length table.programmes) (seekers_of table people lists seeks) seats

-- the round of one number over the same matrix, people, lists and seeks is one
abbrev pub OneRound : Type 0
OneRound = (version number : ℕ) (guaranteed : Guarantees) (table : SeatTable) (people : List Person) (lists : List (List ProgId)) (seeks : List Seek) (first second : Round) → AreSeats table
    → AreEntrants table people lists → IsRound version guaranteed table people lists number seeks first → IsRound version guaranteed table people lists number seeks second → first ≡ second

-- One round gives fair seats, and so does the next one, by a matrix with no fewer seats, in which the same persons want only programmes to which they applied.
pub record AreFairInTurn (version : ℕ) (guaranteed wider : Guarantees) (table more : SeatTable) (seekers next : List Seeker) (seats others : List (Option Seat)) : Type 0 where
  pub are_sure : GuaranteesMore guaranteed wider
  pub are_seats : AreSeats table
  pub more_seats : AreSeats more
  pub raised : IsRaised table more
  pub market : IsMarket (MayApplyIn table) (length table.programmes) seekers
  pub fair : IsFair (rule_of version guaranteed table) (length table.programmes) seekers seats
  pub narrowed : IsNextMarket seekers seats next
  pub next_fair : IsFair (rule_of version wider more) (length more.programmes) next others

-- A candidate who had a seat and still wants its programme has a seat in the next round, at the same place of the
-- first list or an earlier one.
abbrev pub NobodyFalls : Type 0
NobodyFalls = (version : ℕ) (guaranteed wider : Guarantees) (table more : SeatTable) (seekers next : List Seeker) (seats others : List (Option Seat)) (i : ℕ) (before after : Seeker) (seat : Seat)
    → AreFairInTurn version guaranteed wider table more seekers next seats others → slice_get seekers i ≡ Some before → slice_get next i ≡ Some after → slice_get seats i ≡ Some (Some seat)
    → place_of after.list seat.prog.0 < length after.list
    → (other : Seat) × (slice_get others i ≡ Some (Some other)) × (place_of before.list other.prog.0 ≤ place_of before.list seat.prog.0)

-- any two fair allocations of one round leave the same persons without a seat, and fill as many seats of each programme
abbrev pub FairRoundsSeatAlike : Type 0
FairRoundsSeatAlike = (version : ℕ) (guaranteed : Guarantees) (table : SeatTable) (people : List Person) (lists : List (List ProgId)) (seeks : List Seek) (seats others : List (Option Seat)) → AreSeats table
    → AreEntrants table people lists → IsFair (rule_of version guaranteed table) (length table.programmes) (seekers_of table people lists seeks) seats
    → IsFair (rule_of version guaranteed table) (length table.programmes) (seekers_of table people lists seeks) others
    → SeatAlike (length table.programmes) (seekers_of table people lists seeks) seats others

-- As many lists and seeks, and the same ones but for the person at this place.
pub record AreOtherwise (i : ℕ) (lists told : List (List ProgId)) (seeks sought : List Seek) : Type 0 where
  pub as_many_lists : length told ≡ length lists
  pub as_many_seeks : length sought ≡ length seeks
  pub same_lists : (j : ℕ) → j ≢ i → slice_get told j ≡ slice_get lists j
  pub same_seeks : (j : ℕ) → j ≢ i → slice_get sought j ≡ slice_get seeks j

-- Whatever list and seek a person had submitted in place of their own, the round would have given no seat that is
-- better by what the person seeks.
abbrev pub TruthIsBest : Type 0
TruthIsBest = (version : ℕ) (guaranteed : Guarantees) (table : SeatTable) (people : List Person) (lists told : List (List ProgId)) (seeks sought : List Seek) (seats others : List (Option Seat)) (i : ℕ) (s : Seeker)
    (seat other : Option Seat) → AreSeats table → AreEntrants table people lists → AreEntrants table people told → AreOtherwise i lists told seeks sought
    → IsBest (rule_of version guaranteed table) (length table.programmes) (seekers_of table people lists seeks) seats
    → IsFair (rule_of version guaranteed table) (length table.programmes) (seekers_of table people told sought) others → slice_get (seekers_of table people lists seeks) i ≡ Some s
    → slice_get seats i ≡ Some seat → slice_get others i ≡ Some other → rank_of s.list seat ≤ rank_of s.list other

-- the seek leaves nothing behind this place
abbrev pub IsUpTo : ℕ → Seek → Type 0
IsUpTo k Whole = ⊥
IsUpTo k (UpTo last) = last ≤ k
IsUpTo k (Within last) = last ≤ k
IsUpTo k (Only seat) = seat ≤ k
IsUpTo k Nothing = Unit {0}

-- A candidate who seeks the list up to a place does no worse by that list than by any part of it that a seek could
-- leave: float is no worse than slide or freeze.
abbrev pub WiderIsNoWorse : Type 0
WiderIsNoWorse = (version : ℕ) (guaranteed : Guarantees) (table : SeatTable) (people : List Person) (lists : List (List ProgId)) (seeks sought : List Seek) (seats others : List (Option Seat)) (i k : ℕ)
    (list : List ProgId) (seek : Seek) (seat other : Option Seat) → AreSeats table → AreEntrants table people lists → AreOtherwise i lists lists seeks sought
    → slice_get lists i ≡ Some list → slice_get seeks i ≡ Some (UpTo k) → slice_get sought i ≡ Some seek → IsUpTo k seek
    → IsBest (rule_of version guaranteed table) (length table.programmes) (seekers_of table people lists seeks) seats
    → IsFair (rule_of version guaranteed table) (length table.programmes) (seekers_of table people lists sought) others
    → slice_get seats i ≡ Some seat → slice_get others i ≡ Some other → rank_of list seat ≤ rank_of list other

-- As many seeks, and the same ones, but for those who have left and seek nothing.
pub record SomeSeekNothing (seeks later : List Seek) : Type 0 where
  pub as_many : length later ≡ length seeks
  pub each : (i : ℕ) (seek next : Seek) → slice_get seeks i ≡ Some seek → slice_get later i ≡ Some next → (next ≡ seek) ⊎ (next ≡ Nothing)

-- Where seats were added, and some have left, nobody else does worse by the best seats than by any fair ones without that.
abbrev pub MoreSeatsHurtNobody : Type 0
MoreSeatsHurtNobody = (version : ℕ) (guaranteed wider : Guarantees) (table more : SeatTable) (people : List Person) (lists : List (List ProgId)) (seeks later : List Seek) (seats others : List (Option Seat)) (i : ℕ)
    (list : List ProgId) (seek : Seek) (seat other : Option Seat) → GuaranteesMore guaranteed wider → AreSeats table → AreSeats more → IsRaised table more → AreEntrants table people lists → SomeSeekNothing seeks later
    → slice_get lists i ≡ Some list → slice_get seeks i ≡ Some seek → slice_get later i ≡ Some seek
    → IsFair (rule_of version guaranteed table) (length table.programmes) (seekers_of table people lists seeks) seats
    → IsBest (rule_of version wider more) (length more.programmes) (seekers_of more people lists later) others → slice_get seats i ≡ Some seat → slice_get others i ≡ Some other
    → rank_of (seek_leaves table seek list) other ≤ rank_of (seek_leaves table seek list) seat
