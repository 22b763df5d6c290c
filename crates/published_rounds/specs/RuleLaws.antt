-- The rule of the office next to other rules.
use Rattle.std.specs.Prelude.{◌≡◌, ◌≤◌, ◌↔◌, ℕ, List, Option, Some, length, slice_get}
use Rattle.office_base.specs.Lists.{IsAmong}
use Rattle.office_base.specs.declared.seat.Seat.{Seat}
use Rattle.office_base.specs.declared.person.Person.{Person}
use Rattle.allocations.specs.Fair.{IsBest, IsFair, IsMarket}
use Rattle.allocations.specs.Market.{Seeker, rank_of}
use Rattle.seat_matrix.specs.Matrix.{AreSeats, SeatTable}
use Rattle.rounds.specs.Round.{IsRound}
use Rattle.rounds.specs.Rule.{MayApplyIn, nobody, rule_of}
use Rattle.rounds.specs.declared.round.Round.{Round}
use Rattle.office_moves.specs.Facts.{SeasonFacts, lists_in_order}
use Rattle.office_moves.specs.Promise.{all_sought_then}
use Rattle.office_moves.specs.State.{State, seat_of}
use Rattle.office_moves.specs.declared.moves.Entry.{Entry}
use Rattle.published_rounds.specs.Published.{IsPublished, market_then, matrix_then, wanted_then}
use Rattle.published_rounds.specs.OwnSteps.{rule_of_own_steps}
use Rattle.published_rounds.specs.Procedures.{IsAlwaysBest, IsAlwaysFair, IsSafe, Procedure}

-- A rule of rounds over a matrix is fair, and nobody gains under it by another list, if and only if it gives in each market the best fair seats: those of the office
-- (Alcalde and Barberà 1994; Aygün and Turhan for choices with reserves and de-reservation).
abbrev pub FairAndSafeIsBest : Type 0
FairAndSafeIsBest = (version : ℕ) (table : SeatTable) (gives : Procedure) → AreSeats table
    → (IsAlwaysFair (rule_of version nobody table) (MayApplyIn table) (length table.programmes) gives × IsSafe (MayApplyIn table) (length table.programmes) gives)
    ↔ IsAlwaysBest (rule_of version nobody table) (MayApplyIn table) (length table.programmes) gives

-- Whatever else gives fair seats for every market over the matrix of a published round, so that nobody gains by another list, gives for this market the round's seats.
abbrev pub OnlyTheRoundIsSafe : SeasonFacts → Type 0
OnlyTheRoundIsSafe facts = (entries : List Entry) (state : State) (window : ℕ) (round : Round) (gives : Procedure) → IsPublished facts entries state window round
    → IsAlwaysFair (rule_of facts.version nobody (matrix_then facts state window)) (MayApplyIn (matrix_then facts state window)) (length (matrix_then facts state window).programmes) gives
    → IsSafe (MayApplyIn (matrix_then facts state window)) (length (matrix_then facts state window).programmes) gives → gives (market_then facts state window) ≡ round.seats

-- Version 2 hurts nobody. It de-reserves the empty seats of EWS too, and not those of OBC alone.
-- With all else the same, its best fair seats give nobody a later place of their list than any fair seats in another version. This includes members of EWS and OBC.
abbrev pub VersionTwoHurtsNobody : Type 0
VersionTwoHurtsNobody = (version : ℕ) (table : SeatTable) (seekers : List Seeker) (seats others : List (Option Seat)) (i : ℕ) (s : Seeker) (seat other : Option Seat) → AreSeats table
    → IsMarket (MayApplyIn table) (length table.programmes) seekers → IsFair (rule_of version nobody table) (length table.programmes) seekers seats
    → IsBest (rule_of 2 nobody table) (length table.programmes) seekers others → slice_get seekers i ≡ Some s → slice_get seats i ≡ Some seat → slice_get others i ≡ Some other
    → rank_of s.list other ≤ rank_of s.list seat

-- So next to a published round: the round in version 2, of the same matrix and of what the same people sought, gives nobody a seat that they sought less.
abbrev pub VersionTwoWouldHurtNobody : SeasonFacts → Type 0
VersionTwoWouldHurtNobody facts = (entries : List Entry) (state : State) (window number : ℕ) (round other : Round) (person : Person) → IsPublished facts entries state window round
    → IsRound 2 nobody (matrix_then facts state window) facts.people (lists_in_order facts) number (all_sought_then facts state window) other → IsAmong person facts.people
    → rank_of (wanted_then facts state window person.id.0) (seat_of facts (Some other) person.id.0)
    ≤ rank_of (wanted_then facts state window person.id.0) (seat_of facts (Some round) person.id.0)

-- De-reservation hurts nobody. With all else the same, the best fair seats, in either version, give nobody a later place of their list than any seats that are fair
-- without the de-reserved step.
abbrev pub DereservationHurtsNobody : Type 0
DereservationHurtsNobody = (version : ℕ) (table : SeatTable) (seekers : List Seeker) (seats others : List (Option Seat)) (i : ℕ) (s : Seeker) (seat other : Option Seat) → AreSeats table
    → IsMarket (MayApplyIn table) (length table.programmes) seekers → IsFair (rule_of_own_steps table) (length table.programmes) seekers seats
    → IsBest (rule_of version nobody table) (length table.programmes) seekers others → slice_get seekers i ≡ Some s → slice_get seats i ≡ Some seat → slice_get others i ≡ Some other
    → rank_of s.list other ≤ rank_of s.list seat

-- So next to a published round: no seats that would have been fair without the de-reserved step give anybody a seat that they sought more.
abbrev pub DereservationHurtNobody : SeasonFacts → Type 0
DereservationHurtNobody facts = (entries : List Entry) (state : State) (window : ℕ) (round : Round) (others : List (Option Seat)) (i : ℕ) (person : Person) (other : Option Seat)
    → IsPublished facts entries state window round
    → IsFair (rule_of_own_steps (matrix_then facts state window)) (length (matrix_then facts state window).programmes) (market_then facts state window) others
    → slice_get facts.people i ≡ Some person → slice_get others i ≡ Some other
    → rank_of (wanted_then facts state window person.id.0) (seat_of facts (Some round) person.id.0) ≤ rank_of (wanted_then facts state window person.id.0) other
