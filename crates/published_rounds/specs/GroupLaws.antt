-- No group of candidates can all gain by other lists.
use Rattle.std.specs.Prelude.{◌≡◌, ◌<◌, ℕ, Bool, true, false, List, Option, Some, length, slice_get}
use Rattle.office_base.specs.declared.seat.Seat.{Seat}
use Rattle.office_base.specs.declared.person.Person.{Person}
use Rattle.office_base.specs.declared.person.ProgId.{ProgId}
use Rattle.allocations.specs.Fair.{IsFair}
use Rattle.allocations.specs.Market.{rank_of}
use Rattle.seat_matrix.specs.Matrix.{AreSeats, SeatTable}
use Rattle.seeks.specs.declared.seek.Seek.{Seek}
use Rattle.rounds.specs.Rule.{AreEntrants, MayApplyIn, nobody, rule_of, seekers_of}
use Rattle.rounds.specs.declared.round.Round.{Round}
use Rattle.office_moves.specs.Facts.{SeasonFacts, lists_in_order}
use Rattle.office_moves.specs.Promise.{all_sought_then}
use Rattle.office_moves.specs.State.{State, seat_of}
use Rattle.office_moves.specs.declared.moves.Entry.{Entry}
use Rattle.published_rounds.specs.Published.{IsPublished, matrix_then, wanted_then}
use Rattle.published_rounds.specs.Groups.{NoGroupGains}

-- over every matrix
abbrev pub NoGroupGainsInARound : Type 0
NoGroupGainsInARound = (version : ℕ) (table : SeatTable) → AreSeats table → NoGroupGains (rule_of version nobody table) (MayApplyIn table)

-- As many lists and seeks, and the same ones but for those at the places of the group.
pub record AreOtherwiseTogether (group : ℕ → Bool) (lists told : List (List ProgId)) (seeks sought : List Seek) : Type 0 where
  pub as_many_lists : length told ≡ length lists
  pub as_many_seeks : length sought ≡ length seeks
  pub same_lists : (j : ℕ) → group j ≡ false → slice_get told j ≡ slice_get lists j
  pub same_seeks : (j : ℕ) → group j ≡ false → slice_get sought j ≡ slice_get seeks j

-- each of the group has by these seats one that they seek more than that of the round
abbrev pub AllWouldGain : SeasonFacts → State → ℕ → Round → (ℕ → Bool) → List (Option Seat) → Type 0
AllWouldGain facts state window round group others = (j : ℕ) (member : Person) (other : Option Seat) → group j ≡ true → slice_get facts.people j ≡ Some member → slice_get others j ≡ Some other
    → rank_of (wanted_then facts state window member.id.0) other < rank_of (wanted_then facts state window member.id.0) (seat_of facts (Some round) member.id.0)

-- No group gains in a published round. Had some candidates, one at least, handed in other lists or answered otherwise together, and all others as they did, then no
-- fair allocation would have given every one of them a seat that they seek more. (Some may gain where others of the group gain nothing.)
abbrev pub NoGroupWouldGain : SeasonFacts → Type 0
NoGroupWouldGain facts = (entries : List Entry) (state : State) (window : ℕ) (round : Round) (group : ℕ → Bool) (i : ℕ) (person : Person) (told : List (List ProgId)) (sought : List Seek)
    (others : List (Option Seat)) → IsPublished facts entries state window round → slice_get facts.people i ≡ Some person → group i ≡ true
    → AreEntrants (matrix_then facts state window) facts.people told → AreOtherwiseTogether group (lists_in_order facts) told (all_sought_then facts state window) sought
    → IsFair (rule_of facts.version nobody (matrix_then facts state window)) (length (matrix_then facts state window).programmes)
    (seekers_of (matrix_then facts state window) facts.people told sought) others → AllWouldGain facts state window round group others → ⊥
