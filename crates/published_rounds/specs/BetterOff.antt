-- That being better off never hurts a candidate in a round.
use Rattle.std.specs.Prelude.{◌≡◌, ◌≢◌, ◌≤◌, ℕ, List, Option, Some, length, slice_get}
use Rattle.office_base.specs.declared.seat.Seat.{Seat}
use Rattle.office_base.specs.declared.person.Person.{Person}
use Rattle.office_base.specs.declared.person.ProgId.{ProgId}
use Rattle.allocations.specs.Fair.{IsBest, IsFair}
use Rattle.allocations.specs.Market.{Seeker, rank_of}
use Rattle.programme_laws.specs.Laws.{IsNoWorseOff}
use Rattle.seat_matrix.specs.Matrix.{AreSeats, SeatTable, list_in}
use Rattle.seeks.specs.declared.seek.Seek.{Seek}
use Rattle.rounds.specs.Rule.{AreEntrants, nobody, rule_of, seekers_of}
use Rattle.rounds.specs.declared.round.Round.{Round}
use Rattle.office_moves.specs.Facts.{SeasonFacts}
use Rattle.office_moves.specs.Promise.{all_sought_then}
use Rattle.office_moves.specs.State.{State, seat_of}
use Rattle.office_moves.specs.declared.moves.Entry.{Entry}
use Rattle.published_rounds.specs.Published.{IsPublished, matrix_then, wanted_then}

-- Two registers are the same but for one person, who is no worse off in the second register in the merit list of each programme.
-- The person has each trait as before and perhaps more, and the same place or a better one, which is common if it was common.
-- The category is the same, or one declared in place of GEN.
pub record OneIsBetterOff (table : SeatTable) (i : ℕ) (before after : Person) (people others : List Person) : Type 0 where
  pub there : slice_get people i ≡ Some before
  pub there_after : slice_get others i ≡ Some after
  pub full : length others ≡ length people
  pub rest : (j : ℕ) → j ≢ i → slice_get others j ≡ slice_get people j
  pub better : (prog : ℕ) → IsNoWorseOff (list_in table prog) before after

-- With the same lists and the same answers of all, the best allocation gives a person who is better off no worse seat than any fair one gave before.
abbrev pub BetterOffIsNoWorse : Type 0
BetterOffIsNoWorse = (version : ℕ) (table : SeatTable) (people changed : List Person) (lists : List (List ProgId)) (seeks : List Seek) (seats others : List (Option Seat)) (i : ℕ)
    (before after : Person) (s : Seeker) (seat other : Option Seat) → AreSeats table → AreEntrants table people lists → AreEntrants table changed lists
    → OneIsBetterOff table i before after people changed → IsFair (rule_of version nobody table) (length table.programmes) (seekers_of table people lists seeks) seats
    → IsBest (rule_of version nobody table) (length table.programmes) (seekers_of table changed lists seeks) others → slice_get (seekers_of table people lists seeks) i ≡ Some s
    → slice_get seats i ≡ Some seat → slice_get others i ≡ Some other → rank_of s.list other ≤ rank_of s.list seat

-- Two seasons are the same but for one candidate, who is no worse off in the second.
-- Each publishes a round at this window, by the same matrix, and everybody seeks the same in both.
-- Then the candidate has no worse seat in the second season's round.
abbrev pub NeverHurtsInARound : SeasonFacts → SeasonFacts → Type 0
NeverHurtsInARound facts other = (entries others : List Entry) (state then : State) (window i : ℕ) (round later : Round) (before after : Person)
    → IsPublished facts entries state window round → IsPublished other others then window later → other.version ≡ facts.version → other.lists ≡ facts.lists
    → matrix_then other then window ≡ matrix_then facts state window → all_sought_then other then window ≡ all_sought_then facts state window
    → OneIsBetterOff (matrix_then facts state window) i before after facts.people other.people
    → rank_of (wanted_then facts state window before.id.0) (seat_of other (Some later) after.id.0) ≤ rank_of (wanted_then facts state window before.id.0) (seat_of facts (Some round) before.id.0)
