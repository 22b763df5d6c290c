-- What each published round of a season is worth to its candidates.
use Rattle.std.specs.Prelude.{◌≡◌, ◌<◌, ◌≤◌, ℕ, true, List, Option, Some, length, slice_get}
use Rattle.office_base.specs.Lists.{IsAmong}
use Rattle.office_base.specs.Person.{IsBetter}
use Rattle.office_base.specs.declared.seat.Seat.{Seat}
use Rattle.office_base.specs.declared.seat.SeatKind.TheVariants.{Under}
use Rattle.office_base.specs.declared.step.StepKind.{StepKind}
use Rattle.office_base.specs.declared.person.Person.{Person}
use Rattle.office_base.specs.declared.person.ProgId.{ProgId}
use Rattle.allocations.specs.Compared.{SeatAlike}
use Rattle.allocations.specs.Fair.{IsFair}
use Rattle.allocations.specs.Market.{rank_of, wants}
use Rattle.programme_laws.specs.Laws.{HoldsEachTraitOf, MayStandFor}
use Rattle.seat_matrix.specs.Matrix.{list_in}
use Rattle.seeks.specs.declared.seek.Seek.{Seek}
use Rattle.rounds.specs.Rule.{AreEntrants, IsRaised, nobody, rule_of, seekers_of}
use Rattle.rounds.specs.declared.round.Round.{Round}
use Rattle.round_laws.specs.Laws.{AreOtherwise, SomeSeekNothing}
use Rattle.office_moves.specs.Facts.{SeasonFacts, lists_in_order}
use Rattle.office_moves.specs.Promise.{all_sought_then, sought_then}
use Rattle.office_moves.specs.State.{State, seat_of}
use Rattle.office_moves.specs.declared.moves.Entry.{Entry}
use Rattle.published_rounds.specs.Published.{AreFairThen, AreWithin, IsPublished, IsThatOrEarlier, market_then, matrix_then, wanted_then}

-- No envy is justified. Somebody has a seat in a published round. You are better in merit on the list of its programme, may stand for its step, hold each trait
-- that they hold, and seek the programme. Then you have a seat of that programme, or of one that you seek more.
abbrev pub NobodyIsEnvied : SeasonFacts → Type 0
NobodyIsEnvied facts = (entries : List Entry) (state : State) (window : ℕ) (round : Round) (better worse : Person) (seat : Seat) (step : StepKind) → IsPublished facts entries state window round
    → IsAmong better facts.people → IsAmong worse facts.people → seat_of facts (Some round) worse.id.0 ≡ Some seat → seat.step ≡ Under step
    → wants seat.prog.0 (wanted_then facts state window better.id.0) ≡ true → IsBetter (list_in facts.matrix seat.prog.0) better worse
    → MayStandFor (list_in facts.matrix seat.prog.0) step better → HoldsEachTraitOf better worse
    → IsThatOrEarlier (wanted_then facts state window better.id.0) seat.prog.0 (seat_of facts (Some round) better.id.0)

-- No programme is over its seats: in a published round no step of it gives more seats than it has.
abbrev pub SeatsAreWithin : SeasonFacts → Type 0
SeatsAreWithin facts = (entries : List Entry) (state : State) (window : ℕ) (round : Round) (prog : ℕ) → IsPublished facts entries state window round → prog < length facts.matrix.programmes
    → AreWithin facts.version (matrix_then facts state window) prog round.seats

-- No other fair allocation of a published round would seat anybody else: each of them leaves the same people without a seat, and fills as many seats of each
-- programme.
abbrev pub SameAreSeated : SeasonFacts → Type 0
SameAreSeated facts = (entries : List Entry) (state : State) (window : ℕ) (round : Round) (others : List (Option Seat)) → IsPublished facts entries state window round
    → AreFairThen facts state window others → SeatAlike (length (matrix_then facts state window).programmes) (market_then facts state window) round.seats others

-- Your true list is best in each published round. Suppose you had handed in another list, or answered otherwise, and all others as they did.
-- Then no fair allocation would have given you a seat that you seek more.
abbrev pub NoOtherListGivesMore : SeasonFacts → Type 0
NoOtherListGivesMore facts = (entries : List Entry) (state : State) (window : ℕ) (round : Round) (i : ℕ) (person : Person) (told : List (List ProgId)) (sought : List Seek)
    (others : List (Option Seat)) (other : Option Seat) → IsPublished facts entries state window round → slice_get facts.people i ≡ Some person
    → AreEntrants (matrix_then facts state window) facts.people told → AreOtherwise i (lists_in_order facts) told (all_sought_then facts state window) sought
    → IsFair (rule_of facts.version nobody (matrix_then facts state window)) (length (matrix_then facts state window).programmes)
    (seekers_of (matrix_then facts state window) facts.people told sought) others → slice_get others i ≡ Some other
    → rank_of (wanted_then facts state window person.id.0) (seat_of facts (Some round) person.id.0) ≤ rank_of (wanted_then facts state window person.id.0) other

-- More seats hurt nobody, and neither do candidates who leave. Two histories of a season publish a round at one window.
-- In the second no step has fewer seats, and everybody seeks the same or nothing at all. Then a candidate who seeks the same has no worse seat in the second.
abbrev pub MoreSeatsHurtNobody : SeasonFacts → Type 0
MoreSeatsHurtNobody facts = (entries others : List Entry) (state other : State) (window : ℕ) (round later : Round) (person : Person) → IsPublished facts entries state window round
    → IsPublished facts others other window later → IsRaised (matrix_then facts state window) (matrix_then facts other window)
    → SomeSeekNothing (all_sought_then facts state window) (all_sought_then facts other window) → IsAmong person facts.people
    → sought_then facts other window person.id.0 ≡ sought_then facts state window person.id.0
    → rank_of (wanted_then facts state window person.id.0) (seat_of facts (Some later) person.id.0)
    ≤ rank_of (wanted_then facts state window person.id.0) (seat_of facts (Some round) person.id.0)
