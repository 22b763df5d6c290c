-- That rounds leave no trace where everybody who stays floats.
use Rattle.std.specs.Prelude.{◌≢◌, ◌≤◌, ℕ, List, length, map}
use Rattle.office_base.specs.Lists.{IsAmong}
use Rattle.office_base.specs.declared.person.Person.{Person}
use Rattle.allocations.specs.Fair.{IsBest}
use Rattle.seeks.specs.declared.seek.Seek.{Seek}
use Rattle.seeks.specs.declared.seek.Seek.TheVariants.{Whole, Nothing}
use Rattle.rounds.specs.Rule.{nobody, rule_of, seekers_of}
use Rattle.rounds.specs.declared.round.Round.{Round}
use Rattle.round_options.specs.declared.standing.Standing.{Standing}
use Rattle.round_options.specs.declared.standing.Standing.TheVariants.{Waiting, Offered, Freeze, Float, Slide, Withdrawn, NoShow}
use Rattle.office_moves.specs.Facts.{SeasonFacts, lists_in_order}
use Rattle.office_moves.specs.Promise.{standing_then}
use Rattle.office_moves.specs.State.{State}
use Rattle.office_moves.specs.declared.moves.Entry.{Entry}
use Rattle.published_rounds.specs.Published.{IsPublished, matrix_then}

-- the whole list of a candidate who waits or floats at a cut; nothing of one who has left, who loses a first seat there, or who froze or slides
abbrev pub whole_if_staying : Standing → Seek
whole_if_staying Waiting = Whole
whole_if_staying Offered = Nothing
whole_if_staying Freeze = Nothing
whole_if_staying Float = Whole
whole_if_staying Slide = Nothing
whole_if_staying Withdrawn = Nothing
whole_if_staying NoShow = Nothing

-- the whole lists of those who stay at the cut of a window, along the people
abbrev pub all_whole_then : SeasonFacts → State → ℕ → List Seek
all_whole_then facts state window = map (λ person. whole_if_staying (standing_then facts state window person.id.0)) facts.people

-- at no cut up to this window's does anybody freeze or slide: everybody who keeps a seat floats
abbrev pub EverybodyFloats : SeasonFacts → State → ℕ → Type 0
EverybodyFloats facts state window = (earlier : ℕ) (person : Person) → earlier ≤ window → IsAmong person facts.people
    → (standing_then facts state earlier person.id.0 ≢ Freeze) × (standing_then facts state earlier person.id.0 ≢ Slide)

-- Rounds leave no trace. Where everybody who stays floats, each published round is the best allocation on the whole choice lists of those who wait or float at
-- its cut. Nothing else of the earlier rounds is seen in it.
abbrev pub RoundsLeaveNoTrace : SeasonFacts → Type 0
RoundsLeaveNoTrace facts = (entries : List Entry) (state : State) (window : ℕ) (round : Round) → IsPublished facts entries state window round → EverybodyFloats facts state window
    → IsBest (rule_of facts.version nobody (matrix_then facts state window)) (length (matrix_then facts state window).programmes)
    (seekers_of (matrix_then facts state window) facts.people (lists_in_order facts) (all_whole_then facts state window)) round.seats
