-- What a cutoff says of a candidate who took no part in a round.
use Rattle.std.specs.Prelude.{◌≡◌, ℕ, List, [], Option, Some, length, slice_get}
use Rattle.office_base.specs.declared.seat.Seat.{Seat}
use Rattle.office_base.specs.declared.person.Person.{Person}
use Rattle.office_base.specs.declared.person.ProgId.{ProgId}
use Rattle.allocations.specs.Fair.{IsFair}
use Rattle.seat_matrix.specs.Matrix.{list_in}
use Rattle.list_cutoffs.specs.declared.cutoffs.StepCutoff.{StepCutoff}
use Rattle.programme_cutoffs.specs.Reading.{IsWithinLines}
use Rattle.seeks.specs.declared.seek.Seek.{Seek}
use Rattle.rounds.specs.Rule.{AreEntrants, nobody, rule_of, seekers_of}
use Rattle.rounds.specs.declared.round.Round.{Round}
use Rattle.round_laws.specs.Laws.{AreOtherwise}
use Rattle.office_moves.specs.Facts.{SeasonFacts, lists_in_order}
use Rattle.office_moves.specs.Promise.{all_sought_then}
use Rattle.office_moves.specs.State.{State}
use Rattle.office_moves.specs.declared.moves.Entry.{Entry}
use Rattle.published_rounds.specs.Published.{IsPublished, matrix_then, wanted_then}
use Rattle.published_rounds.specs.Cutoffs.{AreCutoffsThen}

-- Seats that are fair in a round if the person at this place hands in another list and seeks otherwise, and all others are as they were.
pub record AreFairOtherwise (facts : SeasonFacts) (state : State) (window i : ℕ) (others : List (Option Seat)) : Type 0 where
  pub told : List (List ProgId)
  pub sought : List Seek
  pub entrants : AreEntrants (matrix_then facts state window) facts.people told
  pub otherwise : AreOtherwise i (lists_in_order facts) told (all_sought_then facts state window) sought
  pub fair : IsFair (rule_of facts.version nobody (matrix_then facts state window)) (length (matrix_then facts state window).programmes) (seekers_of (matrix_then facts state window) facts.people told sought) others

-- Outside is outside for good. A candidate who sought nothing in a published round is within no line of a programme.
-- Then no list of theirs gives them a seat of that programme, in any allocation that is fair with it.
abbrev pub OutsideIsOutside : SeasonFacts → Type 0
OutsideIsOutside facts = (entries : List Entry) (state : State) (window i : ℕ) (round : Round) (person : Person) (cutoffs : ℕ → List StepCutoff) (others : List (Option Seat)) (seat : Seat)
    → IsPublished facts entries state window round → slice_get facts.people i ≡ Some person → AreCutoffsThen facts round cutoffs → wanted_then facts state window person.id.0 ≡ []
    → (IsWithinLines (list_in facts.matrix seat.prog.0) person (cutoffs seat.prog.0) → ⊥) → AreFairOtherwise facts state window i others → slice_get others i ≡ Some (Some seat) → ⊥
