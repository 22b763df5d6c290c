-- What guarantees are worth in each published round. Whoever kept a seat at its cut was guaranteed one of its programme.
use Rattle.std.specs.Prelude.{◌≡◌, ◌<◌, ◌≤◌, ◌↔◌, ℕ, true, List, Option, Some, length, slice_get}
use Rattle.office_base.specs.declared.seat.Seat.{Seat}
use Rattle.office_base.specs.declared.seat.SeatKind.TheVariants.{Kept, Under}
use Rattle.office_base.specs.declared.step.StepKind.{StepKind}
use Rattle.allocations.specs.Fair.{HasClaim, IsBest}
use Rattle.allocations.specs.Market.{Seeker, applicants, place_of, rank_of, seat_at}
use Rattle.history_laws.specs.Course.{guaranteed_then}
use Rattle.kept_seats.specs.Kept.{IsKept}
use Rattle.office_moves.specs.Facts.{SeasonFacts}
use Rattle.office_moves.specs.State.{State}
use Rattle.office_moves.specs.declared.moves.Entry.{Entry}
use Rattle.rounds.specs.Rule.{rule_of, steps_of}
use Rattle.rounds.specs.declared.round.Round.{Round}
use Rattle.published_rounds.specs.Published.{IsPublished, market_then, matrix_then}

-- A person who is guaranteed a seat of a programme and seeks it has that seat, or one that the person seeks more.
abbrev pub GuaranteedSeatsAreHad : SeasonFacts → Type 0
GuaranteedSeatsAreHad facts = (entries : List Entry) (state : State) (window p i : ℕ) (round : Round) (s : Seeker) (seat : Option Seat) → IsPublished facts entries state window round
    → slice_get (market_then facts state window) i ≡ Some s → slice_get round.seats i ≡ Some seat → guaranteed_then facts state window p s.person ≡ true
    → place_of s.list p < length s.list → rank_of s.list seat ≤ place_of s.list p

-- A step seats exactly whom the choice of its programme admits under it, from all who apply.
abbrev pub StepsChooseFromAll : SeasonFacts → Type 0
StepsChooseFromAll facts = (entries : List Entry) (state : State) (window p i : ℕ) (round : Round) (s : Seeker) (step : StepKind) → IsPublished facts entries state window round
    → p < length (matrix_then facts state window).programmes → slice_get (market_then facts state window) i ≡ Some s
    → steps_of facts.version (matrix_then facts state window) p (applicants p (market_then facts state window) round.seats) s.person step
    ↔ (slice_get round.seats i ≡ Some (Some (seat_at p (Under step))))

-- A person is kept beyond the seats of all steps exactly if guaranteed there, applying and not chosen.
abbrev pub KeptExactly : SeasonFacts → Type 0
KeptExactly facts = (entries : List Entry) (state : State) (window p i : ℕ) (round : Round) (s : Seeker) → IsPublished facts entries state window round
    → p < length (matrix_then facts state window).programmes → slice_get (market_then facts state window) i ≡ Some s
    → IsKept (steps_of facts.version (matrix_then facts state window)) (guaranteed_then facts state window) p (applicants p (market_then facts state window) round.seats) s.person
    ↔ (slice_get round.seats i ≡ Some (Some (seat_at p Kept)))

-- The seats of a round are just by the rule with guarantees: nobody has a justified claim, and no fair seats give anyone better.
pub record AreJustWithGuarantees (facts : SeasonFacts) (state : State) (window : ℕ) (round : Round) : Type 0 where
  pub no_claim : (p i : ℕ) → p < length (matrix_then facts state window).programmes
      → HasClaim (rule_of facts.version (guaranteed_then facts state window) (matrix_then facts state window)) (market_then facts state window) round.seats i p → ⊥
  pub best : IsBest (rule_of facts.version (guaranteed_then facts state window) (matrix_then facts state window)) (length (matrix_then facts state window).programmes)
      (market_then facts state window) round.seats

abbrev pub JustWithGuarantees : SeasonFacts → Type 0
JustWithGuarantees facts = (entries : List Entry) (state : State) (window : ℕ) (round : Round) → IsPublished facts entries state window round → AreJustWithGuarantees facts state window round
