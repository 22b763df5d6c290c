-- When a reason that the office gives is just.
use Rattle.std.specs.Prelude.{◌≡◌, ◌<◌, ℕ, Some, length, slice_get}
use Rattle.std.specs.List.{AllByRecursion}
use Rattle.office_base.specs.Lists.{IsAmong}
use Rattle.office_asks.specs.declared.ask.Request.{Request}
use Rattle.office_base.specs.declared.person.CandId.{CandId}
use Rattle.office_base.specs.declared.person.Person.{Person}
use Rattle.office_base.specs.declared.person.ProgId.{ProgId}
use Rattle.office_base.specs.declared.seat.SeatKind.TheVariants.{Under}
use Rattle.office_base.specs.declared.step.StepKind.{StepKind}
use Rattle.allocations.specs.Market.{applicants}
use Rattle.rank_lists.specs.Register.{find_person}
use Rattle.seat_matrix.specs.Matrix.{SeatTable, seats_in}
use Rattle.programme_lists.specs.Chosen.{ShowsFrom}
use Rattle.programme_lists.specs.declared.programme.Programme.{Programme}
use Rattle.programme_lists.specs.declared.programme.StepList.{StepList}
use Rattle.reasons.specs.declared.reason.Reason.{Reason}
use Rattle.reasons.specs.declared.reason.Reason.TheVariants.{Admitted}
use Rattle.reasons.specs.declared.reason.WhyAnswer.TheVariants.{Reason as Because}
use Rattle.explain.specs.Just.{StandsAgainst, told}
use Rattle.explain.specs.Reason.{reason_of}
use Rattle.rounds.specs.Rule.{seekers_of}
use Rattle.rounds.specs.declared.round.Round.{Round}
use Rattle.office_moves.specs.Facts.{IsSound, SeasonFacts, lists_in_order}
use Rattle.office_moves.specs.State.{State, round_at}
use Rattle.office_moves.specs.Raised.{matrix_of_round}
use Rattle.office_moves.specs.Why.{why_answer}
use Rattle.office_moves.specs.Moves.{IsMove}
use Rattle.office_moves.specs.declared.moves.Reply.TheVariants.{WhyIs}
use Rattle.history_laws.specs.Orderly.{IsOrderly}

-- the list of this step, as the programme shows it, has the person
abbrev pub IsShownUnder : Programme → StepKind → Person → Type 0
IsShownUnder programme step person = (shown : StepList) × IsAmong shown programme.steps × (shown.kind ≡ step) × IsAmong person shown.admitted

-- The reason of a candidate at a programme is just, by a round and its matrix.
pub record IsJustReason (facts : SeasonFacts) (matrix : SeatTable) (round : Round) (cand : CandId) (prog : ProgId) (reason : Reason) : Type 0 where
  -- it speaks of a person of the register,
  pub person : Person
  pub known : find_person cand.0 facts.people ≡ Some person
  -- and of a programme of the matrix, by the lists that the round has of it
  pub below : prog.0 < length matrix.programmes
  pub programme : Programme
  pub listed : slice_get round.programmes prog.0 ≡ Some programme
  -- the person applied to the programme in the round, and these lists show its choice from those who did
  pub applied : IsAmong person (applicants prog.0 (seekers_of matrix facts.people (lists_in_order facts) round.seeks) round.seats)
  pub chosen : ShowsFrom facts.version (seats_in matrix prog.0) (applicants prog.0 (seekers_of matrix facts.people (lists_in_order facts) round.seeks) round.seats) programme
  -- it is the reason of the person by these lists
  pub by_lists : reason ≡ reason_of (seats_in matrix prog.0).list programme person
  -- each step that the reason names counts against the person
  pub against : AllByRecursion (StandsAgainst (seats_in matrix prog.0) programme person) (told reason)
  -- and a person whose reason is an admission is on the list of that step
  pub admitted : (step : StepKind) → reason ≡ Admitted (Under step) → IsShownUnder programme step person

-- In a state in which all is in order, each reason by a published round is just, by the matrix of that round.
abbrev pub OfficeReasonsAreJust : SeasonFacts → Type 0
OfficeReasonsAreJust facts = (state : State) (number : ℕ) (round : Round) (cand : CandId) (prog : ProgId) (reason : Reason) → IsSound facts → IsOrderly facts state
    → round_at state.rounds number ≡ Some round → why_answer facts (Some round) cand prog ≡ Because reason
    → IsJustReason facts (matrix_of_round facts state number) round cand prog reason

-- So is each reason in a reply to a request in such a state, by the last published round.
abbrev pub ToldReasonsAreJust : SeasonFacts → Type 0
ToldReasonsAreJust facts = (state after : State) (request : Request) (cand : CandId) (prog : ProgId) (reason : Reason) → IsSound facts → IsOrderly facts state
    → IsMove facts state request (WhyIs cand prog (Because reason)) after
    → (round : Round) × (round_at state.rounds (length state.rounds) ≡ Some round) × IsJustReason facts (matrix_of_round facts state (length state.rounds)) round cand prog reason
