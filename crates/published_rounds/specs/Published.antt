-- A published round of a season, and the market that it answers.
use Rattle.std.specs.Prelude.{◌≡◌, ◌≤◌, ◌==◌, ◌&&◌, ℕ, suc, Bool, false, List, Option, Some, None, count_by, length, slice_get}
use Rattle.office_base.specs.SeatKinds.{seat_kind_number}
use Rattle.office_base.specs.StepNumbers.{step_number}
use Rattle.office_base.specs.declared.seat.Seat.{Seat}
use Rattle.office_base.specs.declared.person.ProgId.{ProgId}
use Rattle.office_base.specs.declared.step.StepKind.{StepKind}
use Rattle.office_base.specs.declared.step.StepKind.TheVariants.{Dereserved}
use Rattle.allocations.specs.Fair.{IsFair}
use Rattle.allocations.specs.Market.{Seeker, place_of}
use Rattle.choice_lists.specs.Choices.{list_of}
use Rattle.seat_matrix.specs.Matrix.{SeatTable, seating_in}
use Rattle.seat_matrix.specs.Seats.{is_dereserved}
use Rattle.seat_matrix.specs.Unfilled.{left_unfilled}
use Rattle.seeks.specs.Seek.{seek_leaves}
use Rattle.rounds.specs.Rule.{nobody, rule_of, seekers_of}
use Rattle.rounds.specs.declared.round.Round.{Round}
use Rattle.office_moves.specs.Facts.{IsSound, SeasonFacts, lists_in_order}
use Rattle.office_moves.specs.History.{IsHistory}
use Rattle.office_moves.specs.Promise.{all_sought_then, sought_then}
use Rattle.office_moves.specs.Raised.{matrix_of_round}
use Rattle.office_moves.specs.State.{State}
use Rattle.office_moves.specs.declared.moves.Entry.{Entry}

-- A history of the season leads to a state in which the cut of this window has published this round.
pub record IsPublished (facts : SeasonFacts) (entries : List Entry) (state : State) (window : ℕ) (round : Round) : Type 0 where
  pub sound : IsSound facts
  pub history : IsHistory facts entries state
  pub there : slice_get state.rounds window ≡ Some round

-- the matrix of the round: the season's, with the raises up to the cut of the window
abbrev pub matrix_then : SeasonFacts → State → ℕ → SeatTable
matrix_then facts state window = matrix_of_round facts state (suc window)

-- the programmes that a candidate seeks at the cut, the most wanted first: what the standing leaves of the choice list
abbrev pub wanted_then : SeasonFacts → State → ℕ → ℕ → List ProgId
wanted_then facts state window id = seek_leaves facts.matrix (sought_then facts state window id) (list_of facts.lists id)

-- all people with what they seek at the cut, in the order of the register
abbrev pub market_then : SeasonFacts → State → ℕ → List Seeker
market_then facts state window = seekers_of (matrix_then facts state window) facts.people (lists_in_order facts) (all_sought_then facts state window)

-- these seats would be fair in that round
abbrev pub AreFairThen : SeasonFacts → State → ℕ → List (Option Seat) → Type 0
AreFairThen facts state window seats =
    IsFair (rule_of facts.version nobody (matrix_then facts state window)) (length (matrix_then facts state window).programmes) (market_then facts state window) seats

-- there is a seat, of the programme of this number or of one that the list names earlier
abbrev pub IsThatOrEarlier : List ProgId → ℕ → Option Seat → Type 0
IsThatOrEarlier list prog seat = (own : Seat) × (seat ≡ Some own) × (place_of list own.prog.0 ≤ place_of list prog)

-- ---- seats

-- the seat is one of the programme of this number, under this step
abbrev pub is_seat_under : ℕ → StepKind → Option Seat → Bool
is_seat_under prog step None = false
is_seat_under prog step (Some seat) = seat.prog.0 == prog && seat_kind_number seat.step == step_number step

-- how many of some seats are of a step of a programme
abbrev pub seats_under : ℕ → StepKind → List (Option Seat) → ℕ
seats_under prog step seats = count_by (is_seat_under prog step) seats

-- No step of a programme gives more seats than it has. The de-reserved step has those that categories left empty and give away in this version: OBC, and in
-- version 2 EWS too.
pub record AreWithin (version : ℕ) (matrix : SeatTable) (prog : ℕ) (seats : List (Option Seat)) : Type 0 where
  pub own : (step : StepKind) → is_dereserved step ≡ false → seats_under prog step seats ≤ (seating_in matrix prog step).seats
  pub dereserved : seats_under prog Dereserved seats ≤ left_unfilled version (λ step. (seating_in matrix prog step).seats) (λ step. seats_under prog step seats)
