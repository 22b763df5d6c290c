-- What the office promises of every state that a history reaches.
use Rattle.std.specs.Prelude.{◌≡◌, ◌<◌, ◌≤◌, ◌+◌, ℕ, suc, true, List, Option, Some, None, IsSome, length, map, option_map, slice_get, if◌then◌else◌}
use Rattle.office_base.specs.declared.seat.Seat.{Seat}
use Rattle.kept_rows.specs.declared.rows.AllotRow.{AllotRow}
use Rattle.allocations.specs.Fair.{HasClaim, IsBest}
use Rattle.allocations.specs.Market.{applicants, place_of}
use Rattle.choice_lists.specs.Choices.{list_of}
use Rattle.programme_lists.specs.Chosen.{ShowsFrom}
use Rattle.programme_lists.specs.declared.programme.Programme.{Programme}
use Rattle.seat_matrix.specs.Matrix.{SeatTable, seats_in}
use Rattle.seeks.specs.Seek.{same_institute}
use Rattle.seeks.specs.declared.seek.Seek.{Seek}
use Rattle.rounds.specs.Rule.{nobody, rule_of, seekers_of}
use Rattle.rounds.specs.declared.round.Round.{Round}
use Rattle.round_options.specs.Options.{holds, seek_after}
use Rattle.round_options.specs.declared.standing.Standing.{Standing}
use Rattle.round_options.specs.declared.standing.Standing.TheVariants.{Freeze, Slide}
use Rattle.office_moves.specs.Facts.{SeasonFacts, lists_in_order}
use Rattle.office_moves.specs.State.{State, seat_in, standing_at, view_of}
use Rattle.office_moves.specs.Raised.{matrix_of_round}
use Rattle.office_moves.specs.Moves.{rows_along}

-- A round over a matrix is just: each programme shows its choice from those who apply to it, nobody has a justified claim, and no fair allocation gives
-- anyone better.
pub record IsJust (facts : SeasonFacts) (matrix : SeatTable) (round : Round) : Type 0 where
  pub count : length round.programmes ≡ length matrix.programmes
  pub shown : (p : ℕ) (programme : Programme) → slice_get round.programmes p ≡ Some programme
      → ShowsFrom facts.version (seats_in matrix p) (applicants p (seekers_of matrix facts.people (lists_in_order facts) round.seeks) round.seats) programme
  pub no_claim : (p i : ℕ) → p < length matrix.programmes
      → HasClaim (rule_of facts.version nobody matrix) (seekers_of matrix facts.people (lists_in_order facts) round.seeks) round.seats i p → ⊥
  pub best : IsBest (rule_of facts.version nobody matrix) (length matrix.programmes) (seekers_of matrix facts.people (lists_in_order facts) round.seeks) round.seats

-- the standing of a candidate at the cut of a window
abbrev pub standing_then : SeasonFacts → State → ℕ → ℕ → Standing
standing_then facts state window id = standing_at facts (view_of state id) id window

-- A candidate does not fall from the old seat to the new one. The new programme is at the same place of the choice list, or
-- earlier. After freeze, the programme is the same. After slide, the institute is the same.
pub record IsNoWorse (facts : SeasonFacts) (standing : Standing) (id : ℕ) (old new : Seat) : Type 0 where
  pub place : place_of (list_of facts.lists id) new.prog.0 ≤ place_of (list_of facts.lists id) old.prog.0
  pub freeze : standing ≡ Freeze → new.prog ≡ old.prog
  pub slide : standing ≡ Slide → same_institute facts.matrix new.prog.0 old.prog.0 ≡ true

-- A candidate whose standing was freeze, float or slide at the cut of a window had a seat in the round before the cut.
-- This candidate has a seat in the round that the cut published, and it is no worse.
abbrev pub HoldsOn : SeasonFacts → State → ℕ → ℕ → Type 0
HoldsOn facts state window id = holds (standing_then facts state window id) ≡ true
    → (old new : Seat) × (seat_in facts state.rounds window id ≡ Some old) × (seat_in facts state.rounds (suc window) id ≡ Some new)
    × IsNoWorse facts (standing_then facts state window id) id old new

-- the seat that a candidate kept at the cut of a window: that of the round before it, if the standing then was freeze, float or slide; otherwise none
abbrev pub kept_then : SeasonFacts → State → ℕ → ℕ → Option Seat
kept_then facts state window id = if holds (standing_then facts state window id) then seat_in facts state.rounds window id else None

-- the seat that was kept at the last cut
abbrev pub kept_to_the_end : SeasonFacts → State → ℕ → Option Seat
kept_to_the_end facts state id = kept_then facts state facts.rounds id

-- what a candidate seeks at the cut of a window, by the standing then and the place of the seat of the round before it
abbrev pub sought_then : SeasonFacts → State → ℕ → ℕ → Seek
sought_then facts state window id =
    seek_after (standing_then facts state window id) (option_map (λ seat. place_of (list_of facts.lists id) seat.prog.0) (seat_in facts state.rounds window id))

-- what everybody seeks then, along the people
abbrev pub all_sought_then : SeasonFacts → State → ℕ → List Seek
all_sought_then facts state window = map (λ person. sought_then facts state window person.id.0) facts.people

-- The office keeps its word.
pub record KeepsItsWord (facts : SeasonFacts) (state : State) : Type 0 where
  -- every round is just, by the matrix with what was raised before its cut
  pub rounds : (before : ℕ) (round : Round) → slice_get state.rounds before ≡ Some round → IsJust facts (matrix_of_round facts state (suc before)) round
  -- every round was made on what everybody sought at its cut
  pub sought : (before : ℕ) (round : Round) → slice_get state.rounds before ≡ Some round → (round.number ≡ before + 1) × (round.seeks ≡ all_sought_then facts state before)
  -- nobody falls from round to round
  pub nobody_falls : (window id : ℕ) → window < length state.rounds → HoldsOn facts state window id
  -- the final rows are the seats of the last round of those who stood at freeze, float or slide at the last cut, and each of them has one
  pub finals : (rows : List AllotRow) → state.finals ≡ Some rows → rows ≡ rows_along (facts.rounds + 1) (kept_to_the_end facts state) facts.people
  pub admitted : (rows : List AllotRow) (id : ℕ) → state.finals ≡ Some rows → holds (standing_then facts state facts.rounds id) ≡ true → IsSome (seat_in facts state.rounds facts.rounds id)
