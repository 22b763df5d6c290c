-- The course of a season, window by window, as a state shows it.
use Rattle.std.specs.Prelude.{◌≡◌, ◌≤◌, ◌+◌, ◌⊎◌, ℕ, suc, true, List, Option, Some, IsSome, length, map, option_map, slice_get}
use Rattle.office_base.specs.declared.choice.Choice.{Choice}
use Rattle.office_base.specs.declared.choice.Choice.TheVariants.{Withdraw}
use Rattle.kept_rows.specs.declared.rows.AllotRow.{AllotRow}
use Rattle.allocations.specs.Market.{place_of}
use Rattle.choice_lists.specs.Choices.{list_of}
use Rattle.seat_matrix.specs.Matrix.{AreSeats}
use Rattle.seeks.specs.declared.seek.Seek.{Seek}
use Rattle.rounds.specs.Round.{IsRound}
use Rattle.kept_seats.specs.Kept.{Guarantees}
use Rattle.office_base.specs.declared.person.ProgId.{ProgId}
use Rattle.rounds.specs.Rule.{IsRaised, guarantees}
use Rattle.rounds.specs.declared.round.Round.{Round}
use Rattle.round_options.specs.Options.{may_follow, seek_after, standing_of}
use Rattle.round_options.specs.declared.standing.Standing.{Standing}
use Rattle.office_moves.specs.Facts.{SeasonFacts, lists_in_order}
use Rattle.office_moves.specs.State.{State, left_by, seat_in, view_of}
use Rattle.office_moves.specs.Raised.{matrix_of_round}
use Rattle.office_moves.specs.Moves.{rows_along}
use Rattle.office_moves.specs.Promise.{kept_then, kept_to_the_end, standing_then}

-- how the cuts before a window left a candidate
abbrev pub left_then : SeasonFacts → State → ℕ → ℕ → Standing
left_then facts state window id = left_by facts (view_of state id) id window

-- what a candidate sought at the cut of a window, by the standing then and the seat of the round before it
abbrev pub seek_then : SeasonFacts → State → ℕ → ℕ → Seek
seek_then facts state window id =
    seek_after (standing_then facts state window id) (option_map (λ seat. place_of (list_of facts.lists id) seat.prog.0) (seat_in facts state.rounds window id))

-- what everybody sought then, along the people
abbrev pub seeks_then : SeasonFacts → State → ℕ → List Seek
seeks_then facts state window = map (λ person. seek_then facts state window person.id.0) facts.people

-- the programmes of the seats that were kept at the cut of a window, along the people
abbrev pub kept_programmes_then : SeasonFacts → State → ℕ → List (Option ProgId)
kept_programmes_then facts state window = map (λ person. option_map (λ seat. seat.prog) (kept_then facts state window person.id.0)) facts.people

-- who kept a seat then was guaranteed one of its programme in the round of that cut
abbrev pub guaranteed_then : SeasonFacts → State → ℕ → Guarantees
guaranteed_then facts state window = guarantees facts.people (kept_programmes_then facts state window)

-- The answers of a window left the standing, or led to one that may follow what the cuts before left; and only a withdrawal was taken of a candidate without a
-- seat.
abbrev pub AnsweredWell : SeasonFacts → State → ℕ → ℕ → Type 0
AnsweredWell facts state window id = (standing_then facts state window id ≡ left_then facts state window id)
    ⊎ ((choice : Choice) × (may_follow (left_then facts state window id) choice ≡ true) × (standing_then facts state window id ≡ standing_of choice)
    × ((choice ≡ Withdraw) ⊎ IsSome (seat_in facts state.rounds window id)))

-- What the moves of a history make of a season.
pub record IsCourse (facts : SeasonFacts) (state : State) : Type 0 where
  -- each cut published a round, but for the last
  pub order : state.now ≤ facts.rounds → length state.rounds ≡ state.now
  pub few : length state.rounds ≤ facts.rounds
  -- each round was made by the matrix, the seeks and the guarantees at its cut
  pub made : (before : ℕ) (round : Round) → slice_get state.rounds before ≡ Some round
      → IsRound facts.version (guaranteed_then facts state before) (matrix_of_round facts state (suc before)) facts.people (lists_in_order facts) (before + 1) (seeks_then facts state before) round
  pub answers : (window id : ℕ) → AnsweredWell facts state window id
  -- seats only rise
  pub seats : (n : ℕ) → AreSeats (matrix_of_round facts state n)
  pub raised : (n : ℕ) → IsRaised (matrix_of_round facts state n) (matrix_of_round facts state (suc n))
  pub programmes : (n : ℕ) → (matrix_of_round facts state n).programmes ≡ facts.matrix.programmes
  -- the final rows are those of the last cut
  pub finals : (rows : List AllotRow) → state.finals ≡ Some rows → rows ≡ rows_along (facts.rounds + 1) (kept_to_the_end facts state) facts.people
  pub last : IsSome state.finals → length state.rounds ≡ facts.rounds
