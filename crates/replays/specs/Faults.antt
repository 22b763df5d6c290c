-- Why records are not replayed: the first fault by windows, and inside a window the raises first, then the answers, then the cut and its seats. Kept seats of rounds that
-- no counted cut publishes come last.
use Rattle.std.specs.Prelude.{◌≡◌, ◌<◌, ◌+◌, ◌⊎◌, ℕ, Option, Result, Ok, Err}
use Rattle.office_base.specs.declared.seat.Seat.{Seat}
use Rattle.office_base.specs.declared.person.CandId.{CandId}
use Rattle.kept_rows.specs.declared.rows.Kept.{Kept}
use Rattle.office_moves.specs.Facts.{SeasonFacts}
use Rattle.office_moves.specs.Stands.{first_allot, published_seat}
use Rattle.office_moves.specs.State.{State}
use Rattle.replays.specs.Differences.{IsFirstApart}
use Rattle.replays.specs.Replay.{AllPass, AreAllotsOf, CutPasses, IsUncounted, Pass, RowsPass, answers_replayed, raises_replayed}
use Rattle.replays.specs.declared.fault.ReplayFault.{ReplayFault}
use Rattle.replays.specs.declared.fault.ReplayFault.TheVariants.{Stray, StrayRaise, Differs, OutOfMemory}

-- the rows of a table stop at a place, and this is the fault of that place; or there was no memory
abbrev pub StopsAt : (ℕ → ReplayFault) → Result State ℕ → ReplayFault → Type 0
StopsAt stray replayed fault = (fault ≡ OutOfMemory) ⊎ ((place : ℕ) × (replayed ≡ Err place) × (fault ≡ stray place))

-- a row of the window is the first that is not newly accepted: a raise, or an answer after all raises
abbrev pub IsStrayRow : SeasonFacts → Kept → ℕ → State → ReplayFault → Type 0
IsStrayRow facts kept window old (Stray row) = (raised : State) × (raises_replayed facts window kept.raises old ≡ Ok raised) × (answers_replayed facts window kept.answers raised ≡ Err row)
IsStrayRow facts kept window old (StrayRaise row) = raises_replayed facts window kept.raises old ≡ Err row
IsStrayRow facts kept window old (Differs round cand one other) = ⊥
IsStrayRow facts kept window old OutOfMemory = Unit {0}

-- the kept seats of a round are not those of the state: this candidate is the first by id of whom they differ
abbrev pub IsFirstDifference : SeasonFacts → State → Kept → ℕ → ℕ → Option Seat → Option Seat → Type 0
IsFirstDifference facts state kept number id one other = IsFirstApart (λ n. first_allot number n kept.allots) (λ n. published_seat facts state number n) id one other

-- a cut is counted for the window after the last one
abbrev pub IsStrayCut : SeasonFacts → Kept → ℕ → Type 0
IsStrayCut facts kept window = (window < kept.cuts) × (facts.rounds < window)

-- the fault of a window, after all before it passed and led to this state
abbrev pub IsFaultOfWindow : SeasonFacts → Kept → ℕ → State → ReplayFault → Type 0
IsFaultOfWindow facts kept window old (Stray row) =
    IsStrayRow facts kept window old (Stray row) ⊎ ((last : State) × RowsPass facts kept window old last × IsStrayCut facts kept window × (row ≡ 0))
IsFaultOfWindow facts kept window old (StrayRaise row) = IsStrayRow facts kept window old (StrayRaise row)
IsFaultOfWindow facts kept window old (Differs round cand one other) =
    (last : State) × (new : State) × RowsPass facts kept window old last × (window < kept.cuts) × CutPasses facts last new × (round ≡ window + 1)
    × IsFirstDifference facts new kept round cand.0 one other
IsFaultOfWindow facts kept window old OutOfMemory = Unit {0}

-- all windows before one passed, and it has this fault
abbrev pub StopsInWindow : SeasonFacts → Kept → ReplayFault → Type 0
StopsInWindow facts kept fault = (window : ℕ) × (old : State) × Pass facts kept window old × IsFaultOfWindow facts kept window old fault

-- All windows passed, and there is a kept seat of a round that no counted cut publishes: the first by round and candidate.
pub record IsUncountedSeat (facts : SeasonFacts) (kept : Kept) (round : ℕ) (cand : CandId) (one other : Option Seat) : Type 0 where
  pub state : State
  pub passed : AllPass facts kept state
  pub uncounted : IsUncounted kept round
  pub before : (number : ℕ) → number < round → IsUncounted kept number → AreAllotsOf facts state kept number
  pub first : IsFirstDifference facts state kept round cand.0 one other

-- The records have this fault first.
abbrev pub IsReplayFault : SeasonFacts → Kept → ReplayFault → Type 0
IsReplayFault facts kept (Stray row) = StopsInWindow facts kept (Stray row)
IsReplayFault facts kept (StrayRaise row) = StopsInWindow facts kept (StrayRaise row)
IsReplayFault facts kept (Differs round cand one other) = StopsInWindow facts kept (Differs round cand one other) ⊎ IsUncountedSeat facts kept round cand one other
IsReplayFault facts kept OutOfMemory = Unit {0}
