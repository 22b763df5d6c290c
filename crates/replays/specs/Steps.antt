-- What becomes of one row of the kept tables.
use Rattle.std.specs.Prelude.{◌≡◌, ◌<◌, ◌⊎◌, ℕ, false}
use Rattle.kept_rows.specs.declared.rows.Kept.{Kept}
use Rattle.office_moves.specs.Facts.{SeasonFacts}
use Rattle.office_moves.specs.State.{State}
use Rattle.office_moves.specs.declared.moves.Act.{Act}
use Rattle.replays.specs.Faults.{IsFirstDifference}
use Rattle.replays.specs.Replay.{takes}
use Rattle.replays.specs.declared.fault.ReplayFault.{ReplayFault}
use Rattle.replays.specs.declared.fault.ReplayFault.TheVariants.{Stray, StrayRaise, Differs, OutOfMemory}

-- the row at a place of its table is not newly accepted, and this is the fault of that place; or there was no memory
abbrev pub IsRefusedRow : SeasonFacts → State → Act → (ℕ → ReplayFault) → ℕ → ReplayFault → Type 0
IsRefusedRow facts state row stray place fault = (fault ≡ OutOfMemory) ⊎ ((takes facts state row ≡ false) × (fault ≡ stray place))

-- there is no cut after the last one, or there was no memory
abbrev pub IsRefusedCut : SeasonFacts → State → ReplayFault → Type 0
IsRefusedCut facts state (Stray at) = (facts.rounds < state.now) × (at ≡ 0)
IsRefusedCut facts state (StrayRaise at) = ⊥
IsRefusedCut facts state (Differs round cand one other) = ⊥
IsRefusedCut facts state OutOfMemory = Unit {0}

-- the kept seats of a round are not those of the state, or there was no memory
abbrev pub IsDifference : SeasonFacts → State → Kept → ℕ → ReplayFault → Type 0
IsDifference facts state kept number (Stray at) = ⊥
IsDifference facts state kept number (StrayRaise at) = ⊥
IsDifference facts state kept number (Differs round cand one other) = (round ≡ number) × IsFirstDifference facts state kept number cand.0 one other
IsDifference facts state kept number OutOfMemory = Unit {0}
