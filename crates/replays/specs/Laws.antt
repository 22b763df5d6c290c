-- What holds of kept records, however they are replayed.
use Rattle.std.specs.Prelude.{◌≡◌, ◌≢◌}
use Rattle.kept_rows.specs.declared.rows.Kept.{Kept}
use Rattle.office_moves.specs.Facts.{SeasonFacts}
use Rattle.office_moves.specs.State.{State}
use Rattle.replays.specs.Faults.{IsReplayFault}
use Rattle.replays.specs.Replay.{IsReplayed}
use Rattle.replays.specs.declared.fault.ReplayFault.{ReplayFault}
use Rattle.replays.specs.declared.fault.ReplayFault.TheVariants.{OutOfMemory}

-- Kept records of a season lead to one state, or have one first fault; and never both. Want of memory may come at any time, and is no fault of theirs.
pub record HaveOneEnd (facts : SeasonFacts) (kept : Kept) : Type 0 where
  pub one_state : (state other : State) → IsReplayed facts kept state → IsReplayed facts kept other → state ≡ other
  pub one_fault : (fault other : ReplayFault) → IsReplayFault facts kept fault → IsReplayFault facts kept other → fault ≢ OutOfMemory → other ≢ OutOfMemory → fault ≡ other
  pub apart : (state : State) (fault : ReplayFault) → IsReplayed facts kept state → IsReplayFault facts kept fault → fault ≡ OutOfMemory
