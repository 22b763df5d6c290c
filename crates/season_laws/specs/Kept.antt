-- What holds of the records that are kept of a history.
use Rattle.std.specs.Prelude.{◌≡◌, List}
use Rattle.kept_rows.specs.declared.rows.Kept.{Kept}
use Rattle.office_moves.specs.Facts.{IsSound, SeasonFacts}
use Rattle.office_moves.specs.History.{IsHistory}
use Rattle.office_moves.specs.Stands.{AreRecordsOf}
use Rattle.office_moves.specs.State.{State}
use Rattle.office_moves.specs.declared.moves.Entry.{Entry}
use Rattle.replays.specs.Faults.{IsReplayFault}
use Rattle.replays.specs.Replay.{IsReplayed}
use Rattle.replays.specs.declared.fault.ReplayFault.{ReplayFault}
use Rattle.replays.specs.declared.fault.ReplayFault.TheVariants.{OutOfMemory}

-- What an office kept is replayed: where a history leads to a state and records stand for it, these records are replayed to that state.
abbrev pub KeptIsReplayed : SeasonFacts → Type 0
KeptIsReplayed facts = (entries : List Entry) (state : State) (kept : Kept) → IsHistory facts entries state → AreRecordsOf facts state kept → IsReplayed facts kept state

-- So every fault of replaying such records is want of memory.
abbrev pub KeptHasNoFault : SeasonFacts → Type 0
KeptHasNoFault facts = (entries : List Entry) (state : State) (kept : Kept) (fault : ReplayFault) → IsSound facts → IsHistory facts entries state → AreRecordsOf facts state kept
    → IsReplayFault facts kept fault → fault ≡ OutOfMemory
