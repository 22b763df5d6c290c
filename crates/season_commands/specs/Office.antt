-- How requests end that are answered over an office, each reply written before the next request is handled.
use Rattle.std.specs.Prelude.{◌≡◌, ◌⊎◌, ℕ, List, ◌++◌, Err, take}
use Rattle.office_asks.specs.declared.ask.Request.{Request}
use Rattle.kept_rows.specs.Tables.{Tables}
use Rattle.office_moves.specs.Facts.{SeasonFacts}
use Rattle.office_moves.specs.State.{State}
use Rattle.season_commands.specs.Runs.{AfterSome, EndsBy}
use Rattle.season_commands.specs.declared.fault.RunFault.{RunFault}
use Rattle.season_commands.specs.declared.fault.RunFault.TheVariants.{KeeperFault as NoKeeper, OutOfMemory as NoMemory, WriteFault as NotWritten}
use Rattle.office_base.specs.FaultLines.{memory_line}
use Rattle.command_answers.specs.Writes.{keeper_line}
use Rattle.command_answers.specs.declared.status.Status.{Status}
use Rattle.command_answers.specs.declared.status.Status.TheVariants.{Ok as Done, WriteFault, KeeperFault, OutOfMemory}

-- a run ended for this reason, and this text follows what is written of its replies
abbrev pub Follows : SeasonFacts → State → List Request → Tables → RunFault → List ℕ → List ℕ → Type 0
Follows facts start script tables fault text output = (some : List ℕ) × (state : State) × EndsBy facts start script (Err fault) some state tables × (output ≡ some ++ text)

-- how the requests that are answered from a state end, by the status: what is written, and what the tables represent;
-- if the sink fails, the output ends within a reply, or within the line of another fault
abbrev pub EndsOffice : SeasonFacts → State → List Request → Tables → Status → List ℕ → Type 0
EndsOffice facts start script tables Done output = (state : State) × AfterSome facts start script output state tables
EndsOffice facts start script tables WriteFault output = ((state : State) × EndsBy facts start script (Err NotWritten) output state tables)
    ⊎ ((n : ℕ) × (Follows facts start script tables NoKeeper (take n keeper_line) output ⊎ Follows facts start script tables NoMemory (take n memory_line) output))
EndsOffice facts start script tables KeeperFault output = Follows facts start script tables NoKeeper keeper_line output
EndsOffice facts start script tables OutOfMemory output = Follows facts start script tables NoMemory memory_line output
EndsOffice facts start script tables other output = ⊥
