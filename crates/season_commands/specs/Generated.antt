-- The command `generate`. A number of candidates and a seed name a bundle. Its output is that bundle; or an office begins
-- over the given keeper and answers the requests of the bundle, and the output is a summary.
-- Nothing of the summary is written before the last request is answered.
use Rattle.std.specs.Prelude.{◌≡◌, ◌⊎◌, ℕ, true, false, List, Result, Ok, Err, map, length}
use Rattle.office_asks.specs.declared.ask.Request.{Request}
use Rattle.season_file.specs.Season.{IsSeasonWith}
use Rattle.season_file.specs.declared.season.Season.{Season}
use Rattle.kept_rows.specs.Tables.{Tables, AreTold, IsFound, still}
use Rattle.rounds.specs.Round.{seated}
use Rattle.office_moves.specs.Facts.{SeasonFacts}
use Rattle.season_facts.specs.Season.{facts_of}
use Rattle.office_moves.specs.State.{State, opening}
use Rattle.shown_replies.specs.Shown.{rows_shown}
use Rattle.season_commands.specs.Tally.{CountsAll, StopsBefore}
use Rattle.season_commands.specs.declared.tally.Tally.{Tally}
use Rattle.round_cut.specs.declared.fault.OfficeFault.{OfficeFault}
use Rattle.round_cut.specs.declared.fault.OfficeFault.TheVariants.{KeeperFault as NoKeeper, OutOfMemory as NoMemory}
use Rattle.season_generator.specs.Bundle.{generated}
use Rattle.season_generator.specs.Summary.{summary_text}
use Rattle.season_generator.specs.declared.summary.Summary.{Summary}
use Rattle.office_base.specs.FaultLines.{memory_line}
use Rattle.command_answers.specs.Writes.{IsWantText, Writes, keeper_line}
use Rattle.command_answers.specs.declared.status.Status.{Status}
use Rattle.command_answers.specs.declared.status.Status.TheVariants.{Ok as Done, KeeperFault, OutOfMemory}
use Rattle.season_commands.specs.Run.{IsUnbegunText}

-- ---- the bundle

-- the whole text that goes with each status if a season is generated and written
abbrev pub IsGeneratedText : ℕ → ℕ → Status → List ℕ → Type 0
IsGeneratedText n seed Done text = text ≡ generated n seed
IsGeneratedText n seed OutOfMemory text = text ≡ memory_line
IsGeneratedText n seed other text = ⊥

-- ---- where an office answers the requests

-- the result of the season, by the tally of its answers and the last state:
-- how many have a seat in each round, and the final rows, each of which has one
abbrev pub summary_of : ℕ → ℕ → Tally → State → Summary
summary_of n seed tally state = record {
  candidates = n;
  seed = seed;
  seated = map (λ round. seated round.seats) state.rounds;
  noted = tally.noted;
  refused = tally.refused;
  admitted = length (rows_shown state);
}

-- all requests are answered, the tables represent the state after them, and this is the text of the summary
abbrev pub IsSummed : ℕ → ℕ → SeasonFacts → List Request → Tables → List ℕ → Type 0
IsSummed n seed facts script tables text =
    (state : State) × (tally : Tally) × CountsAll facts opening script state tables tally × (text ≡ summary_text (summary_of n seed tally state))

-- the first requests are answered, and no more; the tables represent the state after them
abbrev pub StandsForFirst : SeasonFacts → List Request → Tables → Type 0
StandsForFirst facts script tables = (state : State) × StopsBefore facts opening script state tables

-- all are answered; the tables represent the state after them
abbrev pub StandsForAll : SeasonFacts → List Request → Tables → Type 0
StandsForAll facts script tables = (state : State) × (tally : Tally) × CountsAll facts opening script state tables tally

-- the whole text that goes with each status, and what the tables represent with it
abbrev pub IsCountedText : ℕ → ℕ → SeasonFacts → List Request → Tables → Status → List ℕ → Type 0
IsCountedText n seed facts script tables Done text = IsSummed n seed facts script tables text
IsCountedText n seed facts script tables KeeperFault text = (text ≡ keeper_line) × StandsForFirst facts script tables
IsCountedText n seed facts script tables OutOfMemory text = (text ≡ memory_line) × (StandsForFirst facts script tables ⊎ StandsForAll facts script tables)
IsCountedText n seed facts script tables other text = ⊥

-- ---- all together

-- how a generated season that was read ends: no office begins, and the tables are unchanged;
-- or the keeper held no season, and an office answers its requests
abbrev pub EndsMade : ℕ → ℕ → Season → List Request → Tables → Tables → Status → List ℕ → Type 0
EndsMade n seed season script before after status output = (Writes (IsUnbegunText (still before after)) status output × AreTold before after)
    ⊎ (IsFound false (still before after) × Writes (IsCountedText n seed (facts_of season) script after) status output)

-- how the command ends: memory runs out for the season, and the tables are unchanged;
-- or the season of the generated bundle ends
abbrev pub EndsGeneratedRun : ℕ → ℕ → Tables → Tables → Status → List ℕ → Type 0
EndsGeneratedRun n seed before after status output = (Writes IsWantText status output × (after ≡ before))
    ⊎ ((season : Season) × (script : List Request) × IsSeasonWith true (generated n seed) season script × EndsMade n seed season script before after status output)

-- ---- a summary, or why there is none

-- the status, and the text that goes with it
abbrev pub summed_status : Result (List ℕ) OfficeFault → Status
summed_status (Ok text) = Done
summed_status (Err NoKeeper) = KeeperFault
summed_status (Err NoMemory) = OutOfMemory

abbrev pub summed_text : Result (List ℕ) OfficeFault → List ℕ
summed_text (Ok text) = text
summed_text (Err NoKeeper) = keeper_line
summed_text (Err NoMemory) = memory_line
