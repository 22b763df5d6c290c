-- The programs for a first look run a part of the commands: what they promise, the office promises.
use Rattle.std.specs.Prelude.{◌≡◌, ℕ, List, []}
use Rattle.office_base.specs.Visible.{Streams}
use Rattle.kept_rows.specs.Tables.{Tables, NoSeason, IsTold}
use Rattle.command_answers.specs.Ends.{AnswersText, RefusesUsage}
use Rattle.command_answers.specs.declared.status.Status.{Status}
use Rattle.command_words.specs.Words.{Spell, SpellNothing}
use Rattle.command_words.specs.declared.words.Command.TheVariants.{Step, Check, Run, Generate}
use Rattle.command_words.specs.declared.words.OutKind.TheVariants as out_kind
use Rattle.command_words.specs.declared.words.Store.{Store}
use Rattle.season_commands.specs.Anew.{CountsAnew, Generates, RunsAnew}
use Rattle.season_commands.specs.Check.{check_answers}
use Rattle.step_command.specs.Step.{step_answers}
use Rattle.office_commands.specs.Call.{Call}
use Rattle.office_commands.specs.Keeping.{RunsWords}

-- a call over a keeper that never fails, with these tables before and after, and without doors
abbrev pub lone_call : Streams → Streams → Tables → Tables → Call
lone_call old new tables now_tables = record {
  left = old.source.left;
  still_left = new.source.left;
  written = old.sink.written;
  now_written = new.sink.written;
  tables = tables;
  now_tables = now_tables;
  same_keeper = now_tables ≡ tables;
  doors = record { spared = Unit {0}; served = λ facts before after failed. ⊥; lost = λ facts before after failed. ⊥ };
  all_came = Unit {0};
  coming = [];
  still_coming = [];
  counts = record { source = old.source.faults; sink = old.sink.faults; keeper = 0; doors = [] };
  now_counts = record { source = new.source.faults; sink = new.sink.faults; keeper = 0; doors = [] };
  door_failed = ⊥;
}

-- the office runs the words over any keeper, and leaves it as it was
abbrev pub RunsUntouched : List (List ℕ) → Streams → Streams → Status → Type 0
RunsUntouched words old new status = (tables : Tables) → RunsWords words (lone_call old new tables tables) status

-- the office runs the words over a keeper without a season, whose tables are visible at the end
abbrev pub RunsFresh : List (List ℕ) → Streams → Streams → Status → Type 0
RunsFresh words old new status = (after : Tables) × IsTold after × RunsWords words (lone_call old new NoSeason after) status

-- What a first look does with words is what the office does with them.
pub record IsTheOffice (words : List (List ℕ)) (old new : Streams) (status : Status) : Type 0 where
  pub step : Spell words Step → AnswersText step_answers old new status → RunsUntouched words old new status
  pub check : Spell words Check → AnswersText check_answers old new status → RunsUntouched words old new status
  pub run : (store : Store) → Spell words (Run store) → RunsAnew old new status → RunsFresh words old new status
  pub generate : (n seed : ℕ) → Spell words (Generate n seed out_kind.Text) → Generates n seed old new status → RunsUntouched words old new status
  pub count : (n seed : ℕ) → Spell words (Generate n seed out_kind.Run) → CountsAnew n seed old new status → RunsFresh words old new status
  pub usage : SpellNothing words → RefusesUsage old new status → RunsUntouched words old new status
