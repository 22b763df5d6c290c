-- What the program for a first look does with words.
use Rattle.std.specs.Prelude.{ℕ, List}
use Rattle.office_base.specs.Visible.{Streams}
use Rattle.command_answers.specs.Ends.{AnswersText, RefusesUsage}
use Rattle.command_answers.specs.declared.status.Status.{Status}
use Rattle.command_words.specs.Words.{Spell, SpellNothing}
use Rattle.command_words.specs.declared.words.Command.{Command}
use Rattle.command_words.specs.declared.words.Command.TheVariants.{Check, Run, Generate}
use Rattle.command_words.specs.declared.words.OutKind.TheVariants as out_kind
use Rattle.command_words.specs.declared.words.Store.TheVariants.{Memory}
use Rattle.season_commands.specs.Anew.{CountsAnew, Generates, RunsAnew}
use Rattle.season_commands.specs.Check.{check_answers}

-- what it does under a command: `check`, `run` over a store in memory and `generate` are its own, and it refuses the others
abbrev pub Looks : Command → Streams → Streams → Status → Type 0
Looks Check = AnswersText check_answers
Looks (Run Memory) = RunsAnew
Looks (Generate n seed out_kind.Text) = Generates n seed
Looks (Generate n seed out_kind.Run) = CountsAnew n seed
Looks other = RefusesUsage

-- What it does with words: what the command does that they spell, and words that spell none are refused.
pub record LooksFirst (words : List (List ℕ)) (old new : Streams) (status : Status) : Type 0 where
  pub command : (command : Command) → Spell words command → Looks command old new status
  pub usage : SpellNothing words → RefusesUsage old new status
