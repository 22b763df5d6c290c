-- What a command does, the office does with the words that spell it.
use Rattle.std.proofs.Common.{◌≡◌, ℕ, List, inr, subst, sym}
use Rattle.command_words.specs.Words.{Spell}
use Rattle.command_words.specs.declared.words.Command.{Command}
use Rattle.command_answers.specs.declared.status.Status.{Status}
use Rattle.office_commands.specs.Call.{Call}
use Rattle.office_commands.specs.Keeping.{Answers, Runs, RunsWords, Spares}
use Rattle.office_commands.proofs.Blaming.{blames_as}

-- Words spell one command.
pub runs_words : ((words : List (List ℕ)) (command other : Command) → Spell words command → Spell words other → command ≡ other) → (words : List (List ℕ)) (command : Command) (call : Call) (status : Status)
    → Spell words command → Runs command call status → RunsWords words call status
runs_words one words command call status spelled runs =
    let same : (other : Command) → Spell words other → command ≡ other = λ other spells. one words command other spelled spells in record {
      written = let (output, appends, ends) = runs.written in (output, appends, inr (inr (command, spelled, ends)));
      spares = λ other spells. subst (λ (k : Command). Spares k call status) (same other spells) runs.spares;
      answers = λ other spells. subst (λ (k : Command). Answers k call status) (same other spells) runs.answers;
      usage = λ nothing. absurd (nothing command spelled);
      spared_doors = λ other. runs.spares.spared_doors (λ serves. other (command, spelled, serves));
      blamed = blames_as _ _ status _ _ (λ serves. (command, spelled, serves)) runs.blamed;
    }
