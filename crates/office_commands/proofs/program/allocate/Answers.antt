use Rattle.std.proofs.Common.{◌≡◌, Err, ap, inl, inr, refl, rules, subst, sym}
use Rattle.command_words.specs.Words.{Spell}
use Rattle.command_words.specs.declared.words.Command.{Command}
use Rattle.command_words.specs.declared.words.WordsFault.TheVariants as words_fault
use Rattle.office_commands.specs.Keeping.{Answers, Spares}
use Rattle.office_commands.proofs.Blaming.{blames_as}
use Rattle.office_base.specs.FaultLines.{memory_line}
use Rattle.command_answers.specs.Writes.{IsUsageText, IsWantText, usage_line}
use Rattle.command_answers.specs.declared.status.Status.TheVariants.{OutOfMemory, Usage}
use Rattle.command_answers.specs.declared.status.Status.{Status}
use Rattle.office_commands.specs.Call.{Call}
use Rattle.command_answers.proofs.Ended.{told_is_written}
use Rattle.office_commands.proofs.program.allocate.Goals as goal

-- the words spell one command
spares_as : (one other : Command) (call : Call) (status : Status) → one ≡ other → Spares other call status → Spares one call status
spares_as one other call status same is = subst (λ (k : Command). Spares k call status) (sym same) is

answers_as : (one other : Command) (call : Call) (status : Status) → one ≡ other → Answers other call status → Answers one call status
answers_as one other call status same is = subst (λ (k : Command). Answers k call status) (sym same) is

pub returns-in-Ok : goal.returns-in-Ok
returns-in-Ok g c =
    let e = c.run.ensures in
    let same : (command : Command) → Spell c.args.words.now command → command ≡ c.in-Ok.command = λ command spelled. c.one_spelling.ensures c.args.words.now command c.in-Ok.command spelled c.in-Ok.ensures.command in record {
      written = search rules;
      spares = λ command spelled. spares_as command _ _ _ (same command spelled) e.spares;
      answers = λ command spelled. answers_as command _ _ _ (same command spelled) e.answers;
      usage = search rules;
      spared_doors = λ other. e.spares.spared_doors (λ serves. other (c.in-Ok.command, c.in-Ok.ensures.command, serves));
      blamed = blames_as _ _ c.run.result.0 _ _ (λ serves. (c.in-Ok.command, c.in-Ok.ensures.command, serves)) e.blamed;
    }

pub returns-in-Err-Usage : goal.returns-in-Err-Usage
returns-in-Err-Usage g c =
    let fault : c.in-Err-Usage.field-0 ≡ words_fault.Usage = cc in
    let none = c.in-Err-Usage.ensures.usage (ap Err fault) in
    let (output, appends, writes) = told_is_written IsUsageText Usage c.write_answer.result usage_line _ _ _ refl c.write_answer.ensures.told in record {
      written = (output, appends, inr (inl (none, (writes, refl))));
      spares = λ command spelled. absurd (none command spelled);
      answers = λ command spelled. absurd (none command spelled);
      usage = search rules;
      spared_doors = λ other. refl;
      blamed = search rules;
    }

pub returns-in-Err-OutOfMemory : goal.returns-in-Err-OutOfMemory
returns-in-Err-OutOfMemory g c =
    let (output, appends, writes) = told_is_written IsWantText OutOfMemory c.tell_no_memory.result memory_line _ _ _ refl c.tell_no_memory.ensures.told in record {
      written = (output, appends, inl (writes, refl, refl));
      spares = search rules;
      answers = search rules;
      usage = search rules;
      spared_doors = λ other. refl;
      blamed = search rules;
    }
