use Rattle.std.proofs.Common.{◌≡◌, Err, true, ap, refl}
use Rattle.command_words.specs.declared.words.WordsFault.TheVariants as words_fault
use Rattle.command_answers.proofs.Streamed.{usage_refused, want_refused}
use Rattle.season_program.proofs.Looking.{looks_as, want_looked}
use Rattle.season_program.proofs.look.first_look.Goals as goal

pub returns-in-Ok : goal.returns-in-Ok
returns-in-Ok g c = record {
  command = λ command spelled. looks_as command c.in-Ok.command _ _ c.look.result (c.one_spelling.ensures c.args.words.now command c.in-Ok.command spelled c.in-Ok.ensures.command) c.look.ensures;
  usage = λ nothing. absurd (nothing c.in-Ok.command c.in-Ok.ensures.command);
}

pub returns-in-Err-Usage : goal.returns-in-Err-Usage
returns-in-Err-Usage g c =
    let fault : c.in-Err-Usage.field-0 ≡ words_fault.Usage = cc in
    let none = c.in-Err-Usage.ensures.usage (ap Err fault) in record {
      command = λ command spelled. absurd (none command spelled);
      usage = λ nothing. usage_refused _ _ c.tell_usage.result (refl, refl) c.tell_usage.ensures;
    }

pub returns-in-Err-OutOfMemory : goal.returns-in-Err-OutOfMemory
returns-in-Err-OutOfMemory g c = record {
  command = λ command spelled. want_looked command _ _ c.tell_no_memory.result c.one_answer.ensures (c.one_bundle_answer.ensures true) (refl, refl) c.tell_no_memory.ensures;
  usage = λ nothing. want_refused _ _ c.tell_no_memory.result (refl, refl) c.tell_no_memory.ensures;
}
