use Rattle.std.proofs.Common.{◌∙◌, refl}
use Rattle.office_base.specs.FaultLines.{memory_line}
use Rattle.command_answers.specs.declared.status.Status.TheVariants.{Ok as Done, OutOfMemory}
use Rattle.command_answers.proofs.Ended.{told_is_written}
use Rattle.season_commands.specs.Generated.{IsGeneratedText}
use Rattle.season_commands.proofs.generated_text.write_generated.Goals as goal

pub returns-in-Ok-clause-written : goal.returns-in-Ok-clause-written
returns-in-Ok-clause-written g c =
    told_is_written (IsGeneratedText c.args.n c.args.seed) Done c.write_answer.result c.as_slice.result.now _ _ _ (c.as_slice.ensures ∙ c.in-Ok.ensures) c.write_answer.ensures.told

pub returns-in-Err-clause-written : goal.returns-in-Err-clause-written
returns-in-Err-clause-written g c = told_is_written (IsGeneratedText c.args.n c.args.seed) OutOfMemory c.tell_no_memory.result memory_line _ _ _ refl c.tell_no_memory.ensures.told
