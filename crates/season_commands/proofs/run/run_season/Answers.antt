use Rattle.std.proofs.Common.{true, Err, rules}
use Rattle.season_commands.specs.Check.{bundle_answers}
use Rattle.command_answers.proofs.Ended.{input_is_answered}
use Rattle.season_commands.proofs.RunEnds.{no_faulty_bundle, read_ends, unread_ends}
use Rattle.season_commands.proofs.run.run_season.Goals as goal

pub returns-in-Ok-clause-written : goal.returns-in-Ok-clause-written
returns-in-Ok-clause-written g c =
    read_ends (g.S.Source.left c.args.source.now) (g.P.Keeper.seen c.args.keeper).tables (g.P.Keeper.seen c.run_script.result.1).tables c.in-Ok.season c.in-Ok.script c.as_slice.result.now
    (g.K.Sink.written c.args.sink.now) (g.K.Sink.written c.run_script.new.sink) c.run_script.result.0 c.in-Ok.ensures.bundle c.as_slice.ensures c.run_script.ensures.written

pub returns-in-Ok-clause-runs : goal.returns-in-Ok-clause-runs
returns-in-Ok-clause-runs g c =
    let e = c.run_script.ensures.runs in record {
      read_whole = search rules;
      read_blamed = search rules;
      blamed = e.blamed;
      complete = λ tells none read kept. e.complete none kept;
      refused = λ tells read wrote. absurd (no_faulty_bundle true _ c.in-Ok.season c.in-Ok.script c.one_bundle_answer.ensures c.in-Ok.ensures.bundle tells);
      not_empty = λ tells read kept. e.not_empty tells kept;
    }

pub returns-in-Err-clause-written : goal.returns-in-Err-clause-written
returns-in-Err-clause-written g c =
    unread_ends _ _ c.in-Err.failure _ _ _ _ c.tell_failure.result c.in-Err.ensures.failure c.tell_failure.ensures.told

pub returns-in-Err-clause-runs : goal.returns-in-Err-clause-runs
returns-in-Err-clause-runs g c = record {
  read_whole = search rules;
  read_blamed = search rules;
  blamed = search rules;
  complete = λ tells none read kept. input_is_answered (bundle_answers true) _ _ (Err c.in-Err.failure) c.tell_failure.result _ _ _ (c.one_bundle_answer.ensures true) c.in-Err.ensures.failure c.tell_failure.ensures.told tells read kept.0;
  refused = search rules;
  not_empty = search rules;
}
