use Rattle.std.proofs.Common.{inr, refl, rules}
use Rattle.season_commands.proofs.GeneratedEnds.{counted_made, made_ends, unbegun_made, unmade_ends, unmade_is_told}
use Rattle.season_commands.proofs.Still.{some_apart, still_none}
use Rattle.season_commands.proofs.generated_run.run_generated.Goals as goal

pub returns-in-Ok-clause-written : goal.returns-in-Ok-clause-written
returns-in-Ok-clause-written g c =
    made_ends c.args.n c.args.seed (g.P.Keeper.seen c.args.keeper).tables _ c.in-Ok.season c.in-Ok.script c.in-Ok.script
    (g.K.Sink.written c.args.sink.now) (g.K.Sink.written c.tell_unbegun.new.sink) c.tell_unbegun.result c.in-Ok.ensures.season refl
    (unbegun_made c.args.n c.args.seed c.in-Ok.season c.in-Ok.script _ _ c.in-Err-begin.fault _ _ _ c.tell_unbegun.result c.in-Err-begin.ensures.not_empty c.in-Err-begin.ensures.err c.tell_unbegun.ensures.told)

pub returns-in-Ok-begin-clause-written : goal.returns-in-Ok-begin-clause-written
returns-in-Ok-begin-clause-written g c =
    made_ends c.args.n c.args.seed (g.P.Keeper.seen c.args.keeper).tables (g.P.Keeper.seen c.count_office.result.1).tables c.in-Ok.season c.in-Ok.script c.as_slice.result.now
    (g.K.Sink.written c.args.sink.now) (g.K.Sink.written c.count_office.new.sink) c.count_office.result.0 c.in-Ok.ensures.season c.as_slice.ensures
    (counted_made c.args.n c.args.seed c.in-Ok.season c.as_slice.result.now c.in-Ok-begin.office.season _ (g.P.Keeper.seen c.count_office.result.1).tables _ _ c.count_office.result.0 c.in-Ok-begin.ensures.ok.season
    (still_none _ _ _ c.count_office.ensures.told_before c.in-Ok-begin.ensures.ok.empty)
    c.count_office.ensures.written)

pub returns-in-Ok-begin-clause-runs : goal.returns-in-Ok-begin-clause-runs
returns-in-Ok-begin-clause-runs g c = record {
  no_read_fault = search rules;
  blamed = record { write_fault = search rules; keeper_fault = search rules; sink_steady = search rules; keeper_count = search rules; keeper_steady = search rules };
  complete = search rules;
  not_empty = λ tells still. absurd (some_apart _ (still_none _ _ _ c.count_office.ensures.told_before c.in-Ok-begin.ensures.ok.empty) tells);
}

pub returns-clause-written : goal.returns-clause-written
returns-clause-written g c = unmade_ends c.args.n c.args.seed _ _ _ _ c.tell_no_memory.result c.tell_no_memory.ensures.told

pub returns-clause-runs : goal.returns-clause-runs
returns-clause-runs g c = record {
  no_read_fault = search rules;
  blamed = search rules;
  complete = λ none kept. inr (unmade_is_told _ _ _ c.tell_no_memory.result c.tell_no_memory.ensures.told kept.0);
  not_empty = λ held kept. inr (unmade_is_told _ _ _ c.tell_no_memory.result c.tell_no_memory.ensures.told kept.0);
}
