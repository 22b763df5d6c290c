use Rattle.std.proofs.Common.{inl, subst}
use Rattle.season_commands.specs.declared.fault.RunFault.{RunFault}
use Rattle.season_commands.proofs.OfficeEnds.{IsStopped, keeper_ends, memory_ends}
use Rattle.season_commands.proofs.office.answer_script.Goals as goal

pub returns-in-Err-KeeperFault-clause-written : goal.returns-in-Err-KeeperFault-clause-written
returns-in-Err-KeeperFault-clause-written g c =
    let e = c.in-Err-KeeperFault in
    let P = λ (f : RunFault). IsStopped c.args.office.now.season c.args.office.now.state c.args.script.now f c.answer_all.new.office.state (g.P.Keeper.seen c.answer_all.new.office.keeper).tables (g.K.Sink.written c.args.sink.now)
    (g.K.Sink.written c.answer_all.new.sink) in
    keeper_ends _ _ _ _ _ _ _ _ _ c.tell_keeper_fault.result (subst P e.field-0-is e.ensures.ended) c.tell_keeper_fault.ensures.told

pub returns-in-Err-OutOfMemory-clause-written : goal.returns-in-Err-OutOfMemory-clause-written
returns-in-Err-OutOfMemory-clause-written g c =
    let e = c.in-Err-OutOfMemory in
    let P = λ (f : RunFault). IsStopped c.args.office.now.season c.args.office.now.state c.args.script.now f c.answer_all.new.office.state (g.P.Keeper.seen c.answer_all.new.office.keeper).tables (g.K.Sink.written c.args.sink.now)
    (g.K.Sink.written c.answer_all.new.sink) in
    memory_ends _ _ _ _ _ _ _ _ _ c.tell_no_memory.result (subst P e.field-0-is e.ensures.ended) c.tell_no_memory.ensures.told

pub returns-in-Err-WriteFault-clause-written : goal.returns-in-Err-WriteFault-clause-written
returns-in-Err-WriteFault-clause-written g c =
    let e = c.in-Err-WriteFault in
    let P = λ (f : RunFault). IsStopped c.args.office.now.season c.args.office.now.state c.args.script.now f c.answer_all.new.office.state (g.P.Keeper.seen c.answer_all.new.office.keeper).tables (g.K.Sink.written c.args.sink.now)
    (g.K.Sink.written c.answer_all.new.sink) in
    let (output, appends, ends) = subst P e.field-0-is e.ensures.ended in (output, appends, inl (c.answer_all.new.office.state, ends))
