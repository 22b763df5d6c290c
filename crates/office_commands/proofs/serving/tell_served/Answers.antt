use Rattle.std.proofs.Common.{◌≡◌, ℕ, List, Result, Err, refl, rules, subst, sym}
use Rattle.command_answers.specs.Writes.{Writes, keeper_line}
use Rattle.office_base.specs.FaultLines.{memory_line}
use Rattle.office_base.specs.Outside.{Appends}
use Rattle.http_wire.specs.declared.faults.Fault.{Fault}
use Rattle.http_wire.specs.declared.faults.Fault.TheVariants.{Keeper, Memory}
use Rattle.command_answers.specs.declared.status.Status.TheVariants.{KeeperFault, OutOfMemory}
use Rattle.command_answers.proofs.Ended.{told_is_written}
use Rattle.office_commands.specs.Serve.{IsLastText, IsLostText}
use Rattle.office_commands.proofs.ServedEnds.{lost_is_told}
use Rattle.office_commands.proofs.serving.tell_served.Goals as goal

pub returns-in-Ok-clause-written : goal.returns-in-Ok-clause-written
returns-in-Ok-clause-written g c =
    subst (λ (settled : Result (Unit {0}) Fault). (output : List ℕ) × Appends output (g.K.Sink.written c.args.sink.now) (g.K.Sink.written c.tell_kept.new.sink)
    × Writes (IsLastText settled c.args.served.office.season c.args.served.office.entries (g.P.Keeper.seen c.tell_kept.result.1).tables c.args.served.door_failed) c.tell_kept.result.0 output)
    (sym c.in-Ok.is) c.tell_kept.ensures.written

pub returns-in-Err-Keeper-clause-written : goal.returns-in-Err-Keeper-clause-written
returns-in-Err-Keeper-clause-written g c =
    let is : c.args.served.settled ≡ Err Keeper = search rules in
    lost_is_told c.args.served.settled Keeper c.args.served.office.season c.args.served.office.entries (g.P.Keeper.seen c.into_keeper.result).tables c.args.served.door_failed _ _ c.tell_keeper_fault.result is
    (told_is_written (IsLostText Keeper) KeeperFault c.tell_keeper_fault.result keeper_line _ _ _ (refl, refl) c.tell_keeper_fault.ensures.told)

pub returns-in-Err-Memory-clause-written : goal.returns-in-Err-Memory-clause-written
returns-in-Err-Memory-clause-written g c =
    let is : c.args.served.settled ≡ Err Memory = search rules in
    lost_is_told c.args.served.settled Memory c.args.served.office.season c.args.served.office.entries (g.P.Keeper.seen c.into_keeper-in-Err-Memory.result).tables c.args.served.door_failed _ _ c.tell_no_memory.result is
    (told_is_written (IsLostText Memory) OutOfMemory c.tell_no_memory.result memory_line _ _ _ (refl, refl) c.tell_no_memory.ensures.told)
