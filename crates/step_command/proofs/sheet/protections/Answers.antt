use Rattle.std.proofs.Common.{◌+◌, ◌∙◌, arith, length-set}
use Rattle.step_command.specs.declared.fault.SheetFault.{SheetFault}
use Rattle.step_command.specs.Reading.{rest_rows, rest_numbers}
use Rattle.step_command.proofs.RowLemmas.{all_named, cands_named, fault_protect, named_step, passed_named, total_step}
use Rattle.step_command.proofs.sheet.protections.Goals as goal

pub returns-in-Err-clause-fault : goal.returns-in-Err-clause-fault
returns-in-Err-clause-fault c =
    let fault : SheetFault = record { line = c.in-Some.at; kind = c.in-Err.kind } in
    let read = rw (c.in-Some.ensures.some, c.in-Some.ensures.number) at c.loop-at.invariant.read in
    fault_protect c.args.seats c.loop-at.left (rest_rows c.args.bytes.now) (rest_numbers c.args.number c.args.bytes.now) c.loop-at.named c.in-Some.line.now (rest_rows c.in-Some.after.now) (rest_numbers (c.in-Some.at + 1) c.in-Some.after.now) fault read c.in-Some.ensures.protect c.loop-at.invariant.seats c.in-Err.ensures.fault

pub loop-at-preserved : goal.loop-at-preserved
loop-at-preserved c =
    let read = rw (c.in-Some.ensures.some, c.in-Some.ensures.number) at c.loop-at.invariant.read in
    record {
      read = named_step c.args.seats c.loop-at.left (rest_rows c.args.bytes.now) (rest_numbers c.args.number c.args.bytes.now) c.loop-at.named c.in-Some.line.now (rest_rows c.in-Some.after.now) c.in-Some.at (rest_numbers (c.in-Some.at + 1) c.in-Some.after.now) c.in-Ok.t c.in-Ok.count c.from.result read c.in-Some.ensures.protect c.loop-at.invariant.seats c.in-Ok.ensures.right c.in-Ok.ensures.pair c.from.ensures;
      seats = total_step c.loop-at.named c.in-Ok.t c.in-Ok.count c.from.result c.loop-at.left c.args.seats c.from.ensures (omega (arith, c.in-Ok.ensures.small)) c.in-Ok.ensures.new c.in-Ok.ensures.within c.loop-at.invariant.seats;
      size = length-set c.loop-at.named c.from.result _ ∙ c.loop-at.invariant.size;
      within = omega (arith, c.in-Some.ensures.within);
    }

pub returns-clause-read : goal.returns-clause-read
returns-clause-read c =
    let rows = rest_rows c.args.bytes.now in
    let numbers = rest_numbers c.args.number c.args.bytes.now in
    let others = rest_rows c.loop-at.rest.now in
    let after = rest_numbers c.loop-at.next c.loop-at.rest.now in
    record {
      passed = passed_named c.args.seats rows numbers c.loop-at.named others after c.loop-at.invariant.read c.in_default.ensures.none;
      counts_given = c.protections_of.ensures ∙ all_named c.args.seats rows numbers c.loop-at.named others after c.loop-at.invariant.read c.in_default.ensures.none;
      cands_left = cands_named c.args.seats rows numbers c.loop-at.named others after c.loop-at.invariant.read c.in_default.ensures.none;
    }
