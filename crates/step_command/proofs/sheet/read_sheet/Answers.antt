use Rattle.std.proofs.Common.{arith}
use Rattle.std.proofs.lemmas.Result.{IfErr-weaker}
use Rattle.step_command.proofs.SheetLemmas.{error_after}
use Rattle.step_command.proofs.sheet.read_sheet.Goals as goal

pub returns-in-Ok-clause-fault : goal.returns-in-Ok-clause-fault
returns-in-Ok-clause-fault c =
    let head = rw c.skip_mark.ensures.value at c.in-Ok.ensures.head in
    IfErr-weaker c.body.result _ _ (λ e wrong. error_after c.args.bytes.now c.in-Ok.rest.now c.in-Ok.seats c.in-Ok.next e (omega arith) head wrong) c.body.ensures.fault
