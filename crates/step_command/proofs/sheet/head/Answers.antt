use Rattle.std.proofs.Common.{◌≡◌, ◌∷◌, ap, arith, map, None}
use Rattle.std.proofs.lemmas.Grind.{common_steps}
use Rattle.std.proofs.lemmas.Result.{IfOk-weaker, IfErr-weaker}
use Rattle.office_text.specs.Lines.{lines_of, trimmed}
use Rattle.step_command.specs.Sheet.{first_fault}
use Rattle.step_command.proofs.RowLemmas.{fault_after_first}
use Rattle.step_command.proofs.SheetLemmas.{head_from}
use Rattle.step_command.proofs.sheet.head.Goals as goal

pub returns-clause-head : goal.returns-clause-head
returns-clause-head c =
    let right : first_fault (trimmed c.in-Some.line.now) ≡ None = grind (arith, common_steps) in
    IfOk-weaker c.seats_row.result _ _ (λ read seats. head_from c.args.bytes.now c.in-Some.rest.now c.in-Some.line.now read.0 read.1 read.2.now c.in-Some.ensures.some right seats) c.seats_row.ensures.seats

pub returns-clause-fault : goal.returns-clause-fault
returns-clause-fault c =
    let right : first_fault (trimmed c.in-Some.line.now) ≡ None = grind (arith, common_steps) in
    let lines : map trimmed (lines_of c.args.bytes.now) ≡ trimmed c.in-Some.line.now ∷ map trimmed (lines_of c.in-Some.rest.now) = ap (map trimmed) c.in-Some.ensures.some in
    IfErr-weaker c.seats_row.result _ _ (λ fault second. fault_after_first (map trimmed (lines_of c.args.bytes.now)) (trimmed c.in-Some.line.now) (map trimmed (lines_of c.in-Some.rest.now)) fault lines right second) c.seats_row.ensures.fault
