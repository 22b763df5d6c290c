use Rattle.std.proofs.Common.{◌+◌, subst}
use Rattle.text_readers.specs.Reading.{IsTextFault}
use Rattle.publish.specs.Rows.{IsRowsText}
use Rattle.publish.specs.declared.sort.Sort.TheVariants.{Final}
use Rattle.publish.proofs.WholeLemmas.{final-fault, final-text}
use Rattle.publish.proofs.reads.read_final.Goals as goal

pub returns-in-Ok-clause-value : goal.returns-in-Ok-clause-value
returns-in-Ok-clause-value c =
    let s = c.args.season.now in
    final-text s.matrix s.register.people (s.rounds + 1) c.in-Ok.field-0-0 c.args.text.now c.in-Ok.rows
    (subst (λ z. IsRowsText Final s.matrix z (s.rounds + 1) c.args.text.now (c.in-Ok.field-0-0, c.in-Ok.rows)) c.small_people-people.ensures.same c.in-Ok.ensures.value)

pub returns-in-Err-clause-fault : goal.returns-in-Err-clause-fault
returns-in-Err-clause-fault c =
    let s = c.args.season.now in
    final-fault s.matrix s.register.people (s.rounds + 1) c.args.text.now c.in-Err.fault
    (subst (λ z. IsTextFault (IsRowsText Final s.matrix z (s.rounds + 1)) c.args.text.now c.in-Err.fault) c.small_people-people.ensures.same c.in-Err.ensures.fault)
