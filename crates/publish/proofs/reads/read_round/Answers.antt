use Rattle.std.proofs.Common.{subst}
use Rattle.text_readers.specs.Reading.{IsTextFault}
use Rattle.publish.specs.Rows.{IsRowsText}
use Rattle.publish.specs.declared.sort.Sort.TheVariants.{Round}
use Rattle.publish.proofs.WholeLemmas.{round-fault, round-text}
use Rattle.publish.proofs.reads.read_round.Goals as goal

pub returns-in-Ok-clause-value : goal.returns-in-Ok-clause-value
returns-in-Ok-clause-value c =
    let s = c.args.season.now in
    round-text s.matrix s.register.people 0 c.in-Ok.round c.args.text.now c.in-Ok.rows
    (subst (λ z. IsRowsText Round s.matrix z 0 c.args.text.now (c.in-Ok.round, c.in-Ok.rows)) c.small_people-people.ensures.same c.in-Ok.ensures.value)

pub returns-in-Err-clause-fault : goal.returns-in-Err-clause-fault
returns-in-Err-clause-fault c =
    let s = c.args.season.now in
    round-fault s.matrix s.register.people 0 c.args.text.now c.in-Err.fault
    (subst (λ z. IsTextFault (IsRowsText Round s.matrix z 0) c.args.text.now c.in-Err.fault) c.small_people-people.ensures.same c.in-Err.ensures.fault)
