use Rattle.std.proofs.Common.{◌-◌, sym, subst}
use Rattle.text_readers.specs.Reading.{IsRefused, Leads}
use Rattle.publish.specs.Reader.{grammar_at}
use Rattle.publish.specs.Rows.{IsRest}
use Rattle.publish.proofs.rows.RowsReader.take_row.Goals as goal

pub returns-in_default-clause-answered : goal.returns-in_default-clause-answered
returns-in_default-clause-answered c =
    let s = c.args.self.now in
    subst (λ st. IsRefused (grammar_at st s) c.args.line.now) (sym c.requires.stage) (c.in_default.ensures.none s.number s.rows)

pub returns-clause-answered : goal.returns-clause-answered
returns-clause-answered c =
    let s = c.args.self.now in
    let next = c.in-Some.next.now in
    let rows = c.extend_from_slice.new.self in
    subst (λ st. Leads (grammar_at st s) (grammar_at st (record s { people = c.in-Some.next; left = s.left - 1; rows = rows })) c.args.line.now) (sym c.requires.stage)
    (subst (λ z. Leads (IsRest s.sort s.matrix.now s.people.now s.number s.left s.rows) (IsRest s.sort s.matrix.now next s.number (s.left - 1) z) c.args.line.now) (sym c.in_ok-extend_from_slice.ensures.ok)
    (c.in-Some.ensures.some s.number s.rows))
