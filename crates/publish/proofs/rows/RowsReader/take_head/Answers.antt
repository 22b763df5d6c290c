use Rattle.std.proofs.Common.{sym, subst}
use Rattle.text_readers.specs.Reading.{IsRefused, Leads}
use Rattle.publish.specs.Reader.{IsFresh, grammar_at}
use Rattle.publish.specs.Rows.{IsRest, IsRowsText}
use Rattle.publish.proofs.rows.RowsReader.take_head.Goals as goal

pub returns-in_default-clause-answered : goal.returns-in_default-clause-answered
returns-in_default-clause-answered c =
    let s = c.args.self.now in
    subst (λ st. IsRefused (grammar_at st s) c.args.line.now) (sym c.requires.stage) c.in_default.ensures.none

pub returns-clause-answered : goal.returns-clause-answered
returns-clause-answered c =
    let s = c.args.self.now in
    let fresh = subst (λ st. IsFresh st s.rows) c.requires.stage c.requires.keeps.fresh in
    subst (λ st. Leads (grammar_at st s) (IsRest s.sort s.matrix.now s.people.now c.in-Some.head.number c.in-Some.head.count s.rows) c.args.line.now) (sym c.requires.stage)
    (subst (λ z. Leads (IsRowsText s.sort s.matrix.now s.people.now s.number) (IsRest s.sort s.matrix.now s.people.now c.in-Some.head.number c.in-Some.head.count z) c.args.line.now) (sym fresh) c.in-Some.ensures.some)
