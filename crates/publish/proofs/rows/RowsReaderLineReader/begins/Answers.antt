use Rattle.std.proofs.Common.{◌<◌, ◌^◌, ◌↔◌, IsTrue, arith, length, rules, sym, subst}
use Rattle.std.proofs.lemmas.Bool.{false≢true}
use Rattle.text_readers.specs.Reading.{Begins, EndsWithLines}
use Rattle.publish.specs.Reader.{grammar_at}
use Rattle.publish.proofs.HeadLemmas.{begins-head, head-begins, head-lines}
use Rattle.publish.proofs.RowsLemmas.{end-lines, rest-lines}
use Rattle.publish.proofs.StageLemmas.{done-begins}
use Rattle.publish.proofs.rows.RowsReaderLineReader.begins.Goals as goal

pub returns-in-Head-clause-value : goal.returns-in-Head-clause-value
returns-in-Head-clause-value c =
    let s = c.args.self.now in
    let known : s.number < 2 ^ 16 = search rules in
    let few : length s.people.now < 2 ^ 32 = omega (arith, c.requires.keeps.few) in
    subst (λ st. IsTrue c.begins_head.result ↔ Begins (grammar_at st s) c.args.piece.now) (sym c.in-Head.is) (
      λ read. head-begins s.sort s.matrix.now s.people.now s.number known few c.most_rows-most.result c.args.piece.now c.most_rows-most.ensures.few (c.begins_head.ensures.0 read),
      λ begins. c.begins_head.ensures.1 (begins-head s.sort s.matrix.now s.people.now s.number known few c.most_rows-most.result c.args.piece.now c.most_rows-most.ensures.all c.requires.line begins),
    )

pub returns-in-Head-clause-ends : goal.returns-in-Head-clause-ends
returns-in-Head-clause-ends c =
    let s = c.args.self.now in
    subst (λ st. EndsWithLines (grammar_at st s) c.args.piece.now) (sym c.in-Head.is)
    (head-lines s.sort s.matrix.now s.people.now s.number (search rules) (omega (arith, c.requires.keeps.few)) c.args.piece.now c.requires.line)

pub returns-in-Rows-clause-value : goal.returns-in-Rows-clause-value
returns-in-Rows-clause-value c =
    let s = c.args.self.now in
    subst (λ st. IsTrue c.begins_next.result ↔ Begins (grammar_at st s) c.args.piece.now) (sym c.in-Rows.is) (c.begins_next.ensures s.number s.rows)

pub returns-in-Rows-clause-ends : goal.returns-in-Rows-clause-ends
returns-in-Rows-clause-ends c =
    let s = c.args.self.now in
    subst (λ st. EndsWithLines (grammar_at st s) c.args.piece.now) (sym c.in-Rows.is)
    (rest-lines s.sort s.matrix.now s.people.now s.number s.rows c.requires.keeps.spelled c.requires.keeps.small s.left c.args.piece.now c.requires.line)

pub returns-in-Done-clause-value : goal.returns-in-Done-clause-value
returns-in-Done-clause-value c =
    let s = c.args.self.now in (
      λ t. absurd (false≢true t),
      λ begins. absurd (done-begins s.number s.rows c.args.piece.now c.requires.some (subst (λ st. Begins (grammar_at st s) c.args.piece.now) c.in-Done.is begins)),
    )

pub returns-in-Done-clause-ends : goal.returns-in-Done-clause-ends
returns-in-Done-clause-ends c =
    let s = c.args.self.now in
    subst (λ st. EndsWithLines (grammar_at st s) c.args.piece.now) (sym c.in-Done.is)
    (end-lines s.sort s.matrix.now s.people.now s.number s.rows c.requires.keeps.spelled c.requires.keeps.small c.args.piece.now c.requires.some)
