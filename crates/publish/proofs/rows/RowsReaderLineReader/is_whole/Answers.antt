use Rattle.std.proofs.Common.{[], refl, sym, subst}
use Rattle.publish.specs.Reader.{grammar_at}
use Rattle.publish.specs.Rows.{Read}
use Rattle.publish.proofs.StageLemmas.{head-open, rows-open}
use Rattle.publish.proofs.rows.RowsReaderLineReader.is_whole.Goals as goal

pub returns-in-Head : goal.returns-in-Head
returns-in-Head c =
    let s = c.args.self.now in
    subst (λ st. (other : Read) → grammar_at st s [] other → ⊥) (sym c.in-Head.is) (λ other is. head-open s.sort s.matrix.now s.people.now s.number other is)

pub returns-in-Rows : goal.returns-in-Rows
returns-in-Rows c =
    let s = c.args.self.now in
    subst (λ st. (other : Read) → grammar_at st s [] other → ⊥) (sym c.in-Rows.is) (λ other is. rows-open s.sort s.matrix.now s.people.now s.number s.left s.rows other is)

pub returns-in-Done : goal.returns-in-Done
returns-in-Done c =
    let s = c.args.self.now in
    subst (λ st. grammar_at st s [] (s.number, s.rows)) (sym c.in-Done.is) (record { numbered = refl; all = refl; empty = refl })
