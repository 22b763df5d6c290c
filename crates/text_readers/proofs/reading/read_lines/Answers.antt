use Rattle.std.proofs.Common.{arith, ◌+◌, rules, subst, refl, sym, ◌∙◌}
use Rattle.std.proofs.lemmas.Bool.{false≢true}
use Rattle.text_readers.specs.Reading.{IsAnswered, IsWhole}
use Rattle.text_readers.proofs.ReadLemmas.{fault-early, fault-end, fault-line, fault-piece, no-bytes, read-line, read-nothing, read-whole}
use Rattle.text_readers.proofs.reading.read_lines.Goals as goal

pub loop-line-init : goal.loop-line-init
loop-line-init g c = record {
  read = read-nothing (g.L.LineReader.grammar c.args.lines.now) c.args.text.now c.requires.some;
  keeps = c.requires.keeps;
  few = omega arith;
}

pub returns-then-not-branch-clause-fault : goal.returns-then-not-branch-clause-fault
returns-then-not-branch-clause-fault g c =
    fault-line (g.L.LineReader.grammar c.args.lines.now) (g.L.LineReader.grammar c.loop-line.lines) c.args.text.now c.loop-line.rest.now c.loop-line.number c.loop-line.invariant.read
    c.in-Some.line.now c.in-Some.later.now c.in-Some.ensures.first c.in-Some.ensures.some
    (subst (IsAnswered (g.L.LineReader.grammar c.loop-line.lines) (g.L.LineReader.grammar c.take.new.self) c.in-Some.line.now) c.if-not-branch.true c.in_ok-take.ensures.answered)

pub loop-line-preserved : goal.loop-line-preserved
loop-line-preserved g c =
    let left = c.in_ok-take.ensures.left c.if-not-branch.false in
    record {
      read = read-line (g.L.LineReader.grammar c.args.lines.now) (g.L.LineReader.grammar c.loop-line.lines) (g.L.LineReader.grammar c.take.new.self) c.args.text.now c.loop-line.rest.now c.loop-line.number
          (c.loop-line.number + 1) c.in-Some.line.now c.in-Some.later.now c.loop-line.invariant.read c.in-Some.ensures.first c.in-Some.ensures.some
          (subst (IsAnswered (g.L.LineReader.grammar c.loop-line.lines) (g.L.LineReader.grammar c.take.new.self) c.in-Some.line.now) c.if-not-branch.false c.in_ok-take.ensures.answered) refl;
      keeps = c.in_ok-take.ensures.keeps c.if-not-branch.false;
      few = omega (arith, left, c.loop-line.invariant.few);
    }

pub overflow_add-number : goal.overflow_add-number
overflow_add-number g c =
    omega (arith, c.in_ok-take.ensures.left c.if-not-branch.false, c.loop-line.invariant.few, c.requires.few)

pub overflow_add-result : goal.overflow_add-result
overflow_add-result g c = omega (arith, c.loop-line.invariant.few, c.requires.few)

pub returns-then-is_whole-clause-value : goal.returns-then-is_whole-clause-value
returns-then-is_whole-clause-value g c =
    read-whole (g.L.LineReader.grammar c.args.lines.now) (g.L.LineReader.grammar c.loop-line.lines) c.args.text.now c.loop-line.rest.now c.loop-line.number c.loop-line.invariant.read
    (g.L.LineReader.value c.loop-line.lines) (no-bytes c.loop-line.rest.now (sym c.is_empty.ensures ∙ c.if-is_empty.true))
    (subst (IsWhole (g.L.LineReader.grammar c.loop-line.lines) (g.L.LineReader.value c.loop-line.lines)) c.if-is_whole.true c.is_whole.ensures)

pub returns-else-is_whole-clause-fault : goal.returns-else-is_whole-clause-fault
returns-else-is_whole-clause-fault g c =
    fault-end (g.L.LineReader.grammar c.args.lines.now) (g.L.LineReader.grammar c.loop-line.lines) c.args.text.now c.loop-line.rest.now c.loop-line.number c.loop-line.invariant.read
    (no-bytes c.loop-line.rest.now (sym c.is_empty.ensures ∙ c.if-is_empty.true))
    (subst (IsWhole (g.L.LineReader.grammar c.loop-line.lines) (g.L.LineReader.value c.loop-line.lines)) c.if-is_whole.false c.is_whole.ensures)

pub returns-then-begins-clause-fault : goal.returns-then-begins-clause-fault
returns-then-begins-clause-fault g c =
    fault-early (g.L.LineReader.grammar c.args.lines.now) (g.L.LineReader.grammar c.loop-line.lines) c.args.text.now c.loop-line.rest.now c.loop-line.number c.loop-line.invariant.read
    (search rules) (search rules) (c.loop-line.number + 1) refl (c.begins.ensures.value.0 c.if-begins.true) c.begins.ensures.ends

pub returns-else-begins-clause-fault : goal.returns-else-begins-clause-fault
returns-else-begins-clause-fault g c =
    fault-piece (g.L.LineReader.grammar c.args.lines.now) (g.L.LineReader.grammar c.loop-line.lines) c.args.text.now c.loop-line.rest.now c.loop-line.number c.loop-line.invariant.read
    (search rules) (search rules) (λ begins. false≢true (sym c.if-begins.false ∙ c.begins.ensures.value.1 begins))
