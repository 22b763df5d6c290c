use Rattle.std.proofs.Common.{◌≡◌, ◌≤◌, ◌-◌, ◌↔◌, IsTrue, suc, sym, subst, arith}
use Rattle.std.proofs.lemmas.Bool.{false≢true}
use Rattle.text_readers.specs.Reading.{Begins, EndsWithLines}
use Rattle.list_texts.specs.ListLines.{BeginsLine, CanStand, entry_words, honoured_words, rows_text}
use Rattle.list_texts.specs.ListReader.{IsInStage, after_step, list_at, said_by}
use Rattle.list_texts.proofs.ListPieceLemmas.{honoured-line, line-honoured}
use Rattle.list_texts.proofs.LineThen.{form-ends, form-from, form-to}
use Rattle.list_texts.proofs.StageLines.{end-begins, end-ends, entry-form, head-form, honoured-ends, honoured-form, steps-ends}
use Rattle.list_texts.proofs.list_reader.ListReaderLineReader.begins.Goals as goal

pub returns-in-Head-clause-value : goal.returns-in-Head-clause-value
returns-in-Head-clause-value c =
    let s = c.args.self.now in
    subst (λ st. IsTrue c.begins_list_head.result ↔ Begins (list_at st s) c.args.piece.now) (sym c.in-Head.is) (
      λ begins. form-from (head-form s.matrix.now s.register.now.people c.requires.keeps.known) c.args.piece.now (c.begins_list_head.ensures.0 begins),
      λ b. c.begins_list_head.ensures.1 (form-to (head-form s.matrix.now s.register.now.people c.requires.keeps.known) c.args.piece.now c.requires.line b),
    )

pub returns-in-Head-clause-ends : goal.returns-in-Head-clause-ends
returns-in-Head-clause-ends c =
    let s = c.args.self.now in
    subst (λ st. EndsWithLines (list_at st s) c.args.piece.now) (sym c.in-Head.is) (form-ends (head-form s.matrix.now s.register.now.people c.requires.keeps.known) c.args.piece.now c.requires.line)

pub returns-in-Steps-clause-value : goal.returns-in-Steps-clause-value
returns-in-Steps-clause-value c =
    let s = c.args.self.now in
    subst (λ st. IsTrue c.begins_next_step.result ↔ Begins (list_at st s) c.args.piece.now) (sym c.in-Steps.is) (c.begins_next_step.ensures (said_by s))

pub returns-in-Steps-clause-ends : goal.returns-in-Steps-clause-ends
returns-in-Steps-clause-ends c =
    let s = c.args.self.now in
    subst (λ st. EndsWithLines (list_at st s) c.args.piece.now) (sym c.in-Steps.is) (steps-ends s.matrix.now s.register.now.people c.requires.keeps.known (said_by s) s.kinds.now c.args.piece.now c.requires.line)

pub returns-in-Honoured-clause-value : goal.returns-in-Honoured-clause-value
returns-in-Honoured-clause-value c =
    let s = c.args.self.now in
    let step = c.in-Honoured.step in
    let rows = c.in-Honoured.rows in
    let kept = subst (λ st. IsInStage st s) c.in-Honoured.is c.requires.keeps.stage in
    subst (λ st. IsTrue c.begins_count.result ↔ Begins (list_at st s) c.args.piece.now) (sym c.in-Honoured.is) (
      λ begins. form-from (honoured-form s.matrix.now s.register.now.people c.requires.keeps.known (said_by s) s.kinds.now step rows kept.1) c.args.piece.now (subst (λ n. BeginsLine honoured_words (λ slots. slots ≤ n) c.args.piece.now) c.slots_within.ensures (honoured-line c.slots_within.result c.args.piece.now (c.begins_count.ensures.0 begins))),
      λ b. c.begins_count.ensures.1 (line-honoured c.slots_within.result c.args.piece.now (subst (λ n. BeginsLine honoured_words (λ slots. slots ≤ n) c.args.piece.now) (sym c.slots_within.ensures) (form-to (honoured-form s.matrix.now s.register.now.people c.requires.keeps.known (said_by s) s.kinds.now step rows kept.1) c.args.piece.now c.requires.line b))),
    )

pub returns-in-Honoured-clause-ends : goal.returns-in-Honoured-clause-ends
returns-in-Honoured-clause-ends c =
    let s = c.args.self.now in
    let step = c.in-Honoured.step in
    let rows = c.in-Honoured.rows in
    subst (λ st. EndsWithLines (list_at st s) c.args.piece.now) (sym c.in-Honoured.is) (honoured-ends s.matrix.now s.register.now.people c.requires.keeps.known (said_by s) s.kinds.now step rows c.args.piece.now c.requires.line)

pub returns-in-Rows-clause-value : goal.returns-in-Rows-clause-value
returns-in-Rows-clause-value c =
    let s = c.args.self.now in
    let step = c.in-Rows.step in
    let rows = c.in-Rows.rows in
    let slots = c.in-Rows.slots in
    let kept = subst (λ st. IsInStage st s) c.in-Rows.is c.requires.keeps.stage in
    let after = after_step s step in
    let more : suc (rows - 1) ≡ rows = omega (arith, kept.some) in
    subst (λ st. IsTrue c.begins_entries.result ↔ Begins (list_at st s) c.args.piece.now) (sym c.in-Rows.is) (subst (λ n. IsTrue c.begins_entries.result ↔ Begins (rows_text s.register.now.people after n slots s.admitted s.pairs) c.args.piece.now) more (
      λ begins. form-from (entry-form s.matrix.now s.register.now.people c.requires.keeps.known (said_by s) s.kinds.now step (rows - 1) slots s.admitted s.pairs (omega (arith, kept.few, more))) c.args.piece.now (subst (λ z. BeginsLine entry_words (CanStand z s.admitted (rows - 1) slots) c.args.piece.now) c.people-people.ensures.same ((c.begins_entries.ensures s.admitted c.requires.keeps.used).0 begins)),
      λ b. (c.begins_entries.ensures s.admitted c.requires.keeps.used).1 (subst (λ z. BeginsLine entry_words (CanStand z s.admitted (rows - 1) slots) c.args.piece.now) (sym c.people-people.ensures.same) (form-to (entry-form s.matrix.now s.register.now.people c.requires.keeps.known (said_by s) s.kinds.now step (rows - 1) slots s.admitted s.pairs (omega (arith, kept.few, more))) c.args.piece.now c.requires.line b)),
    ))

pub returns-in-Rows-clause-ends : goal.returns-in-Rows-clause-ends
returns-in-Rows-clause-ends c =
    let s = c.args.self.now in
    let step = c.in-Rows.step in
    let rows = c.in-Rows.rows in
    let slots = c.in-Rows.slots in
    let kept = subst (λ st. IsInStage st s) c.in-Rows.is c.requires.keeps.stage in
    let after = after_step s step in
    let more : suc (rows - 1) ≡ rows = omega (arith, kept.some) in
    subst (λ st. EndsWithLines (list_at st s) c.args.piece.now) (sym c.in-Rows.is) (subst (λ n. EndsWithLines (rows_text s.register.now.people after n slots s.admitted s.pairs) c.args.piece.now) more (form-ends (entry-form s.matrix.now s.register.now.people c.requires.keeps.known (said_by s) s.kinds.now step (rows - 1) slots s.admitted s.pairs (omega (arith, kept.few, more))) c.args.piece.now c.requires.line))

pub returns-in-Done-clause-value : goal.returns-in-Done-clause-value
returns-in-Done-clause-value c =
    let s = c.args.self.now in (
      λ t. absurd (false≢true t),
      λ begins. absurd (end-begins (said_by s) c.args.piece.now c.requires.some (subst (λ st. Begins (list_at st s) c.args.piece.now) c.in-Done.is begins)),
    )

pub returns-in-Done-clause-ends : goal.returns-in-Done-clause-ends
returns-in-Done-clause-ends c =
    let s = c.args.self.now in
    subst (λ st. EndsWithLines (list_at st s) c.args.piece.now) (sym c.in-Done.is) (end-ends (said_by s) c.args.piece.now c.requires.some)
