use Rattle.std.proofs.Common.{◌≡◌, ◌-◌, [], suc, refl, sym, subst, arith}
use Rattle.list_texts.specs.ListLines.{Said, rows_text}
use Rattle.list_texts.specs.ListReader.{IsInStage, after_step, list_at, said_by}
use Rattle.list_texts.proofs.LineThen.{form-ends}
use Rattle.list_texts.proofs.StageLines.{entry-form, head-form, honoured-ends, steps-ends}
use Rattle.list_texts.proofs.list_reader.ListReaderLineReader.is_whole.Goals as goal

pub returns-in-Head : goal.returns-in-Head
returns-in-Head c =
    let s = c.args.self.now in
    subst (λ st. (other : Said) → list_at st s [] other → ⊥) (sym c.in-Head.is) (form-ends (head-form s.matrix.now s.register.now.people c.requires.keeps.known) [] tt)

pub returns-in-Steps : goal.returns-in-Steps
returns-in-Steps c =
    let s = c.args.self.now in
    subst (λ st. (other : Said) → list_at st s [] other → ⊥) (sym c.in-Steps.is) (steps-ends s.matrix.now s.register.now.people c.requires.keeps.known (said_by s) s.kinds.now [] tt)

pub returns-in-Honoured : goal.returns-in-Honoured
returns-in-Honoured c =
    let s = c.args.self.now in
    let step = c.in-Honoured.step in
    let rows = c.in-Honoured.rows in
    subst (λ st. (other : Said) → list_at st s [] other → ⊥) (sym c.in-Honoured.is) (honoured-ends s.matrix.now s.register.now.people c.requires.keeps.known (said_by s) s.kinds.now step rows [] tt)

pub returns-in-Rows : goal.returns-in-Rows
returns-in-Rows c =
    let s = c.args.self.now in
    let step = c.in-Rows.step in
    let rows = c.in-Rows.rows in
    let slots = c.in-Rows.slots in
    let kept = subst (λ st. IsInStage st s) c.in-Rows.is c.requires.keeps.stage in
    let after = after_step s step in
    let more : suc (rows - 1) ≡ rows = omega (arith, kept.some) in
    subst (λ st. (other : Said) → list_at st s [] other → ⊥) (sym c.in-Rows.is) (subst (λ n. (other : Said) → rows_text s.register.now.people after n slots s.admitted s.pairs [] other → ⊥) more (form-ends (entry-form s.matrix.now s.register.now.people c.requires.keeps.known (said_by s) s.kinds.now step (rows - 1) slots s.admitted s.pairs (omega (arith, kept.few, more))) [] tt))

pub returns-in-Done : goal.returns-in-Done
returns-in-Done c =
    let s = c.args.self.now in
    subst (λ st. list_at st s [] (said_by s)) (sym c.in-Done.is) (record { all = refl; empty = refl })
