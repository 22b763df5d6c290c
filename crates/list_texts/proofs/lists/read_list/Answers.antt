use Rattle.std.proofs.Common.{◌<◌, ◌-◌, ◌^◌, [], length, sym, subst, arith}
use Rattle.text_readers.specs.Reading.{Begins, IsTextFault}
use Rattle.list_texts.specs.ListLines.{lines_text}
use Rattle.list_texts.specs.ListReader.{AreRising, left_at, list_at}
use Rattle.list_texts.proofs.FollowLemmas.{some-text}
use Rattle.list_texts.proofs.ListTexts.{list-fault, read-list, every-read}
use Rattle.list_texts.proofs.lists.read_list.Goals as goal

pub read_lines-requires-clause-some : goal.read_lines-requires-clause-some
read_lines-requires-clause-some c =
    let r = c.begin-reader.result in
    subst (λ st. Begins (list_at st r) []) (sym c.begin-reader.ensures.stage) (some-text r.matrix.now r.register.now.people c.begin-reader.ensures.keeps.known.some)

pub read_lines-requires-clause-few : goal.read_lines-requires-clause-few
read_lines-requires-clause-few c =
    let r = c.begin-reader.result in
    let few = c.begin-reader.ensures.keeps.known.few in
    subst (λ st. left_at st (length r.register.now.people) r.kinds.now < 2 ^ 32 - 2) (sym c.begin-reader.ensures.stage) (omega (arith, few))

pub programme_of-requires : goal.programme_of-requires
programme_of-requires c =
    let s = c.args.season.now in
    let r = c.begin-reader.result in
    let n = c.read_lines.new.lines in
    let head : lines_text r.matrix.now r.register.now.people c.args.text.now (n.number, n.prog.0, n.steps.items) =
    subst (λ st. list_at st r c.args.text.now (n.number, n.prog.0, n.steps.items)) c.begin-reader.ensures.stage c.in-Ok.ensures.value in
    let table = subst (λ z. lines_text z r.register.now.people c.args.text.now (n.number, n.prog.0, n.steps.items)) c.begin-reader.ensures.matrix head in
    let lines = subst (λ z. lines_text s.matrix z.people c.args.text.now (n.number, n.prog.0, n.steps.items)) c.begin-reader.ensures.register table in
    every-read s.matrix s.register.people c.args.text.now n.number n.prog.0 n.steps.items lines

pub returns-in-Ok-clause-value : goal.returns-in-Ok-clause-value
returns-in-Ok-clause-value c =
    let s = c.args.season.now in
    let r = c.begin-reader.result in
    let n = c.read_lines.new.lines in
    let head : lines_text r.matrix.now r.register.now.people c.args.text.now (n.number, n.prog.0, n.steps.items) =
    subst (λ st. list_at st r c.args.text.now (n.number, n.prog.0, n.steps.items)) c.begin-reader.ensures.stage c.in-Ok.ensures.value in
    let table = subst (λ z. lines_text z r.register.now.people c.args.text.now (n.number, n.prog.0, n.steps.items)) c.begin-reader.ensures.matrix head in
    let lines = subst (λ z. lines_text s.matrix z.people c.args.text.now (n.number, n.prog.0, n.steps.items)) c.begin-reader.ensures.register table in
    read-list s.matrix s.register.people c.args.text.now n.number n.prog n.steps.items c.programme_of.result c.programme_of.ensures lines

pub returns-in-Err-clause-fault : goal.returns-in-Err-clause-fault
returns-in-Err-clause-fault c = λ _.
    let s = c.args.season.now in
    let r = c.begin-reader.result in
    let head : IsTextFault (lines_text r.matrix.now r.register.now.people) c.args.text.now c.in-Err.fault =
    subst (λ st. IsTextFault (list_at st r) c.args.text.now c.in-Err.fault) c.begin-reader.ensures.stage c.in-Err.ensures.fault in
    list-fault s.matrix s.register.people (subst (λ z. AreRising z.people) c.begin-reader.ensures.register c.begin-reader.ensures.keeps.known.rising) c.args.text.now c.in-Err.fault
    (subst (λ z. IsTextFault (lines_text s.matrix z.people) c.args.text.now c.in-Err.fault) c.begin-reader.ensures.register
    (subst (λ z. IsTextFault (lines_text z r.register.now.people) c.args.text.now c.in-Err.fault) c.begin-reader.ensures.matrix head))

pub returns-in-Ok-clause-empty : goal.returns-in-Ok-clause-empty
returns-in-Ok-clause-empty c = λ none.
    absurd (omega (arith, none, subst (λ table. 0 < length table.programmes) c.begin-reader.ensures.matrix c.begin-reader.ensures.keeps.known.some))

pub returns-in-Err-clause-empty : goal.returns-in-Err-clause-empty
returns-in-Err-clause-empty c = λ none.
    absurd (omega (arith, none, subst (λ table. 0 < length table.programmes) c.begin-reader.ensures.matrix c.begin-reader.ensures.keeps.known.some))
