use Rattle.std.proofs.Common.{◌≡◌, ◌<◌, ◌^◌, rules, arith, length}
use Rattle.published_texts.specs.Texts.{list_head}
use Rattle.dossier_file.proofs.TextLemmas.{list_headless, list_refused, list_taken}
use Rattle.dossier_file.proofs.texts.take_list.Goals as goal

pub returns-in-Some-clause-fault : goal.returns-in-Some-clause-fault
returns-in-Some-clause-fault c =
    let season = c.args.season.now in
    let small : c.args.number < 2 ^ 16 = omega arith in
    let same : c.as_slice.result.now ≡ list_head season.matrix c.args.number c.args.prog.0 = search rules in
    list_headless season.matrix season.register.people c.requires.readable c.args.number c.args.prog.0 small c.requires.programme c.as_slice.result.now c.args.bytes.now same c.in-Some.line c.in-Some.ensures.some

pub returns-in-Ok-clause-value : goal.returns-in-Ok-clause-value
returns-in-Ok-clause-value c =
    let season = c.args.season.now in
    let small : c.args.number < 2 ^ 16 = omega arith in
    let same : c.as_slice.result.now ≡ list_head season.matrix c.args.number c.args.prog.0 = search rules in
    let head = c.in_default.ensures.none in
    list_taken season.matrix season.register.people c.requires.readable c.args.number c.args.prog.0 small c.requires.programme c.as_slice.result.now c.args.bytes.now same head.0 c.split_after_line.result.0.now c.split_after_line.result.1.now head.1
    c.split_after_line.ensures c.in-Ok.read c.in-Ok.ensures.value

pub returns-clause-fault : goal.returns-clause-fault
returns-clause-fault c =
    let season = c.args.season.now in
    let small : c.args.number < 2 ^ 16 = omega arith in
    let some : 0 < length season.matrix.programmes = omega (arith, c.requires.programme) in
    let same : c.as_slice.result.now ≡ list_head season.matrix c.args.number c.args.prog.0 = search rules in
    let head = c.in_default.ensures.none in
    list_refused season.matrix season.register.people c.requires.readable c.args.number c.args.prog.0 small c.requires.programme c.as_slice.result.now c.args.bytes.now same head.0 c.split_after_line.result.0.now c.split_after_line.result.1.now head.1
    c.split_after_line.ensures c.in-Err.fault (c.in-Err.ensures.fault some)
