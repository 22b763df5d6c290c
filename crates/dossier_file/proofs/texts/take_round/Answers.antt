use Rattle.std.proofs.Common.{◌≡◌, ◌<◌, ◌^◌, rules, arith}
use Rattle.dossier_file.specs.Texts.{round_start}
use Rattle.dossier_file.proofs.TextLemmas.{round_headless, round_refused, round_taken}
use Rattle.dossier_file.proofs.texts.take_round.Goals as goal

pub returns-in-Some-clause-fault : goal.returns-in-Some-clause-fault
returns-in-Some-clause-fault c =
    let season = c.args.season.now in
    let small : c.args.number < 2 ^ 16 = omega arith in
    let same : c.as_slice.result.now ≡ round_start c.args.number = search rules in
    round_headless season.matrix season.register.people c.requires c.args.number small c.as_slice.result.now c.args.bytes.now same c.in-Some.line c.in-Some.ensures.some

pub returns-in-Ok-clause-value : goal.returns-in-Ok-clause-value
returns-in-Ok-clause-value c =
    let season = c.args.season.now in
    let small : c.args.number < 2 ^ 16 = omega arith in
    let same : c.as_slice.result.now ≡ round_start c.args.number = search rules in
    let head = c.in_default.ensures.none in
    round_taken season.matrix season.register.people c.requires c.args.number small c.as_slice.result.now c.args.bytes.now same head.0 c.split_after_line.result.0.now c.split_after_line.result.1.now head.1 c.split_after_line.ensures c.in-Ok.read c.in-Ok.ensures.value

pub returns-clause-fault : goal.returns-clause-fault
returns-clause-fault c =
    let season = c.args.season.now in
    let small : c.args.number < 2 ^ 16 = omega arith in
    let same : c.as_slice.result.now ≡ round_start c.args.number = search rules in
    let head = c.in_default.ensures.none in
    round_refused season.matrix season.register.people c.requires c.args.number small c.as_slice.result.now c.args.bytes.now same head.0 c.split_after_line.result.0.now c.split_after_line.result.1.now head.1 c.split_after_line.ensures c.in-Err.fault c.in-Err.ensures.fault
