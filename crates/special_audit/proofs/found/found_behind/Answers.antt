use Rattle.std.proofs.Common.{arith}
use Rattle.special_audit.proofs.Reading.{broken_front, front_fault, special_short}
use Rattle.special_audit.proofs.found.found_behind.Goals as goal

pub returns-in-Err-clause-fault : goal.returns-in-Err-clause-fault
returns-in-Err-clause-fault c =
    front_fault c.args.bytes.now c.args.parts.front.now c.args.parts.lists.now c.args.parts.published.now c.in-Err.fault (record { line = c.args.line; more = c.requires.more; cut = c.requires.cut }) c.in-Err.ensures.fault

pub special_found-requires-clause-short : goal.special_found-requires-clause-short
special_found-requires-clause-short c =
    let short = special_short c.args.bytes.now c.args.parts.front.now c.args.parts.lists.now c.args.parts.published.now c.requires.cut in
    let all = c.requires.short in
    omega (arith, short, all)

pub returns-in-Broken-clause-value : goal.returns-in-Broken-clause-value
returns-in-Broken-clause-value c =
    broken_front c.args.bytes.now c.args.parts.front.now c.args.parts.lists.now c.args.parts.published.now c.in-Ok.dossier c.in_ok-verdict.verdict c.in-Broken.round c.in-Broken.clause c.in-Broken.prog c.in-Broken.cand
    c.in-Broken.is (record { line = c.args.line; more = c.requires.more; cut = c.requires.cut }) c.in-Ok.ensures.value c.in_ok-verdict.ensures
