use Rattle.std.proofs.Common.{arith, get_or, sym}
use Rattle.std.proofs.lemmas.Option.{slice_get-get_or}
use Rattle.audit_rules.proofs.Grouping.{applied_seat, applying_next, put_is}
use Rattle.audit_rules.proofs.groups.apply.Goals as goal

pub returns-then-is_of-clause-each : goal.returns-then-is_of-clause-each
returns-then-is_of-clause-each c =
    let prog = slice_get-get_or c.args.sought.now c.loop-prog.prog-index (record { 0 = 0 }) c.loop-prog-test.true in
    let place = c.requires.distinct c.loop-prog.prog-index _ prog in
    let few = c.requires.below c.loop-prog.prog-index _ prog in
    let put = put_is c.loop-prog.groups c.from.result (get_or c.args.sought.now c.loop-prog.prog-index (record { 0 = 0 })).0 c.args.at c.push.new.self c.index-groups-from.result c.from.ensures
    (omega (arith, few, c.loop-prog.invariant.full)) c.in_ok-push.ensures.ok in
    applied_seat c.args.groups.now c.loop-prog.groups _ c.args.sought.now c.args.seat c.args.at c.loop-prog.prog-index _ c.loop-prog.invariant prog place put.full put.here put.elsewhere (sym c.if-is_of.ensures)

pub loop-prog-preserved : goal.loop-prog-preserved
loop-prog-preserved c =
    let prog = slice_get-get_or c.args.sought.now c.loop-prog.prog-index (record { 0 = 0 }) c.loop-prog-test.true in
    let place = c.requires.distinct c.loop-prog.prog-index _ prog in
    let few = c.requires.below c.loop-prog.prog-index _ prog in
    let put = put_is c.loop-prog.groups c.from.result (get_or c.args.sought.now c.loop-prog.prog-index (record { 0 = 0 })).0 c.args.at c.push.new.self c.index-groups-from.result c.from.ensures
    (omega (arith, few, c.loop-prog.invariant.full)) c.in_ok-push.ensures.ok in
    applying_next c.args.groups.now c.loop-prog.groups _ c.args.sought.now c.args.seat c.args.at c.loop-prog.prog-index _ c.loop-prog.invariant prog place put.full put.here put.elsewhere (sym c.if-is_of.ensures)
