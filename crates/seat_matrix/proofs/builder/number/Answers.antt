use Rattle.std.proofs.Common.{get_or, refl}
use Rattle.std.proofs.lemmas.Option.{slice_get-get_or}
use Rattle.seat_matrix.proofs.Numbers.{numbers_more}
use Rattle.seat_matrix.proofs.builder.number.Goals as goal

pub loop-i-preserved : goal.loop-i-preserved
loop-i-preserved c =
    let held = get_or c.args.programmes.now c.loop-i.i c.index-programmes-i.result in
    let here = slice_get-get_or c.args.programmes.now c.loop-i.i c.index-programmes-i.result c.loop-i-test.true in
    numbers_more c.args.programmes.now c.loop-i.i held c.loop-i.numbers c.insert.new.self (record { 0 = c.loop-i.i }) c.requires.distinct here refl c.in_ok-insert.ensures.updates.0 c.loop-i.invariant
