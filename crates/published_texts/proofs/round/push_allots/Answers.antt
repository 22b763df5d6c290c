use Rattle.std.proofs.Common.{arith, None, ◌<◌, length}
use Rattle.published_texts.proofs.RoundLemmas.{allots_more, seats_after}
use Rattle.published_texts.proofs.round.push_allots.Goals as goal

pub loop-at-preserved : goal.loop-at-preserved
loop-at-preserved c =
    let in_seats : c.loop-at.at < length c.args.seats.now = omega (arith, c.loop-at-test.true, c.requires.entries, c.loop-at.auto.at-end) in
    record {
      so_far = allots_more c.args.matrix.now c.args.people.now c.args.seats.now c.loop-at.at _ None (omega (arith, c.loop-at-test.true)) in_seats _ _ _ c.loop-at.invariant.so_far c.in_ok-push_allot.ensures;
      programmes = seats_after c.args.matrix.now c.args.seats.now c.loop-at.at None in_seats c.loop-at.invariant.programmes;
    }
