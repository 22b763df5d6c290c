use Rattle.std.proofs.Common.{◌<◌, ◌+◌, ◌-◌, ◌/◌, length, arith}
use Rattle.office_base.proofs.Searched.{above_more, at_first, below_more, compared_at, found_at, found_nowhere}
use Rattle.office_base.proofs.sorted.find_sorted.Goals as goal

pub loop-low-init : goal.loop-low-init
loop-low-init g c = at_first g.K.Ord.cmp c.args.key.now c.args.pairs.now

pub returns-in-Equal : goal.returns-in-Equal
returns-in-Equal g c =
    let inside : c.loop-low.low + (c.loop-low.high - c.loop-low.low) / 2 < length c.args.pairs.now = omega (arith, c.loop-low-test.true, c.loop-low.invariant.within) in
    let same = compared_at (λ pair. g.K.Ord.cmp c.args.key.now pair.0) c.args.pairs.now _ c.index-pairs-middle.result c.index-pairs-middle-in-Equal.result _ _ inside c.index-pairs-middle.is c.cmp.ensures c.in-Equal.is in
    found_at g.met.K.Ord.total c.args.key.now c.args.pairs.now _ c.index-pairs-middle-in-Equal.result c.requires inside same

pub loop-low-preserved : goal.loop-low-preserved
loop-low-preserved g c =
    let inside : c.loop-low.low + (c.loop-low.high - c.loop-low.low) / 2 < length c.args.pairs.now = omega (arith, c.loop-low-test.true, c.loop-low.invariant.within) in
    above_more g.met.K.Ord.total c.args.key.now c.args.pairs.now c.loop-low.low c.loop-low.high _ c.requires c.loop-low.invariant (omega (arith, c.loop-low-test.true))
    (λ d. compared_at (λ pair. g.K.Ord.cmp c.args.key.now pair.0) c.args.pairs.now _ c.index-pairs-middle.result d _ _ inside c.index-pairs-middle.is c.cmp.ensures c.in-Greater.is)

pub loop-low-preserved-in-Less : goal.loop-low-preserved-in-Less
loop-low-preserved-in-Less g c =
    let inside : c.loop-low.low + (c.loop-low.high - c.loop-low.low) / 2 < length c.args.pairs.now = omega (arith, c.loop-low-test.true, c.loop-low.invariant.within) in
    below_more g.met.K.Ord.total c.args.key.now c.args.pairs.now c.loop-low.low c.loop-low.high _ c.requires c.loop-low.invariant (omega (arith, c.loop-low-test.true)) (omega (arith, c.loop-low-test.true))
    (λ d. compared_at (λ pair. g.K.Ord.cmp c.args.key.now pair.0) c.args.pairs.now _ c.index-pairs-middle.result d _ _ inside c.index-pairs-middle.is c.cmp.ensures c.in-Less.is)

pub returns : goal.returns
returns g c = found_nowhere g.met.K.Ord.total c.args.key.now c.args.pairs.now c.loop-low.low c.loop-low.high c.requires c.loop-low.invariant c.loop-low-test.false
