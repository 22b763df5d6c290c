use Rattle.std.proofs.Common.{arith}
use Rattle.slot_cert.specs.First.{MustPass}
use borrow.Author.Count.{below_more}
use Rattle.slot_cert.proofs.canonical.Search.choose.Goals as goal

pub returns-then-may_take : goal.returns-then-may_take
returns-then-may_take c = λ rest are. (c.loop-t-test.true, c.if-may_take.ensures rest are, c.loop-t.invariant rest are)

pub loop-t-preserved : goal.loop-t-preserved
loop-t-preserved c = λ rest are.
    let search = c.args.self.now in
    below_more (λ s. MustPass search.room rest search.most c.args.traits s) c.loop-t.t (c.loop-t.invariant rest are) (c.if-may_take.ensures rest are)

pub returns : goal.returns
returns c = λ rest are t low. c.loop-t.invariant rest are t (omega arith)
