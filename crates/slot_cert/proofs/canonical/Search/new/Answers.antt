use Rattle.std.proofs.Common.{◌+◌, ◌<◌, ◌∙◌, length, arith}
use Rattle.std.proofs.lemmas.List.{length-set}
use Rattle.slot_cert.proofs.SearchBounds.{bounds_more, IsLeastBound-numbered}
use Rattle.slot_cert.proofs.canonical.Search.new.Goals as goal

pub loop-n-preserved : goal.loop-n-preserved
loop-n-preserved c =
    let value = c.positions.result + c.count_outside.result in
    let within : c.loop-n.n < length c.loop-n.bounds = omega arith in
    rw c.from.ensures (record {
      sixty_four = length-set c.loop-n.bounds c.loop-n.n value ∙ c.loop-n.invariant.sixty_four;
      told = bounds_more c.loop-n.bounds c.args.protections.now c.args.people.now c.loop-n.n value within c.loop-n.invariant.told
          (omega (arith, c.positions.ensures.value, c.count_outside.ensures.value));
    })

pub returns-clause-search : goal.returns-clause-search
returns-clause-search c = record {
  six = omega arith;
  bounds = λ n l. c.loop-n.invariant.told n (omega arith);
  least = IsLeastBound-numbered c.loop-n.bounds c.args.protections.now c.args.people.now c.least.result (λ n l. c.loop-n.invariant.told n (omega arith))
      c.least.ensures.below c.least.ensures.met;
}
