use Rattle.std.proofs.Common.{drop}
use Rattle.slot_cert.specs.Search.{IsSearch}
use Rattle.slot_cert.proofs.PairsSoFar.{IsOnTheWay}
use Rattle.slot_cert.proofs.canonical.canonical_pairs.Given as goal

abbrev pub invariant-loop-person : goal.invariant-loop-person
invariant-loop-person l = record {
  search : IsSearch l.search (drop l.person-index l.admitted);
  way : IsOnTheWay l.protections l.admitted l.pairs l.search.room (drop l.person-index l.admitted) l.search.most;
}
