use Rattle.std.proofs.Common.{◌≢◌, drop}
use Rattle.office_base.specs.Lists.{Pairwise}
use Rattle.slot_cert.proofs.cert.stand_once.Given as goal

abbrev pub invariant-loop-at : goal.invariant-loop-at
invariant-loop-at l = Pairwise (λ a b. a.cand ≢ b.cand) (drop l.at l.pairs) → Pairwise (λ a b. a.cand ≢ b.cand) l.pairs
