use Rattle.std.proofs.Common.{◌≢◌, ◌+◌, add-one}
use Rattle.std.proofs.lemmas.List.{take_rest}
use Rattle.std.proofs.lemmas.Bool.{false≢true, both_ways}
use Rattle.slot_cert.proofs.ListParts.{Pairwise-at}
use Rattle.slot_cert.proofs.cert.stand_once.Goals as goal

pub returns-then-not-is_alone : goal.returns-then-not-is_alone
returns-then-not-is_alone c = (
  λ e. absurd (false≢true e),
  λ h.
      let pairs = c.args.pairs.now in let i = c.loop-at.at in
      absurd (both_ways c.is_alone.result c.if-not-is_alone.true
      (c.is_alone.ensures.1 (rw (take_rest pairs (i + 1), add-one i) (Pairwise-at (λ a b. a.cand ≢ b.cand) pairs i _ c.loop-at-test.true h)))),
)
