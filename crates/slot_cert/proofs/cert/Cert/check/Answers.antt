use Rattle.slot_cert.proofs.Pairs.{IsPlacement-from_tests}
use Rattle.slot_cert.proofs.cert.Cert.check.Goals as goal

pub returns : goal.returns
returns c =
    let e = c.as_slice-pairs.ensures in (
      λ yes. rw (← e) (IsPlacement-from_tests c.args.protections.now c.args.admitted.now c.as_slice-pairs.result.now c.requires
          (c.are_held.ensures.0 c.if-not-are_held.false) (c.stand_once.ensures.0 c.if-not-stand_once.false) (c.are_within.ensures.0 yes)),
      λ placement. c.are_within.ensures.1 (rw e (λ t low. placement.within t)),
    )
