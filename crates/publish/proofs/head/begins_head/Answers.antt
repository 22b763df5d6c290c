use Rattle.std.proofs.Common.{[], arith}
use Rattle.std.proofs.lemmas.Grind.{common_steps}
use Rattle.publish.proofs.HeadPieces.{final-from, final-to}
use Rattle.publish.proofs.head.begins_head.Goals as goal

pub returns-in-Round : goal.returns-in-Round
returns-in-Round c = rw c.in-Round.is (c.begins_round_head.ensures c.args.known)

pub returns-in-Some : goal.returns-in-Some
returns-in-Some c =
    let both = c.begins_number.ensures 10 [] (c.in-Some.ensures.some.clear 10 c.requires) in
    rw c.in-Final.is (
      λ begins. final-from c.args.most c.args.piece.now c.in-Some.rest.now c.in-Some.ensures.some (both.0 begins) c.args.known,
      λ b. both.1 (final-to c.args.most c.args.piece.now c.in-Some.rest.now c.in-Some.ensures.some c.args.known b),
    )

pub returns-in-None : goal.returns-in-None
returns-in-None c = rw c.in-Final.is (grind (arith, common_steps))
