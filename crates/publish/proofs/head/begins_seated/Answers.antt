use Rattle.std.proofs.Common.{[]}
use Rattle.publish.proofs.HeadPieces.{seated-from, seated-to}
use Rattle.publish.proofs.head.begins_seated.Goals as goal

pub returns-in-Some : goal.returns-in-Some
returns-in-Some c =
    let both = c.begins_number.ensures 10 [] (c.in-Some.ensures.some.clear 10 c.requires) in (
      λ begins. seated-from c.args.most c.args.piece.now c.in-Some.rest.now c.in-Some.ensures.some (both.0 begins),
      λ b. both.1 (seated-to c.args.most c.args.piece.now c.in-Some.rest.now c.in-Some.ensures.some b),
    )
