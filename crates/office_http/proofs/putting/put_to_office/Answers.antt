use Rattle.std.proofs.Common.{sym, subst}
use Rattle.office_moves.specs.Facts.{SeasonFacts}
use Rattle.office_http.specs.Bodies.{AreBodies}
use Rattle.office_http.proofs.Kept.{bodies_after}
use Rattle.office_http.proofs.putting.put_to_office.Goals as goal

pub answer_of-requires-clause-made : goal.answer_of-requires-clause-made
answer_of-requires-clause-made g c =
    let old = c.args.office.now in
    let new = c.handle.new.self in
    subst (λ (facts : SeasonFacts). AreBodies facts new.state c.args.bodies.now) (sym c.in-Ok.ensures.kept.season)
    (bodies_after old.season old.state new.state c.request_by-request.result c.in-Ok.reply c.args.bodies.now c.in-Ok.ensures.moves c.requires.made)
