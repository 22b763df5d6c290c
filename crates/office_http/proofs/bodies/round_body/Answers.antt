use Rattle.std.proofs.Common.{◌∙◌, ap, sym}
use Rattle.std.proofs.lemmas.Result.{IfOk-weaker}
use Rattle.office_http.specs.Bodies.{shown_body}
use Rattle.office_http.proofs.bodies.round_body.Goals as goal

pub returns-in-Some-clause-body : goal.returns-in-Some-clause-body
returns-in-Some-clause-body g c =
    let office = c.args.office.now in
    let kept = c.in-Some.ensures office.season office.state c.requires.made in
    IfOk-weaker c.copy.result _ _ (λ text same. same ∙ kept.is ∙ ap (shown_body office.season office.state) (sym c.requires.of)) c.copy.ensures
