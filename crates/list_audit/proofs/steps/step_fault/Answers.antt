use Rattle.std.proofs.Common.{◌∙◌, List, ap, sym}
use Rattle.std.proofs.lemmas.Result.{IfOk-weaker}
use Rattle.std.specs.List.{filter}
use Rattle.office_base.specs.Merit.{in_merit}
use Rattle.office_base.specs.declared.person.Person.{Person}
use Rattle.list_audit.specs.Clauses.{named_by}
use Rattle.list_audit.specs.Stand.{stands_for}
use Rattle.list_audit.proofs.Parts.{people_stand, standing_ranked}
use Rattle.list_audit.proofs.steps.step_fault.Goals as goal

pub fault_among-requires-clause-ranked : goal.fault_among-requires-clause-ranked
fault_among-requires-clause-ranked c =
    standing_ranked c.args.seats.now.list c.args.kind c.args.rest.now c.as_slice.result.now c.requires.ranked (c.as_slice.ensures ∙ c.in_ok-people.ensures)

pub returns : goal.returns
returns c = IfOk-weaker c.fault_among.result _ _ (λ fault each applicants e.
    each applicants (c.as_slice.ensures ∙ c.in_ok-people.ensures ∙ ap (λ (those : List Person). filter (stands_for c.args.seats.now.list c.args.kind) those) e
    ∙ sym (people_stand c.args.seats.now.list (in_merit c.args.seats.now.list applicants) (named_by c.args.programme.now) c.args.kind))) c.fault_among.ensures
