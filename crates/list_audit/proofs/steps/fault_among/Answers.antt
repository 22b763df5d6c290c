use Rattle.std.proofs.Common.{◌∙◌, List, Option, ap, subst}
use Rattle.std.proofs.lemmas.Result.{IfOk-weaker}
use Rattle.office_base.specs.Lists.{IsSublist}
use Rattle.office_base.specs.declared.person.CandId.{CandId}
use Rattle.office_base.specs.declared.person.Person.{Person}
use Rattle.seat_matrix.specs.declared.seats.Seating.{Seating}
use Rattle.list_audit.specs.Clauses.{audited}
use Rattle.list_audit.specs.Outside.{IsOutside}
use Rattle.list_audit.proofs.Parts.{among_step, named_part}
use Rattle.list_audit.proofs.steps.fault_among.Goals as goal

pub choice_fault-requires-clause-part : goal.choice_fault-requires-clause-part
choice_fault-requires-clause-part c =
    let named = c.as_slice-named.result.now in
    let outside = subst (λ (cand : Option CandId). IsOutside c.args.seats.now.list c.args.people.now named cand) c.in_default.is c.first_outside.ensures in
    subst (λ (some : List Person). IsSublist some c.args.people.now) c.as_slice-named.ensures
    (named_part c.ranked_part.ensures c.args.seats.now.list c.args.people.now named c.requires.ranked outside.0 outside.1)

pub returns : goal.returns
returns c = IfOk-weaker c.choice_fault.result _ _ (λ fault h applicants e.
    let step = audited c.args.version c.args.seats.now applicants c.args.programme.now c.args.kind in
    let named = c.as_slice-named.result.now in
    let outside = subst (λ (cand : Option CandId). IsOutside c.args.seats.now.list c.args.people.now named cand) c.in_default.is c.first_outside.ensures in
    among_step step c.args.people.now named c.list_of-shown.result.now c.of.result.protections fault e c.list_of-shown.ensures c.as_slice-named.ensures
    (ap (λ (seating : Seating). seating.protections) c.of.ensures) ((c.are_right_numbers.ensures applicants e).0 c.if-not-are_right_numbers.false) outside
    (c.if-named-min.false ∙ c.min.ensures) h) c.choice_fault.ensures
