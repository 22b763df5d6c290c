use Rattle.std.proofs.Common.{◌∙◌, List, Option, ap, subst, sym}
use Rattle.std.proofs.lemmas.Result.{IfOk-weaker}
use Rattle.office_base.specs.Lists.{IsSublist}
use Rattle.office_base.specs.declared.person.CandId.{CandId}
use Rattle.office_base.specs.declared.person.Person.{Person}
use Rattle.office_base.specs.declared.step.StepKind.TheVariants.{Open, Dereserved}
use Rattle.programme_lists.specs.Programme.{without}
use Rattle.programme_lists.specs.declared.programme.StepList.{StepList}
use Rattle.list_audit.specs.Clauses.{audited}
use Rattle.list_audit.specs.Steps.{IsCategoryFault, IsStepFault}
use Rattle.list_audit.specs.declared.clause.Clause.{Clause}
use Rattle.list_audit.proofs.Parts.{category_first, open_part, rest_ranked, rest_told, row_part, same_order, whole}
use Rattle.list_audit.proofs.audit.fault_in_order.Goals as goal

pub step_fault-requires-clause-once : goal.step_fault-requires-clause-once
step_fault-requires-clause-once c = c.requires.once Open

pub last_fault-requires-clause-once : goal.last_fault-requires-clause-once
last_fault-requires-clause-once c = c.requires.once Dereserved

pub without-requires-clause-taken : goal.without-requires-clause-taken
without-requires-clause-taken c =
    let people = c.args.ranked.now in
    let order = same_order c.ranked_part.ensures c.ranked_in_merit.ensures c.args.version c.args.seats.now people c.args.programme.now c.requires.ranked in
    let sound = subst (λ (fault : Option (Clause × Option CandId)). IsStepFault (audited c.args.version c.args.seats.now people c.args.programme.now Open) fault) c.in_default.is (c.in_ok-fault.ensures people order) in
    subst (λ (some : List Person). IsSublist some people) (ap (λ (list : StepList). list.admitted) (sym c.list_of-first.ensures) ∙ sym c.as_slice.ensures)
    (open_part c.ranked_part.ensures c.ranked_in_merit.ensures c.args.version c.args.seats.now people c.args.programme.now c.requires.ranked sound)

pub category_fault-requires-clause-ranked : goal.category_fault-requires-clause-ranked
category_fault-requires-clause-ranked c =
    rest_ranked c.ranked_part.ensures c.ranked_in_merit.ensures c.args.version c.args.seats.now c.args.ranked.now c.args.programme.now c.requires.ranked c.as_slice-2.result.now
    (c.as_slice-2.ensures ∙ c.in_ok-rest.ensures ∙ ap (λ (some : List Person). without c.args.ranked.now some) c.as_slice.ensures ∙ ap (λ (list : StepList). without c.args.ranked.now list.admitted) c.list_of-first.ensures)

pub last_fault-requires-clause-ranked : goal.last_fault-requires-clause-ranked
last_fault-requires-clause-ranked c =
    rest_ranked c.ranked_part.ensures c.ranked_in_merit.ensures c.args.version c.args.seats.now c.args.ranked.now c.args.programme.now c.requires.ranked c.as_slice-3.result.now
    (c.as_slice-3.ensures ∙ c.in_ok-rest.ensures ∙ ap (λ (some : List Person). without c.args.ranked.now some) c.as_slice.ensures ∙ ap (λ (list : StepList). without c.args.ranked.now list.admitted) c.list_of-first.ensures)

pub last_fault-requires-clause-members : goal.last_fault-requires-clause-members
last_fault-requires-clause-members c =
    let people = c.args.ranked.now in
    let order = same_order c.ranked_part.ensures c.ranked_in_merit.ensures c.args.version c.args.seats.now people c.args.programme.now c.requires.ranked in
    let left = c.as_slice-2.ensures ∙ c.in_ok-rest.ensures ∙ ap (λ (some : List Person). without people some) c.as_slice.ensures ∙ ap (λ (list : StepList). without people list.admitted) c.list_of-first.ensures in
    let told = rest_told c.ranked_part.ensures c.ranked_in_merit.ensures c.args.version c.args.seats.now people c.args.programme.now c.requires.ranked c.as_slice-2.result.now left people order in
    let each = subst (λ (fault : Option (Clause × Option CandId)). IsCategoryFault c.args.version c.args.seats.now people c.args.programme.now fault) c.in_default-2.is (c.in_ok-fault-2.ensures people told) in
    row_part c.ranked_part.ensures c.ranked_in_merit.ensures c.args.version c.args.seats.now people c.args.programme.now c.requires.ranked c.as_slice-3.result.now
    (c.as_slice-3.ensures ∙ c.in_ok-rest.ensures ∙ ap (λ (some : List Person). without people some) c.as_slice.ensures ∙ ap (λ (list : StepList). without people list.admitted) c.list_of-first.ensures) each

pub returns-in-Some-2 : goal.returns-in-Some-2
returns-in-Some-2 c applicants e =
    let people = c.args.ranked.now in
    let left = c.as_slice-2.ensures ∙ c.in_ok-rest.ensures ∙ ap (λ (some : List Person). without people some) c.as_slice.ensures ∙ ap (λ (list : StepList). without people list.admitted) c.list_of-first.ensures in
    let told = rest_told c.ranked_part.ensures c.ranked_in_merit.ensures c.args.version c.args.seats.now people c.args.programme.now c.requires.ranked c.as_slice-2.result.now left applicants e in
    let first = subst (λ (fault : Option (Clause × Option CandId)). IsStepFault (audited c.args.version c.args.seats.now applicants c.args.programme.now Open) fault) c.in_default.is (c.in_ok-fault.ensures applicants e) in
    let found = subst (λ (fault : Option (Clause × Option CandId)). IsCategoryFault c.args.version c.args.seats.now applicants c.args.programme.now fault) c.in-Some-2.is (c.in_ok-fault-2.ensures applicants told) in
    category_first c.args.version c.args.seats.now applicants c.args.programme.now _ first found

pub returns : goal.returns
returns c = IfOk-weaker c.last_fault.result _ _ (λ fault last applicants e.
    let people = c.args.ranked.now in
    let left = c.as_slice-2.ensures ∙ c.in_ok-rest.ensures ∙ ap (λ (some : List Person). without people some) c.as_slice.ensures ∙ ap (λ (list : StepList). without people list.admitted) c.list_of-first.ensures in
    let told = rest_told c.ranked_part.ensures c.ranked_in_merit.ensures c.args.version c.args.seats.now people c.args.programme.now c.requires.ranked c.as_slice-2.result.now left applicants e in
    let left2 = c.as_slice-3.ensures ∙ c.in_ok-rest.ensures ∙ ap (λ (some : List Person). without people some) c.as_slice.ensures ∙ ap (λ (list : StepList). without people list.admitted) c.list_of-first.ensures in
    let told2 = rest_told c.ranked_part.ensures c.ranked_in_merit.ensures c.args.version c.args.seats.now people c.args.programme.now c.requires.ranked c.as_slice-3.result.now left2 applicants e in
    let first = subst (λ (fault : Option (Clause × Option CandId)). IsStepFault (audited c.args.version c.args.seats.now applicants c.args.programme.now Open) fault) c.in_default.is (c.in_ok-fault.ensures applicants e) in
    let each = subst (λ (fault : Option (Clause × Option CandId)). IsCategoryFault c.args.version c.args.seats.now applicants c.args.programme.now fault) c.in_default-2.is (c.in_ok-fault-2.ensures applicants told) in
    whole c.args.version c.args.seats.now applicants c.args.programme.now fault first each (last applicants told2)) c.last_fault.ensures
