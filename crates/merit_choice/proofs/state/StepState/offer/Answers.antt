use Rattle.std.proofs.Common.{◌≡◌, ◌≢◌, ◌∙◌, ℕ, ap, sym}
use Rattle.std.proofs.lemmas.Bool.{eqb-true, eqb-false}
use Rattle.office_base.specs.declared.person.CandId.{CandId}
use Rattle.merit_choice.proofs.Offering.{hands_displaced, hands_refused}
use Rattle.merit_choice.proofs.state.StepState.offer.Goals as goal

pub returns-then-eq-clause-answer : goal.returns-then-eq-clause-answer
returns-then-eq-clause-answer c =
    let gone = c.in-Some.gone in
    let person = c.args.person.now in
    let same : gone.id ≡ person.id = ap (λ (n : ℕ). let cand : CandId = record { 0 = n } in cand) (eqb-true gone.id.0 person.id.0 (sym c.eq.ensures ∙ c.if-eq.true)) in
    hands_refused c.args.self.now person gone c.hand.new.self c.requires c.in-Some.ensures.hands_on same

pub returns-else-eq-clause-answer : goal.returns-else-eq-clause-answer
returns-else-eq-clause-answer c =
    let gone = c.in-Some.gone in
    let person = c.args.person.now in
    let apart : gone.id ≢ person.id = λ same. eqb-false gone.id.0 person.id.0 (sym c.eq.ensures ∙ c.if-eq.false) (ap (λ (cand : CandId). cand.0) same) in
    hands_displaced c.args.self.now person gone c.hand.new.self c.in-Some.ensures.hands_on apart
