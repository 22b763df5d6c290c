-- A step sheet has one answer.
use Rattle.std.proofs.Common.{◌≡◌, ◌≢◌, List, ℕ, length, sym, ap, subst, ◌∙◌}
use Rattle.office_base.specs.Certificate.{IsCanonical}
use Rattle.office_base.specs.StepChoice.{IsStep}
use Rattle.office_base.specs.declared.person.Person.{Person}
use Rattle.office_base.specs.declared.step.Pair.{Pair}
use Rattle.office_base.specs.declared.step.Step.{Step as StepOfSheet}
use Rattle.placements.proofs.Ranks.{pairwise_sublist}
use Rattle.merit_choice.specs.Laws.{OneChoice}
use Rattle.slot_cert.specs.Laws.{OneCertificate}
use Rattle.step_command.specs.Output.{fault_output, step_output}
use Rattle.step_command.specs.Sheet as sheet
use Rattle.command_answers.specs.Answers.{HaveOneAnswer}
use Rattle.step_command.specs.Step.{IsStepOutput, IsStepText, step_answers}

-- the laws of sheets, choices and certificates
pub record AreLawful : Type 0 where
  pub sheets : (bytes : List ℕ) → sheet.HaveOneReading bytes
  pub steps : (bytes : List ℕ) (step : StepOfSheet) → sheet.SheetGives bytes step → IsStep step
  pub choice : OneChoice
  pub certificate : OneCertificate

-- a sound step has one text
one_text : AreLawful → (step : StepOfSheet) (output other : List ℕ) → IsStep step → IsStepText step output → IsStepText step other → output ≡ other
one_text laws step output other sound a b =
    let admitted = laws.choice step a.admitted b.admitted sound a.choice b.choice in
    let distinct = pairwise_sublist (λ one next. one.id ≢ next.id) a.admitted step.people a.choice.may.people sound.people.distinct in
    let certificate = subst (λ (people : List Person). IsCanonical step.protections people b.pairs) (sym admitted) b.certificate in
    let pairs = laws.certificate step.protections a.admitted a.pairs b.pairs distinct a.certificate certificate in
    a.text ∙ ap (λ (people : List Person). step_output step.seats (length step.people) people a.pairs) admitted
    ∙ ap (λ (l : List Pair). step_output step.seats (length step.people) b.admitted l) pairs ∙ sym b.text

-- a sheet has one output
one_step : AreLawful → (bytes output other : List ℕ) → IsStepOutput bytes output → IsStepOutput bytes other → output ≡ other
one_step laws bytes output other a b =
    let same = (laws.sheets bytes).one_step a.0 b.0 a.1 b.1 in
    one_text laws a.0 output other (laws.steps bytes a.0 a.1) a.2 (subst (λ (step : StepOfSheet). IsStepText step other) (sym same) b.2)

-- A sheet has one answer under `step`.
pub one_step_answer : AreLawful → (bytes : List ℕ) → HaveOneAnswer step_answers bytes
one_step_answer laws bytes = record {
  some = (laws.sheets bytes).some;
  apart = λ input faulty. (laws.sheets bytes).apart input.0 faulty.0 input.1 faulty.1;
  of_input = λ output made. (made.0, made.1);
  of_fault = λ line has. (has.0, has.1);
  one_output = one_step laws bytes;
  one_line = λ line other a b. a.2 ∙ ap fault_output ((laws.sheets bytes).one_fault a.0 b.0 a.1 b.1) ∙ sym b.2;
}
