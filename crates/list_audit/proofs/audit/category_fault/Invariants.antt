use Rattle.std.proofs.Common.{◌≡◌, ◌<◌, ◌+◌, List}
use Rattle.office_base.specs.CategorySteps.{category_steps}
use Rattle.office_base.specs.Merit.{in_merit}
use Rattle.office_base.specs.StepNumbers.{step_number}
use Rattle.office_base.specs.declared.category_steps.CategoryStep.{CategoryStep}
use Rattle.office_base.specs.declared.person.Person.{Person}
use Rattle.office_base.specs.declared.step.StepKind.TheVariants.{Open}
use Rattle.programme_lists.specs.Programme.{without}
use Rattle.programme_lists.proofs.Table.{IsRow}
use Rattle.list_audit.specs.Clauses.{IsSound, audited, named_by}
use Rattle.list_audit.proofs.audit.category_fault.Given as goal

abbrev pub invariant-loop-row : goal.invariant-loop-row
invariant-loop-row l = record {
  rows : l.row-items ≡ category_steps;
  before : (applicants : List Person) → l.rest ≡ without (in_merit l.seats.list applicants) (named_by l.programme Open)
      → (other : CategoryStep) → IsRow other → step_number other.step < l.row-index + 1 → IsSound (audited l.version l.seats applicants l.programme other.step);
}
