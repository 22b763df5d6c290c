-- Who competes for the seats of a step, of those whom the steps before left.
use Rattle.std.specs.Prelude.{List, Bool, false, Option, Some, None}
use Rattle.office_base.specs.CategorySteps.{row_of}
use Rattle.office_base.specs.Person.{is_common}
use Rattle.office_base.specs.declared.category_steps.CategoryStep.{CategoryStep}
use Rattle.office_base.specs.declared.person.ListId.{ListId}
use Rattle.office_base.specs.declared.person.Person.{Person}
use Rattle.office_base.specs.declared.step.StepKind.{StepKind}
use Rattle.office_base.specs.declared.step.StepKind.TheVariants.{Open, Dereserved}
use Rattle.programme_lists.specs.Programme.{Admissions, is_of, left_over, without}

-- the person is a member of the category of the row; a step that is of no category has no members
abbrev pub is_member : Option CategoryStep → Person → Bool
is_member None person = false
is_member (Some row) person = is_of row.category person

-- open and de-reserved seats are for those with a common place, and a category's for its members
abbrev pub stands_for : ListId → StepKind → Person → Bool
stands_for list Open person = is_common list person
stands_for list Dereserved person = is_common list person
stands_for list kind person = is_member (row_of kind) person

-- of whom a step's people come: all applicants, those whom the open step left, or those whom all steps before left
abbrev pub left_to : List Person → Admissions → StepKind → List Person
left_to applicants named Open = applicants
left_to applicants named Dereserved = left_over applicants named
left_to applicants named kind = without applicants (named Open)
