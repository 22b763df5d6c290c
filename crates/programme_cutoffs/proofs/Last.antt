-- The de-reserved step chooses as the others do, from those whom they left: it meets the axioms of a step.
use Rattle.std.proofs.Common.{ℕ, List, subst, sym}
use Rattle.office_base.specs.StepChoice.{AreRanked, IsStep, IsStepChoice, MayAdmit}
use Rattle.office_base.specs.declared.person.Person.{Person}
use Rattle.office_base.specs.declared.step.StepKind.TheVariants.{Dereserved}
use Rattle.office_base.proofs.Lists.{length_take_most}
use Rattle.placements.proofs.Sublists.{IsSublist-take}
use Rattle.seat_matrix.specs.Seats.{AreProgrammeSeats}
use Rattle.seat_matrix.specs.declared.seats.ProgrammeSeats.{ProgrammeSeats}
use Rattle.programme_lists.specs.Programme.{Admissions, IsProgrammeChoice, people_of, unfilled}
use Rattle.open_then_category.specs.Laws.{ChoicesMeetAxioms, whole_step}
use Rattle.axiom_laws.specs.Laws.{OneMeetsTheAxiomsOfAStep}

abbrev pub LastStepChooses : Type 0
LastStepChooses = (version : ℕ) (seats : ProgrammeSeats) (people : List Person) (admissions : Admissions) → AreProgrammeSeats seats → AreRanked seats.list people
    → IsProgrammeChoice version seats people admissions → IsStep (whole_step version seats people admissions Dereserved)
    → IsStepChoice (whole_step version seats people admissions Dereserved) (admissions Dereserved)

pub last_step_chooses : ChoicesMeetAxioms → OneMeetsTheAxiomsOfAStep → LastStepChooses
last_step_chooses meet one version seats people admissions ok ranked choice is_step =
    let step = whole_step version seats people admissions Dereserved in
    let n = unfilled version seats admissions in
    let those = people_of seats.list people admissions Dereserved in
    let may : MayAdmit step (admissions Dereserved) =
    subst (MayAdmit step) (sym choice.dereserved) (record { people = IsSublist-take n those; seats = length_take_most n those }) in
    one step (admissions Dereserved) is_step may ((meet version seats people admissions ok ranked choice).at_steps Dereserved)
