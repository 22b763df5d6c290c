-- The choice of a programme meets the axioms at each step, so these are the rule.
use Rattle.std.proofs.Common.{◌≤◌, ℕ, List, length, refl, sym, subst}
use Rattle.office_base.specs.Lists.{IsSublist}
use Rattle.office_base.specs.Merit.{in_merit}
use Rattle.office_base.specs.StepChoice.{MayAdmit}
use Rattle.office_base.specs.declared.person.Person.{Person}
use Rattle.office_base.specs.declared.step.StepKind.{StepKind}
use Rattle.office_base.specs.declared.step.StepKind.TheVariants.{Dereserved}
use Rattle.office_base.proofs.Lists.{length_take_most}
use Rattle.placements.proofs.Sublists.{IsSublist-take}
use Rattle.merit_choice.specs.InMerit.{InMeritRanks}
use Rattle.open_then_category.specs.Laws.{ChoicesMeetAxioms, whole_step}
use Rattle.programme_lists.specs.Programme.{Admissions, IsProgrammeChoice, admitted_by, people_of, unfilled}
use Rattle.seat_matrix.specs.declared.seats.ProgrammeSeats.{ProgrammeSeats}
use Rattle.axiom_laws.specs.Laws.{AxiomsAreTheRule, OneMeetsTheAxioms}

-- each step admits some of its people, within its seats
within : (version : ℕ) (seats : ProgrammeSeats) (applicants : List Person) (admissions : Admissions) (kind : StepKind) → IsProgrammeChoice version seats applicants admissions
    → MayAdmit (whole_step version seats applicants admissions kind) (admitted_by admissions kind)
within version seats applicants admissions Dereserved choice =
    let people = people_of seats.list applicants admissions Dereserved in
    record {
      people = subst (λ l. IsSublist l people) (sym choice.dereserved) (IsSublist-take (unfilled version seats admissions) people);
      seats = subst (λ (l : List Person). length l ≤ unfilled version seats admissions) (sym choice.dereserved) (length_take_most (unfilled version seats admissions) people);
    }
within version seats applicants admissions kind choice = record { people = (choice.own kind refl).may.people; seats = (choice.own kind refl).may.seats }

pub axioms_are_the_rule : InMeritRanks → ChoicesMeetAxioms → OneMeetsTheAxioms → AxiomsAreTheRule
axioms_are_the_rule ranks meet one version seats people admissions ok may = (
  λ choice. record {
    within = λ kind. within version seats (in_merit seats.list people) admissions kind choice;
    axioms = (meet version seats (in_merit seats.list people) admissions ok (ranks seats.list people may).0 choice).at_steps;
  },
  λ meets. one version seats people admissions ok may meets,
)
