-- Who competes for the seats of a step, and whom the steps before left.
use Rattle.std.proofs.Common.{◌≡◌, ℕ, false, List, [], ◌∷◌, Option, Some, None, refl, sym, ap, ◌∙◌, subst}
use Rattle.office_base.specs.CategorySteps.{own_steps, row_of}
use Rattle.office_base.specs.Lists.{IsAmong, IsSublist}
use Rattle.office_base.specs.Person.{is_common}
use Rattle.office_base.specs.declared.category_steps.CategoryStep.{CategoryStep}
use Rattle.office_base.specs.declared.person.ListId.{ListId}
use Rattle.office_base.specs.declared.person.Person.{Person}
use Rattle.office_base.specs.declared.step.StepKind.{StepKind}
use Rattle.office_base.specs.declared.step.StepKind.TheVariants.{Open, Dereserved}
use Rattle.placements.specs.Ranks.{AreAmong}
use Rattle.placements.proofs.Filters.{among_filter, among_filter_from, filter-sublist}
use Rattle.placements.proofs.Ranks.{among_sublist}
use Rattle.placements.proofs.Sublists.{IsSublist-nil, IsSublist-same, IsSublist-take, sublist_again}
use Rattle.seat_matrix.specs.Seats.{is_dereserved}
use Rattle.seat_matrix.specs.declared.seats.ProgrammeSeats.{ProgrammeSeats}
use Rattle.programme_lists.specs.Programme.{Admissions, IsProgrammeChoice, is_of, is_same, left_by, left_over, members_by, people_of, unfilled, without}
use Rattle.programme_lists.proofs.Categories.{same_itself}
use Rattle.programme_lists.proofs.Walk.{same_category}
use Rattle.programme_laws.specs.Laws.{IsMember, MayStandFor}
use Rattle.programme_lists.proofs.Parts.{people_part}

-- ---- the members of a category

pub member_by : (row : Option CategoryStep) (person : Person) (people : List Person) → IsMember row person → IsAmong person people → IsAmong person (members_by row people)
member_by None person people member there = absurd member
member_by (Some row) person people member there = among_filter_from (is_of row.category) person people there (ap (λ c. is_same row.category c) member ∙ same_itself row.category)

pub is_member : (row : Option CategoryStep) (person : Person) (people : List Person) → IsAmong person (members_by row people) → IsMember row person
is_member None person people here = absurd here
is_member (Some row) person people here = sym (same_category row.category person.category (among_filter (is_of row.category) person people here).1)

-- ---- the people of a step

-- and those whom the step admits are some of its people
pub admitted_part : (version : ℕ) (seats : ProgrammeSeats) (applicants : List Person) (admissions : Admissions) (kind : StepKind)
    → IsProgrammeChoice version seats applicants admissions → IsSublist (admissions kind) (people_of seats.list applicants admissions kind)
admitted_part version seats applicants admissions Dereserved choice =
    let people = people_of seats.list applicants admissions Dereserved in
    subst (λ l. IsSublist l people) (sym choice.dereserved) (IsSublist-take (unfilled version seats admissions) people)
admitted_part version seats applicants admissions kind choice = (choice.own kind refl).may.people

pub admitted_within : (version : ℕ) (seats : ProgrammeSeats) (applicants : List Person) (admissions : Admissions) (kind : StepKind)
    → IsProgrammeChoice version seats applicants admissions → AreAmong (admissions kind) applicants
admitted_within version seats applicants admissions kind choice =
    among_sublist _ _ (sublist_again _ _ _ (admitted_part version seats applicants admissions kind choice) (people_part seats.list applicants admissions kind))

-- a person who competes for the seats of a step may do so
pub may_compete : (list : ListId) (applicants : List Person) (admissions : Admissions) (kind : StepKind) (person : Person) → IsAmong person (people_of list applicants admissions kind)
    → MayStandFor list kind person
may_compete list applicants admissions Open person here = (among_filter (is_common list) person applicants here).1
may_compete list applicants admissions Dereserved person here = (among_filter (is_common list) person (left_over applicants admissions) here).1
may_compete list applicants admissions kind person here = is_member (row_of kind) person (without applicants (admissions Open)) here

-- ---- the steps with seats of their own
