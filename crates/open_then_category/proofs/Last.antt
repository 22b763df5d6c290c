-- De-reservation comes last: a step with an empty seat has admitted everybody who competes for it.
use Rattle.std.proofs.Common.{◌≡◌, ◌≢◌, ◌⊎◌, ◌≤◌, ◌<◌, ◌-◌, ◌||◌, ℕ, zero, suc, Bool, true, false, cond, List, [], ◌∷◌, map, length, take, refl, sym, ap, ◌∙◌, subst, inl, inr, arith}
use Rattle.std.specs.Prelude.{sum}
use Rattle.std.proofs.lemmas.Bool.{both_ways, cond-false, cond-true, false_from_ne_true, or_cases}
use Rattle.std.specs.List.{filter}
use Rattle.office_base.specs.CategorySteps.{category_steps, gives_up}
use Rattle.office_base.specs.Lists.{IsAmong, IsSublist, Pairwise}
use Rattle.office_base.specs.Merit.{in_merit}
use Rattle.office_base.specs.StepChoice.{AreRanked, IsStep, IsStepChoice}
use Rattle.office_base.specs.declared.category_steps.CategoryStep.{CategoryStep}
use Rattle.office_base.specs.declared.person.Category.{Category}
use Rattle.office_base.specs.declared.person.Category.TheVariants.{Gen}
use Rattle.office_base.specs.declared.person.Person.{Person}
use Rattle.office_base.specs.declared.step.Step.{Step}
use Rattle.office_base.specs.declared.step.StepKind.{StepKind}
use Rattle.office_base.specs.declared.step.StepKind.TheVariants.{Open, Dereserved}
use Rattle.placements.proofs.Filters.{among_filter_from}
use Rattle.placements.proofs.Ranks.{among_itself, widen}
use Rattle.placements.proofs.Sublists.{length-sublist}
use Rattle.seat_matrix.specs.Seats.{AreProgrammeSeats, seats_of}
use Rattle.seat_matrix.specs.declared.seats.ProgrammeSeats.{ProgrammeSeats}
use Rattle.programme_lists.specs.Programme.{Admissions, IsProgrammeChoice, is_of, is_same, step_with, unfilled}
use Rattle.open_then_category.specs.Laws.{AreAllAdmitted, DereservationComesLast, HasEmptySeat, NoSeatStaysEmpty, own_step, step_among}
use Rattle.open_then_category.specs.StepLaws.{AreLawful}
use Rattle.open_then_category.proofs.Lists.{among_or_not}
use Rattle.open_then_category.proofs.ProgrammeLaws.{all_among, filtered_step, given}
use Rattle.open_then_category.proofs.Rows.{rest_of, row_choice, sum-cons}
use Rattle.programme_lists.proofs.Table.{IsRow, of_row, row_facts, rows_apart}
use Rattle.programme_lists.proofs.Walk.{ranked_without, same_category}
use Rattle.programme_lists.proofs.Taken.{among_without_from}
use Rattle.programme_lists.proofs.Categories.{same_itself}

-- a sublist that is no shorter is the whole list
pub whole_sublist : (some all : List Person) → IsSublist some all → length all ≤ length some → some ≡ all
whole_sublist some [] sub long = sub
whole_sublist some (person ∷ all) sub long = elim sub [
  | inl skips ↦ absurd (let short = length-sublist some all skips in omega (arith, short, long))
  | inr takes ↦
      let size = ap length takes.1 in
      takes.1 ∙ ap (λ (l : List Person). person ∷ l) (whole_sublist takes.0 all takes.2 (omega (arith, size, long)))
]

-- the chosen of a step with an empty seat are all its people
pub all_chosen : AreLawful → (step : Step) (chosen : List Person) → IsStep step → IsStepChoice step chosen → length chosen < step.seats → chosen ≡ step.people
all_chosen laws step chosen ok choice empty =
    let size = laws.choice_size step chosen ok choice in
    whole_sublist chosen step.people choice.may.people (omega (arith, size, empty))

-- ---- the row of a category

-- the category has a row
abbrev has_row : Category → List CategoryStep → Bool
has_row category [] = false
has_row category (row ∷ rows) = is_same category row.category || has_row category rows

-- each category has one, unless it is no category
each_has : (category : Category) → category ≢ Gen → has_row category category_steps ≡ true
each_has Gen some = absurd (some refl)
each_has category some = refl

row_with : (category : Category) (rows : List CategoryStep) → has_row category rows ≡ true → (row : CategoryStep) × IsAmong row rows × (category ≡ row.category)
row_with category [] has = absurd (both_ways false refl has)
row_with category (row ∷ rows) has = elim (or_cases (is_same category row.category) (has_row category rows) has) [
  | inl here ↦ (row, inl refl, same_category category row.category here)
  | inr later ↦ let found = row_with category rows later in (found.0, inr found.1, found.2)
]

-- the step of a row is that of its category
own_among : (rows : List CategoryStep) (row : CategoryStep) → Pairwise (λ one other. (one.category ≢ other.category) × (one.step ≢ other.step)) rows → IsAmong row rows → step_among row.category rows ≡ row.step
own_among [] row apart here = absurd here
own_among (first ∷ rows) row apart here = elim here [
  | inl same ↦ cond-true (is_same row.category first.category) first.step (step_among row.category rows)
      (subst (λ (c : Category). is_same row.category c ≡ true) (ap (λ (r : CategoryStep). r.category) same) (same_itself row.category))
      ∙ ap (λ (r : CategoryStep). r.step) (sym same)
  | inr later ↦ cond-false (is_same row.category first.category) first.step (step_among row.category rows)
      (false_from_ne_true (is_same row.category first.category) (λ holds. (of_row _ rows row apart.0 later).0 (sym (same_category row.category first.category holds))))
      ∙ own_among rows row apart.1 later
]

own_is : (row : CategoryStep) → IsRow row → own_step row.category ≡ row.step
own_is row here = own_among category_steps row rows_apart here

-- ---- a step with an empty seat

-- the step of a row with an empty seat admits all its members whom the open one did not take
row_served : AreLawful → (version : ℕ) (seats : ProgrammeSeats) (applicants : List Person) (admissions : Admissions) (row : CategoryStep) → IsRow row
    → AreProgrammeSeats seats → AreRanked seats.list applicants → IsProgrammeChoice version seats applicants admissions → length (admissions row.step) < (seats_of seats row.step).seats
    → (person : Person) → IsAmong person applicants → person.category ≡ row.category → IsAmong person (admissions Open) ⊎ IsAmong person (admissions row.step)
row_served laws version seats applicants admissions row found ok ranked choice empty person here member =
    let within = all_among version seats applicants admissions choice Open refl in
    elim (among_or_not applicants (admissions Open) person ranked.distinct within here) [
      | inl there ↦ inl there
      | inr gone ↦
          let rest = rest_of applicants admissions in
          let step = step_with seats.list (seats_of seats row.step) (filter (is_of row.category) rest) in
          let is_step = filtered_step seats.list (seats_of seats row.step) (is_of row.category) rest ok.list (ok.steps row.step) (ranked_without seats.list applicants (admissions Open) ranked) in
          let competes = among_filter_from (is_of row.category) person rest
          (among_without_from applicants applicants (admissions Open) person ranked.distinct (among_itself applicants) within here gone)
          (subst (λ (c : Category). is_same row.category c ≡ true) (sym member) (same_itself row.category)) in
          inr (subst (IsAmong person) (sym (all_chosen laws step (admissions row.step) is_step (row_choice version seats applicants admissions choice row found) empty)) competes)
    ]

pub ranked_served : AreLawful → (version : ℕ) (seats : ProgrammeSeats) (applicants : List Person) (admissions : Admissions) (category : Category) → AreProgrammeSeats seats
    → AreRanked seats.list applicants → IsProgrammeChoice version seats applicants admissions → category ≢ Gen → HasEmptySeat seats admissions category → AreAllAdmitted applicants admissions category
ranked_served laws version seats applicants admissions category ok ranked choice some empty =
    let found = row_with category category_steps (each_has category some) in
    let row = found.0 in
    let own : own_step category ≡ row.step = ap own_step found.2 ∙ own_is row found.1 in
    let seat : length (admissions row.step) < (seats_of seats row.step).seats = subst (λ (kind : StepKind). length (admissions kind) < (seats_of seats kind).seats) own empty in
    λ person here member. subst (λ (kind : StepKind). IsAmong person (admissions Open) ⊎ IsAmong person (admissions kind)) (sym own)
    (row_served laws version seats applicants admissions row found.1 ok ranked choice seat person here (member ∙ found.2))

pub no_seat_stays_empty : AreLawful → NoSeatStaysEmpty
no_seat_stays_empty laws version seats people admissions category ok may choice some empty = λ person here member.
    let merit = laws.in_merit_ranks seats.list people may in
    ranked_served laws version seats (in_merit seats.list people) admissions category ok merit.0 choice some empty person (widen person people (in_merit seats.list people) merit.1 here) member

-- ---- the seats of the de-reserved step

-- a step that admits some of its best has a seat
has_seat : (n : ℕ) (chosen people : List Person) → chosen ≡ take n people → 0 < length chosen → 0 < n
has_seat zero chosen people best some = absurd (let none = ap length best in omega (arith, none, some))
has_seat (suc n) chosen people best some = omega arith

-- a part of a sum is there, if the sum is
one_part : (rows : List CategoryStep) (f : CategoryStep → ℕ) → 0 < sum (map f rows) → (row : CategoryStep) × IsAmong row rows × (0 < f row)
one_part [] f some = absurd (omega (arith, some))
one_part (row ∷ rows) f some = elim (none_or_some (f row)) [
  | inl none ↦
      let parts = sum-cons (f row) (map f rows) in
      let found = one_part rows f (omega (arith, some, parts, none)) in
      (found.0, inr found.1, found.2)
  | inr there ↦ (row, inl refl, there)
]
  where
    none_or_some : (n : ℕ) → (n ≡ 0) ⊎ (0 < n)
    none_or_some zero = inl refl
    none_or_some (suc n) = inr (omega arith)

-- what is given up is given up in this version, and is an empty seat
given_seat : (b : Bool) (seats held : ℕ) → 0 < cond b (seats - held) 0 → (b ≡ true) × (held < seats)
given_seat true seats held some = (refl, omega (arith, some))
given_seat false seats held some = absurd (omega (arith, some))

pub dereservation_comes_last : AreLawful → DereservationComesLast
dereservation_comes_last laws version seats people admissions ok may choice some =
    let seat : 0 < unfilled version seats admissions = elim some [
      | inl there ↦ there
      | inr admits ↦ has_seat (unfilled version seats admissions) (admissions Dereserved) _ choice.dereserved admits
    ] in
    let found = one_part category_steps (λ row. given version (seats_of seats row.step).seats (length (admissions row.step)) row) seat in
    let row = found.0 in
    let gives = given_seat (gives_up row version) (seats_of seats row.step).seats (length (admissions row.step)) found.2 in
    let empty : HasEmptySeat seats admissions row.category = subst (λ (kind : StepKind). length (admissions kind) < (seats_of seats kind).seats) (sym (own_is row found.1)) gives.1 in (
      row,
      record {
        listed = found.1;
        given = gives.0;
        empty = empty;
        served = no_seat_stays_empty laws version seats people admissions row.category ok may choice (row_facts row found.1).not_general empty;
      },
    )
