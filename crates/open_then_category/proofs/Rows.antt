-- Walks over the steps of a programme: whom some of them left, whom they admit, and sums over the rows of their table.
use Rattle.std.proofs.Common.{◌≡◌, ◌≢◌, ◌≤◌, ◌+◌, ◌⊎◌, ℕ, false, List, [], ◌∷◌, map, take, refl, sym, ap, ◌∙◌, subst, inl, inr, arith}
use Rattle.std.specs.Prelude.{sum}
use Rattle.std.proofs.lemmas.List.Sums.{sum_by-cons}
use Rattle.std.specs.List.{filter}
use Rattle.office_base.specs.CategorySteps.{category_steps, own_steps}
use Rattle.office_base.specs.Lists.{IsAmong, IsSublist, Pairwise}
use Rattle.office_base.specs.Person.{is_common}
use Rattle.office_base.specs.StepChoice.{IsStepChoice}
use Rattle.office_base.specs.declared.category_steps.CategoryStep.{CategoryStep}
use Rattle.office_base.specs.declared.person.Person.{Person}
use Rattle.office_base.specs.declared.step.StepKind.{StepKind}
use Rattle.office_base.specs.declared.step.StepKind.TheVariants.{Open, Dereserved}
use Rattle.placements.specs.Ranks.{AreAmong, AreDistinct}
use Rattle.placements.proofs.Ranks.{among_sublist, among_again, pairwise_sublist, widen}
use Rattle.placements.proofs.Sublists.{sublist_again}
use Rattle.placements.proofs.Filters.{filter-sublist, among_filter}
use Rattle.seat_matrix.specs.Seats.{is_dereserved, seats_of}
use Rattle.seat_matrix.specs.declared.seats.ProgrammeSeats.{ProgrammeSeats}
use Rattle.programme_lists.specs.Programme.{Admissions, IsProgrammeChoice, is_of, left_by, people_of, step_of, step_with, unfilled, without}
use Rattle.programme_lists.proofs.Table.{IsRow, of_row, own_view, row_facts, rows_apart, view}
use Rattle.programme_lists.proofs.Taken.{among_without, among_without_from}
use Rattle.programme_lists.proofs.Walk.{members_sublist, same_category, still_there}
use Rattle.open_then_category.proofs.Lists.{without_mono}

-- ---- each step

-- what holds of the open step and of each row holds of each step with seats of its own
pub each_own : (P : StepKind → Type 0) → P Open → ((row : CategoryStep) → IsRow row → P row.step) → (kind : StepKind) → is_dereserved kind ≡ false → P kind
each_own P first category kind own = elim (own_view kind own) [
  | inl same ↦ subst P (sym same) first
  | inr found ↦ subst P (sym found.2) (category found.0 found.1)
]

-- and with the de-reserved one it holds of each step
pub each_kind : (P : StepKind → Type 0) → P Open → ((row : CategoryStep) → IsRow row → P row.step) → P Dereserved → (kind : StepKind) → P kind
each_kind P first category last kind = elim (view kind) [
  | inl same ↦ subst P (sym same) first
  | inr other ↦ elim other [ inl found ↦ subst P (sym found.2) (category found.0 found.1) | inr same ↦ subst P (sym same) last ]
]

-- a step has seats of its own, or is the de-reserved one
pub kind_or_last : (kind : StepKind) → (is_dereserved kind ≡ false) ⊎ (kind ≡ Dereserved)
kind_or_last kind = each_kind (λ k. (is_dereserved k ≡ false) ⊎ (k ≡ Dereserved)) (inl refl) (λ row here. inl (row_facts row here).own) (inr refl) kind

-- the steps of some rows
abbrev pub steps_of : List CategoryStep → List StepKind
steps_of rows = map (λ row. row.step) rows

pub row_among : (kind : StepKind) (rows : List CategoryStep) → IsAmong kind (steps_of rows) → (row : CategoryStep) × IsAmong row rows × (kind ≡ row.step)
row_among kind [] here = absurd here
row_among kind (first ∷ rows) here = elim here [
  | inl same ↦ (first, inl refl, same)
  | inr later ↦ let found = row_among kind rows later in (found.0, inr found.1, found.2)
]

-- what holds of the step of each row holds of each of their steps
pub each_step : (P : StepKind → Type 0) (rows : List CategoryStep) → ((row : CategoryStep) → IsAmong row rows → P row.step) → (kind : StepKind) → IsAmong kind (steps_of rows) → P kind
each_step P rows each kind here = let found = row_among kind rows here in subst P (sym found.2) (each found.0 found.1)

pub own_back : (kind : StepKind) → IsAmong kind own_steps → is_dereserved kind ≡ false
own_back kind here = elim here [
  | inl same ↦ subst (λ k. is_dereserved k ≡ false) (sym same) refl
  | inr later ↦ each_step (λ k. is_dereserved k ≡ false) category_steps (λ row found. (row_facts row found).own) kind later
]

-- ---- the choice of the programme, step by step

-- those whom the open step left
abbrev pub rest_of : List Person → Admissions → List Person
rest_of applicants admissions = without applicants (admissions Open)

pub open_choice : (version : ℕ) (seats : ProgrammeSeats) (people : List Person) (a : Admissions) → IsProgrammeChoice version seats people a
    → IsStepChoice (step_with seats.list (seats_of seats Open) (filter (is_common seats.list) people)) (a Open)
open_choice version seats people a choice = choice.own Open refl

pub row_choice : (version : ℕ) (seats : ProgrammeSeats) (people : List Person) (a : Admissions) → IsProgrammeChoice version seats people a → (row : CategoryStep) → IsRow row
    → IsStepChoice (step_with seats.list (seats_of seats row.step) (filter (is_of row.category) (rest_of people a))) (a row.step)
row_choice version seats people a choice row here =
    subst (λ (some : List Person). IsStepChoice (step_with seats.list (seats_of seats row.step) some) (a row.step)) ((row_facts row here).people seats.list people a)
    (choice.own row.step (row_facts row here).own)

-- the choices of the steps are that of the programme
pub made_choice : (version : ℕ) (seats : ProgrammeSeats) (people : List Person) (a : Admissions)
    → IsStepChoice (step_with seats.list (seats_of seats Open) (filter (is_common seats.list) people)) (a Open)
    → ((row : CategoryStep) → IsRow row → IsStepChoice (step_with seats.list (seats_of seats row.step) (filter (is_of row.category) (rest_of people a))) (a row.step))
    → a Dereserved ≡ take (unfilled version seats a) (people_of seats.list people a Dereserved) → IsProgrammeChoice version seats people a
made_choice version seats people a first category last = record {
  own = each_own (λ kind. IsStepChoice (step_of seats people a kind) (a kind)) first
      (λ row here. subst (λ (some : List Person). IsStepChoice (step_with seats.list (seats_of seats row.step) some) (a row.step)) (sym ((row_facts row here).people seats.list people a)) (category row here));
  dereserved = last;
}

-- ---- whom steps left

-- who is left among all of the people, also after one more step
pub without_among : (people taken all : List Person) → AreAmong people all → AreAmong (without people taken) all
without_among people taken all within = among_again (without people taken) people all (among_sublist (without people taken) people (filter-sublist _ people)) within

-- who is left is one of the people, and nobody whom one of the steps admits
pub is_left_by : (kinds : List StepKind) (person : Person) (people : List Person) (a : Admissions) → IsAmong person (left_by kinds people a)
    → IsAmong person people × ((kind : StepKind) → IsAmong kind kinds → IsAmong person (a kind) → ⊥)
is_left_by [] person people a here = (here, λ kind none. absurd none)
is_left_by (first ∷ kinds) person people a here =
    let later = is_left_by kinds person (without people (a first)) a here in
    let now = among_without person people (a first) later.0 in (
      now.0,
      λ kind among there. elim among [
        | inl same ↦ now.1 (subst (λ (k : StepKind). IsAmong person (a k)) same there)
        | inr rest ↦ later.1 kind rest there
      ],
    )

pub among_left_by : (kinds : List StepKind) (person : Person) (all people : List Person) (a : Admissions) → AreDistinct all → AreAmong people all
    → ((kind : StepKind) → IsAmong kind kinds → AreAmong (a kind) all) → IsAmong person people → ((kind : StepKind) → IsAmong kind kinds → IsAmong person (a kind) → ⊥)
    → IsAmong person (left_by kinds people a)
among_left_by [] person all people a distinct within each here free = here
among_left_by (first ∷ kinds) person all people a distinct within each here free =
    among_left_by kinds person all (without people (a first)) a distinct (without_among people (a first) all within) (λ kind later. each kind (inr later))
    (among_without_from all people (a first) person distinct within (each first (inl refl)) here (free first (inl refl))) (λ kind later. free kind (inr later))

-- they are a sublist of the people
pub left_sublist : (kinds : List StepKind) (people all : List Person) (a : Admissions) → IsSublist people all → IsSublist (left_by kinds people a) all
left_sublist [] people all a sub = sub
left_sublist (first ∷ kinds) people all a sub = left_sublist kinds (without people (a first)) all a (sublist_again (without people (a first)) people all (filter-sublist _ people) sub)

-- those who are left of some people are left of more, if each step that refuses a person there refuses the person here
pub left_by_mono : (kinds : List StepKind) (all some more : List Person) (before after : Admissions) → AreDistinct all → IsSublist some more → AreAmong more all
    → ((kind : StepKind) → IsAmong kind kinds → AreAmong (after kind) all)
    → ((kind : StepKind) → IsAmong kind kinds → (person : Person) → IsAmong person some → (IsAmong person (before kind) → ⊥) → IsAmong person (after kind) → ⊥)
    → IsSublist (left_by kinds some before) (left_by kinds more after)
left_by_mono [] all some more before after distinct sub within each stays = sub
left_by_mono (first ∷ kinds) all some more before after distinct sub within each stays =
    left_by_mono kinds all (without some (before first)) (without more (after first)) before after distinct
    (without_mono all some more (before first) (after first) distinct sub within (each first (inl refl)) (stays first (inl refl)))
    (without_among more (after first) all within) (λ kind later. each kind (inr later))
    (λ kind later person here. stays kind (inr later) person (among_without person some (before first) here).0)

-- ---- the persons of several rows

-- Each row's persons are members of its category among the people, and no two rows have one category.
pub record AreThere (rows : List CategoryStep) (people : List Person) (a : Admissions) : Type 0 where
  pub distinct : AreDistinct people
  pub within : (row : CategoryStep) → IsAmong row rows → IsSublist (a row.step) people
  pub members : (row : CategoryStep) → IsAmong row rows → (person : Person) → IsAmong person (a row.step) → row.category ≡ person.category
  pub apart : Pairwise (λ one other. (one.category ≢ other.category) × (one.step ≢ other.step)) rows

-- after the first row's persons are taken, those of the other rows are still there
pub there_next : (row : CategoryStep) (rows : List CategoryStep) (people : List Person) (a : Admissions) → AreThere (row ∷ rows) people a → AreThere rows (without people (a row.step)) a
there_next row rows people a t = record {
  distinct = pairwise_sublist _ (without people (a row.step)) people (filter-sublist _ people) t.distinct;
  within = λ other later. still_there people people (a other.step) (a row.step) t.distinct (among_sublist (a other.step) people (t.within other (inr later)))
      (among_sublist (a row.step) people (t.within row (inl refl))) (t.within other (inr later))
      (λ person here there. (of_row (λ one. (row.category ≢ one.category) × (row.step ≢ one.step)) rows other t.apart.0 later).0
      (t.members row (inl refl) person there ∙ sym (t.members other (inr later) person here)));
  members = λ other later. t.members other (inr later);
  apart = t.apart.1;
}

-- so it is with those whom a choice admits among the people whom the open step left
pub are_there : (version : ℕ) (seats : ProgrammeSeats) (people : List Person) (a : Admissions) → AreDistinct people → IsProgrammeChoice version seats people a → AreThere category_steps (rest_of people a) a
are_there version seats people a distinct choice = record {
  distinct = pairwise_sublist _ (rest_of people a) people (filter-sublist _ people) distinct;
  within = λ row here. members_sublist row.category (a row.step) (rest_of people a) (row_choice version seats people a choice row here).may.people;
  members = λ row here person there.
      let sub = (row_choice version seats people a choice row here).may.people in
      same_category row.category person.category
      (among_filter (is_of row.category) person (rest_of people a) (widen person (a row.step) (filter (is_of row.category) (rest_of people a)) (among_sublist (a row.step) (filter (is_of row.category) (rest_of people a)) sub) there)).1;
  apart = rows_apart;
}

-- ---- sums over rows

pub sum-cons : (n : ℕ) (ns : List ℕ) → sum (n ∷ ns) ≡ n + sum ns
sum-cons n ns = sum_by-cons (λ (m : ℕ). m) n ns

-- two sums are at most two others where each row's part is
pub sums_rise : (rows : List CategoryStep) (f g h k : CategoryStep → ℕ) → ((row : CategoryStep) → IsAmong row rows → f row + g row ≤ h row + k row)
    → sum (map f rows) + sum (map g rows) ≤ sum (map h rows) + sum (map k rows)
sums_rise [] f g h k each = omega arith
sums_rise (row ∷ rows) f g h k each =
    let now = each row (inl refl) in
    let later = sums_rise rows f g h k (λ other found. each other (inr found)) in
    let a = sum-cons (f row) (map f rows) in
    let b = sum-cons (g row) (map g rows) in
    let c = sum-cons (h row) (map h rows) in
    let d = sum-cons (k row) (map k rows) in
    omega (arith, now, later, a, b, c, d)

-- a sum is at most another where each row's part is
pub sum_rises : (rows : List CategoryStep) (f h : CategoryStep → ℕ) → ((row : CategoryStep) → IsAmong row rows → f row ≤ h row) → sum (map f rows) ≤ sum (map h rows)
sum_rises [] f h each = omega arith
sum_rises (row ∷ rows) f h each =
    let now = each row (inl refl) in
    let later = sum_rises rows f h (λ other found. each other (inr found)) in
    let a = sum-cons (f row) (map f rows) in
    let c = sum-cons (h row) (map h rows) in
    omega (arith, now, later, a, c)

-- and the same where each row's part is
pub sum_same : (rows : List CategoryStep) (f h : CategoryStep → ℕ) → ((row : CategoryStep) → IsAmong row rows → f row ≡ h row) → sum (map f rows) ≡ sum (map h rows)
sum_same [] f h each = refl
sum_same (row ∷ rows) f h each =
    let now = each row (inl refl) in
    let later = sum_same rows f h (λ other found. each other (inr found)) in
    let a = sum-cons (f row) (map f rows) in
    let c = sum-cons (h row) (map h rows) in
    omega (arith, now, later, a, c)
