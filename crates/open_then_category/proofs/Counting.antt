-- How many pass a test: of people with one more, of people by merit, and of those who are left where some are taken.
use Rattle.std.proofs.Common.{◌≡◌, ◌≤◌, ◌+◌, ℕ, Bool, true, false, cond, List, [], ◌∷◌, map, length, eqb, refl, sym, ap, subst, inl, inr, arith}
use Rattle.std.specs.Prelude.{sum}
use Rattle.std.proofs.lemmas.Bool.{cond-true, cond-false, eq-eqb, or_parts}
use Rattle.std.specs.List.{AllZip, filter}
use Rattle.office_base.specs.CategorySteps.{category_steps}
use Rattle.office_base.specs.Limits.{most_step_seats}
use Rattle.office_base.specs.Lists.{IsAmong, IsSublist}
use Rattle.office_base.specs.Merit.{in_merit, is_better, with_person}
use Rattle.office_base.specs.Person.{is_common}
use Rattle.office_base.specs.StepChoice.{AreRanked}
use Rattle.office_base.specs.declared.category_steps.CategoryStep.{CategoryStep}
use Rattle.office_base.specs.declared.person.ListId.{ListId}
use Rattle.office_base.specs.declared.person.Person.{Person}
use Rattle.office_base.specs.declared.step.StepKind.{StepKind}
use Rattle.office_base.specs.declared.step.StepKind.TheVariants.{Open, Dereserved}
use Rattle.placements.proofs.Filters.{filter-sublist}
use Rattle.placements.proofs.Ranks.{ranked_sublist}
use Rattle.placements.proofs.Sublists.{IsSublist-nil, IsSublist-take, sublist_again}
use Rattle.placements.specs.Ranks.{AreDistinct}
use Rattle.seat_matrix.specs.Seats.{is_dereserved}
use Rattle.seat_matrix.specs.declared.seats.ProgrammeSeats.{ProgrammeSeats}
use Rattle.programme_lists.specs.Listing.{ShowsStep}
use Rattle.programme_lists.specs.Programme.{Admissions, IsProgrammeChoice, is_of, is_taken, left_by, people_of, unfilled, without}
use Rattle.programme_lists.specs.declared.programme.StepList.{StepList}
use Rattle.programme_lists.proofs.Table.{IsRow, row_facts}
use Rattle.programme_lists.proofs.Walk.{minus, minus_is_without, not_taken, ranked_without}
use Rattle.open_then_category.specs.State.{IsProgrammeKept, ProgrammeKept, admissions_of}
use Rattle.open_then_category.specs.StepLaws.{AreLawful}
use Rattle.open_then_category.specs.Tried.{AreCounted, HaveCome, ShowCategories, common_taken, members_of, one_if}
use Rattle.open_then_category.specs.declared.kept_lists.Tried.{Tried}
use Rattle.open_then_category.proofs.Assemble.{row_shown}
use Rattle.open_then_category.proofs.ProgrammeLaws.{last_sublist}
use Rattle.open_then_category.proofs.Rows.{AreThere, are_there, each_kind, open_choice, rest_of, steps_of, sum-cons, there_next}

-- how many of the people pass the test
abbrev pub passed : (Person → Bool) → List Person → ℕ
passed test people = length (filter test people)

-- one more
pub passed_more : (test : Person → Bool) (person : Person) (people : List Person) → passed test (person ∷ people) ≡ passed test people + one_if (test person)
passed_more test person people = by_test (test person) (filter test people)
  where
    by_test : (b : Bool) (rest : List Person) → length (cond b (person ∷ rest) rest) ≡ length rest + one_if b
    by_test true rest = omega arith
    by_test false rest = omega arith

-- a person put among people by merit
passed_with : (test : Person → Bool) (list : ListId) (person : Person) (people : List Person) → passed test (with_person list person people) ≡ passed test people + one_if (test person)
passed_with test list person [] = passed_more test person []
passed_with test list person (other ∷ people) = by_place (is_better list person other) (with_person list person people) (passed_with test list person people)
  where
    by_place : (b : Bool) (later : List Person) → passed test later ≡ passed test people + one_if (test person)
        → passed test (cond b (person ∷ other ∷ people) (other ∷ later)) ≡ passed test (other ∷ people) + one_if (test person)
    by_place true later e = passed_more test person (other ∷ people)
    by_place false later e = (let a = passed_more test other later in let b = passed_more test other people in omega (arith, a, b, e))

-- as many of people by merit as of the people
pub passed_in_merit : (test : Person → Bool) (list : ListId) (people : List Person) → passed test (in_merit list people) ≡ passed test people
passed_in_merit test list [] = refl
passed_in_merit test list (person ∷ people) =
    let a = passed_with test list person (in_merit list people) in
    let b = passed_in_merit test list people in
    let d = passed_more test person people in
    omega (arith, a, b, d)

-- where some are taken
passed_minus : (test : Person → Bool) (people taken : List Person) → AreDistinct people → IsSublist taken people → passed test (minus people taken) + passed test taken ≡ passed test people
passed_minus test [] taken distinct sub = (let none = ap (λ (l : List Person). passed test l) sub in omega (arith, none))
passed_minus test (person ∷ people) [] distinct sub =
    let rest = passed_minus test people [] distinct.1 (IsSublist-nil people) in
    let a = passed_more test person (minus people []) in
    let b = passed_more test person people in
    omega (arith, rest, a, b)
passed_minus test (person ∷ people) (other ∷ taken) distinct sub = elim sub [
  | inl later ↦
      let free = not_taken person people (other ∷ taken) distinct.0 later in
      let parts = or_parts (eqb other.id.0 person.id.0) (is_taken taken person) free in
      let stays = ap (λ (l : List Person). passed test l) (cond-false (eqb other.id.0 person.id.0) (minus people taken) (person ∷ minus people (other ∷ taken)) parts.0) in
      let rest = passed_minus test people (other ∷ taken) distinct.1 later in
      let a = passed_more test person (minus people (other ∷ taken)) in
      let b = passed_more test person people in
      omega (arith, stays, rest, a, b)
  | inr now ↦
      let same : other ≡ person = cc (now.1) in
      let left : taken ≡ now.0 = cc (now.1) in
      let here : eqb other.id.0 person.id.0 ≡ true = eq-eqb other.id.0 person.id.0 (ap (λ (p : Person). p.id.0) same) in
      let goes = ap (λ (l : List Person). passed test l) (cond-true (eqb other.id.0 person.id.0) (minus people taken) (person ∷ minus people (other ∷ taken)) here) in
      let rest = passed_minus test people taken distinct.1 (subst (λ (zs : List Person). IsSublist zs people) (sym left) now.2) in
      let a = passed_more test other taken in
      let b = passed_more test person people in
      let d = ap (λ (p : Person). one_if (test p)) same in
      omega (arith, goes, rest, a, b, d)
]

pub passed_without : (test : Person → Bool) (people taken : List Person) → AreDistinct people → IsSublist taken people → passed test (without people taken) + passed test taken ≡ passed test people
passed_without test people taken distinct sub =
    subst (λ (l : List Person). passed test l + passed test taken ≡ passed test people) (minus_is_without people taken distinct sub) (passed_minus test people taken distinct sub)

-- ---- the steps of a programme

-- those whom rows left, and those whom their steps admit
rows_passed : (test : Person → Bool) (rows : List CategoryStep) (people : List Person) (a : Admissions) → AreThere rows people a
    → passed test (left_by (steps_of rows) people a) + sum (map (λ kind. passed test (a kind)) (steps_of rows)) ≡ passed test people
rows_passed test [] people a there = omega arith
rows_passed test (row ∷ rows) people a there =
    let now = passed_without test people (a row.step) there.distinct (there.within row (inl refl)) in
    let later = rows_passed test rows (without people (a row.step)) a (there_next row rows people a there) in
    let parts = sum-cons (passed test (a row.step)) (map (λ kind. passed test (a kind)) (steps_of rows)) in
    omega (arith, now, later, parts)

-- How many compete for the seats of each step, by how many came.
pub record Counts (list : ListId) (people : List Person) (admissions : Admissions) : Type 0 where
  pub common : length (people_of list (in_merit list people) admissions Open) ≡ passed (is_common list) people
  pub members : (row : CategoryStep) → IsRow row
      → length (people_of list (in_merit list people) admissions row.step) + passed (is_of row.category) (admissions Open) ≡ passed (is_of row.category) people
  pub last : length (people_of list (in_merit list people) admissions Dereserved) + common_taken list admissions ≡ passed (is_common list) people
  -- and each step's persons are in merit order
  pub ranked : (kind : StepKind) → AreRanked list (admissions kind)

pub counts : (version : ℕ) (seats : ProgrammeSeats) (people : List Person) (admissions : Admissions) → AreRanked seats.list (in_merit seats.list people)
    → IsProgrammeChoice version seats (in_merit seats.list people) admissions → Counts seats.list people admissions
counts version seats people admissions ranked choice =
    let list = seats.list in
    let all = in_merit list people in
    let common = is_common list in
    let open_sub : IsSublist (admissions Open) all =
    sublist_again (admissions Open) (filter common all) all (open_choice version seats all admissions choice).may.people (filter-sublist common all) in
    let rest = rest_of all admissions in
    let rest_ranked = ranked_without list all (admissions Open) ranked in
    let there = are_there version seats all admissions ranked.distinct choice in
    let left = λ (test : Person → Bool).
    let a = passed_without test all (admissions Open) ranked.distinct open_sub in
    let b = passed_in_merit test list people in
    let sum : passed test rest + passed test (admissions Open) ≡ passed test people = omega (arith, a, b) in sum in
    let whole = people_of list all admissions Dereserved in
    record {
      common = passed_in_merit common list people;
      members = λ row here.
          let competes = ap length ((row_facts row here).people list all admissions) in
          let sum = left (is_of row.category) in
          omega (arith, competes, sum);
      last =
          let first = left common in
          let rows = rows_passed common category_steps rest admissions there in
          let parts = sum-cons (passed common (admissions Open)) (map (λ kind. passed common (admissions kind)) (steps_of category_steps)) in
          omega (arith, first, rows, parts);
      ranked = each_kind (λ kind. AreRanked list (admissions kind)) (ranked_sublist list (admissions Open) all ranked open_sub)
          (λ row here. ranked_sublist list (admissions row.step) rest rest_ranked (there.within row here))
          (ranked_sublist list (admissions Dereserved) all ranked
          (sublist_again (admissions Dereserved) whole all (subst (λ (some : List Person). IsSublist some whole) (sym choice.dereserved) (IsSublist-take (unfilled version seats admissions) whole))
          (last_sublist list all admissions)));
    }

-- no step of its own seats admits more than a step may have
pub few_admitted : (state : ProgrammeKept) → IsProgrammeKept state → (kind : StepKind) → is_dereserved kind ≡ false → length (admissions_of state kind) ≤ most_step_seats
few_admitted state kept kind own =
    let some = (kept.choice.own kind own).may.seats in
    let most = (kept.are_seats.steps kind).seats in
    omega (arith, some, most)

-- who came to a programme, step by step
pub who_came : (state : ProgrammeKept) (tried : Tried) (people : List Person) → AreLawful → HaveCome state tried people → Counts state.seats.list people (admissions_of state)
who_came state tried people laws come = counts state.version state.seats people (admissions_of state) (laws.in_merit_ranks state.seats.list people come.may).0 come.choice

-- each row's step admits distinct persons, and no more members came to it than that many
pub rows_counted : (state : ProgrammeKept) (people : List Person) → Counts state.seats.list people (admissions_of state) → AreCounted state category_steps (members_of people)
rows_counted state people k = by category_steps (λ row here. here)
  where
    by : (rows : List CategoryStep) → ((row : CategoryStep) → IsAmong row rows → IsRow row) → AreCounted state rows (map (λ row. passed (is_of row.category) people) rows)
    by [] all = tt
    by (row ∷ rows) all =
        let ranked = k.ranked row.step in
        let came = k.members row (all row (inl refl)) in
        (record { distinct = ranked.distinct; traits = ranked.traits; few = omega (arith, came) }, by rows (λ other later. all other (inr later)))

-- and its list shows the step
pub rows_shown : (state : ProgrammeKept) (people : List Person) (lists : List StepList) → Counts state.seats.list people (admissions_of state) → ShowCategories state category_steps (members_of people) lists
    → AllZip (λ row list. ShowsStep state.version state.seats (in_merit state.seats.list people) (admissions_of state) row.step list) category_steps lists
rows_shown state people lists k shown = by category_steps lists (λ row here. here) shown
  where
    by : (rows : List CategoryStep) (some : List StepList) → ((row : CategoryStep) → IsAmong row rows → IsRow row)
        → ShowCategories state rows (map (λ row. passed (is_of row.category) people) rows) some
        → AllZip (λ row list. ShowsStep state.version state.seats (in_merit state.seats.list people) (admissions_of state) row.step list) rows some
    by [] [] all shows = tt
    by [] (list ∷ some) all shows = absurd shows
    by (row ∷ rows) [] all shows = absurd shows
    by (row ∷ rows) (list ∷ some) all shows =
        let here = all row (inl refl) in
        let competing = people_of state.seats.list (in_merit state.seats.list people) (admissions_of state) row.step in (
          row_shown state.version state.seats (in_merit state.seats.list people) competing (admissions_of state row.step) (admissions_of state) row list here
              (shows.0 competing (k.members row here)) refl refl,
          by rows some (λ other later. all other (inr later)) shows.1,
        )
