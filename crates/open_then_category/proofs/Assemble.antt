-- The choice of a programme, put together from its steps.
use Rattle.std.proofs.Common.{◌≡◌, ◌≤◌, ◌<◌, ◌++◌, ℕ, zero, suc, false, List, [], ◌∷◌, take, length, get_or, refl, sym, ap, ◌∙◌, subst, inl, inr, arith}
use Rattle.std.specs.List.{AllZip, filter}
use Rattle.office_base.specs.CategorySteps.{all_steps, category_steps}
use Rattle.office_base.specs.Certificate.{IsCanonical}
use Rattle.office_base.specs.Limits.{most_step_seats}
use Rattle.office_base.specs.Lists.{IsAmong, IsSublist}
use Rattle.office_base.specs.Person.{is_common}
use Rattle.office_base.specs.StepChoice.{AreRanked, IsStepChoice}
use Rattle.office_base.specs.declared.category_steps.CategoryStep.{CategoryStep}
use Rattle.office_base.specs.declared.category_steps.GivesUp.TheVariants.{Never}
use Rattle.office_base.specs.declared.person.Category.TheVariants.{Gen}
use Rattle.office_base.specs.declared.person.ListId.{ListId}
use Rattle.office_base.specs.declared.person.Person.{Person}
use Rattle.office_base.specs.declared.step.StepKind.{StepKind}
use Rattle.office_base.specs.declared.step.StepKind.TheVariants.{Open, Dereserved}
use Rattle.placements.proofs.Filters.{among_filter}
use Rattle.placements.proofs.Ranks.{among_sublist, widen}
use Rattle.seat_matrix.specs.Seats.{AreProgrammeSeats, is_dereserved, no_protections, seats_of}
use Rattle.seat_matrix.specs.declared.seats.ProgrammeSeats.{ProgrammeSeats}
use Rattle.programme_lists.specs.Listing.{Shows, ShowsStep, seats_filled}
use Rattle.programme_lists.specs.Programme.{Admissions, IsProgrammeChoice, is_of, left_by, left_over, people_of, step_with, unfilled, without}
use Rattle.programme_lists.specs.declared.programme.StepList.{StepList}
use Rattle.programme_lists.proofs.Table.{IsRow, row_facts, rows_apart}
use Rattle.programme_lists.proofs.Walk.{members_sublist, ranked_without, same_category}
use Rattle.programme_lists.proofs.Taken.{length-without}
use Rattle.open_then_category.specs.Stepwise.{AreCategorySteps, AreTaken, AreWithin, IsCategoryStep, ShowsLast, admissions_in, empty_after, left_of, shown_by}
use Rattle.open_then_category.proofs.Handed.{At, categories_at, categories_before, last_at}
use Rattle.open_then_category.proofs.ProgrammeLaws.{given}
use Rattle.open_then_category.proofs.Rows.{AreThere, made_choice, steps_of, sum_same, there_next}

-- those whom lists left of ranked people are ranked
pub ranked_left : (list : ListId) (people : List Person) (lists : List StepList) → AreRanked list people → AreRanked list (left_of people lists)
ranked_left list people [] ranked = ranked
ranked_left list people (one ∷ lists) ranked = ranked_left list (without people one.admitted) lists (ranked_without list people one.admitted ranked)

-- and they are no more than the people
pub length-left_of : (people : List Person) (lists : List StepList) → length (left_of people lists) ≤ length people
length-left_of people [] = omega arith
length-left_of people (one ∷ lists) =
    let first = length-without people one.admitted in
    let later = length-left_of (without people one.admitted) lists in
    omega (arith, first, later)

-- ---- what the programme shows

-- each step with seats of its own fills those
own_filled : (version : ℕ) (seats : ProgrammeSeats) (a : Admissions) (kind : StepKind) → is_dereserved kind ≡ false → seats_filled version seats a kind ≡ (seats_of seats kind).seats
own_filled version seats a Dereserved own = absurd (cc own)
own_filled version seats a kind own = refl

-- a row's list shows the step of the row, of any members of its category who are as many as the step sees
pub row_shown : (version : ℕ) (seats : ProgrammeSeats) (applicants people admitted : List Person) (a : Admissions) (row : CategoryStep) (list : StepList) → IsRow row
    → Shows row.step (seats_of seats row.step).seats (seats_of seats row.step).protections people admitted list → length people ≡ length (people_of seats.list applicants a row.step)
    → admitted ≡ a row.step → ShowsStep version seats applicants a row.step list
row_shown version seats applicants people admitted a row list here s many same = record {
  of_kind = s.of_kind;
  of_seats = s.of_seats ∙ sym (own_filled version seats a row.step (row_facts row here).own);
  candidates = s.candidates ∙ many;
  persons = s.persons ∙ same;
  certificate = subst (λ (persons : List Person). IsCanonical (seats_of seats row.step).protections persons list.cert.pairs) same s.certificate;
}

-- what holds of the steps of rows holds of all steps, if it holds of the de-reserved one
zip_end : (R : StepKind → StepList → Type 0) (rows : List CategoryStep) (lists : List StepList) (last : StepList) → AllZip (λ row list. R row.step list) rows lists → R Dereserved last
    → AllZip R (steps_of rows ++ Dereserved ∷ []) (lists ++ last ∷ [])
zip_end R [] [] last all end = (end, tt)
zip_end R [] (list ∷ lists) last all end = absurd all
zip_end R (row ∷ rows) [] last all end = absurd all
zip_end R (row ∷ rows) (list ∷ lists) last all end = (all.0, zip_end R rows lists last all.1 end)

-- the lists of the steps show the steps of the programme
pub steps_shown : (version : ℕ) (seats : ProgrammeSeats) (applicants : List Person) (a : Admissions) (first last : StepList) (lists : List StepList) → ShowsStep version seats applicants a Open first
    → AllZip (λ row list. ShowsStep version seats applicants a row.step list) category_steps lists → ShowsStep version seats applicants a Dereserved last
    → AllZip (ShowsStep version seats applicants a) all_steps (first ∷ lists ++ last ∷ [])
steps_shown version seats applicants a first last lists one rows end = (one, zip_end (ShowsStep version seats applicants a) category_steps lists last rows end)

-- ---- whom it admits

-- what holds of each row and its list
zip_each : (R S : CategoryStep → StepList → Type 0) (rows : List CategoryStep) (lists : List StepList) → ((row : CategoryStep) (list : StepList) → IsAmong row rows → R row list → S row list)
    → AllZip R rows lists → AllZip S rows lists
zip_each R S [] [] each all = tt
zip_each R S [] (list ∷ lists) each all = absurd all
zip_each R S (row ∷ rows) [] each all = absurd all
zip_each R S (row ∷ rows) (list ∷ lists) each all = (each row list (inl refl) all.0, zip_each R S rows lists (λ other one later. each other one (inr later)) all.1)

zip_both : (R S : CategoryStep → StepList → Type 0) (rows : List CategoryStep) (lists : List StepList) → AllZip R rows lists → AllZip S rows lists → AllZip (λ row list. R row list × S row list) rows lists
zip_both R S [] [] one two = tt
zip_both R S [] (list ∷ lists) one two = absurd one
zip_both R S (row ∷ rows) [] one two = absurd one
zip_both R S (row ∷ rows) (list ∷ lists) one two = ((one.0, two.0), zip_both R S rows lists one.1 two.1)

zip_row : (R : CategoryStep → StepList → Type 0) (rows : List CategoryStep) (lists : List StepList) (row : CategoryStep) → AllZip R rows lists → IsAmong row rows → (list : StepList) × R row list
zip_row R [] lists row all here = absurd here
zip_row R (first ∷ rows) [] row all here = absurd all
zip_row R (first ∷ rows) (list ∷ lists) row all here = elim here [
  | inl same ↦ (list, subst (λ (r : CategoryStep). R r list) (sym same) all.0)
  | inr later ↦ zip_row R rows lists row all.1 later
]

pub zip_length : {X Y : Type 0} (R : X → Y → Type 0) (xs : List X) (ys : List Y) → AllZip R xs ys → length ys ≡ length xs
zip_length R [] [] all = refl
zip_length R [] (y ∷ ys) all = absurd all
zip_length R (x ∷ xs) [] all = absurd all
zip_length R (x ∷ xs) (y ∷ ys) all = ap suc (zip_length R xs ys all.1)

-- whom the lists of rows leave
left_is : (all : List StepList) (rows : List CategoryStep) (lists : List StepList) (people : List Person) → AllZip (λ (row : CategoryStep) (list : StepList). At all row.step list) rows lists → left_by (steps_of rows) people (admissions_in all) ≡ left_of people lists
left_is all [] [] people at = refl
left_is all [] (list ∷ lists) people at = absurd at
left_is all (row ∷ rows) [] people at = absurd at
left_is all (row ∷ rows) (list ∷ lists) people at =
    ap (λ (taken : List Person). left_by (steps_of rows) (without people taken) (admissions_in all)) (ap shown_by at.0) ∙ left_is all rows lists (without people list.admitted) at.1

-- the persons of each row's list are there after those of the rows before are taken
pub are_taken : (seats : ProgrammeSeats) (rest : List Person) (lists : List StepList) → AreRanked seats.list rest → AreCategorySteps seats rest lists → AreTaken rest lists
are_taken seats rest lists ranked are = by category_steps lists rest there (zip_each (λ row list. IsCategoryStep seats rest row list × At (first ∷ lists) row.step list) (λ row list. At (first ∷ lists) row.step list) category_steps lists (λ row list here one. one.1) at)
  where
    first : StepList
    first = record { kind = Open; seats = 0; candidates = 0; admitted = []; cert = record { pairs = [] } }

    a : Admissions
    a = admissions_in (first ∷ lists)

    at : AllZip (λ row list. IsCategoryStep seats rest row list × At (first ∷ lists) row.step list) category_steps lists
    at = zip_both (IsCategoryStep seats rest) (λ row list. At (first ∷ lists) row.step list) category_steps lists are (categories_at first lists (zip_length (IsCategoryStep seats rest) category_steps lists are))

    -- a row's persons are members of its category among the rest
    sub : (row : CategoryStep) → IsRow row → IsSublist (a row.step) (filter (is_of row.category) rest)
    sub row here =
        let found = zip_row (λ row list. IsCategoryStep seats rest row list × At (first ∷ lists) row.step list) category_steps lists row at here in
        subst (λ (people : List Person). IsSublist people (filter (is_of row.category) rest)) (sym (ap shown_by found.1.1)) found.1.0.choice.may.people

    there : AreThere category_steps rest a
    there = record {
      distinct = ranked.distinct;
      within = λ row here. members_sublist row.category (a row.step) rest (sub row here);
      members = λ row here person held. same_category row.category person.category
          (among_filter (is_of row.category) person rest (widen person (a row.step) (filter (is_of row.category) rest) (among_sublist (a row.step) (filter (is_of row.category) rest) (sub row here)) held)).1;
      apart = rows_apart;
    }

    by : (rows : List CategoryStep) (some : List StepList) (people : List Person) → AreThere rows people a → AllZip (λ (row : CategoryStep) (list : StepList). At (first ∷ lists) row.step list) rows some → AreTaken people some
    by [] [] people is holds = tt
    by [] (list ∷ some) people is holds = absurd holds
    by (row ∷ rows) [] people is holds = absurd holds
    by (row ∷ rows) (list ∷ some) people is holds =
        let same : a row.step ≡ list.admitted = ap shown_by holds.0 in (
          subst (λ (one : List Person). IsSublist one people) same (is.within row (inl refl)),
          by rows some (without people list.admitted) (subst (λ (one : List Person). AreThere rows (without people one) a) same (there_next row rows people a is)) holds.1,
        )

-- the open step, as it is chosen and shown from the applicants, whom it leaves this rest of
pub record IsOpenStep (seats : ProgrammeSeats) (applicants rest : List Person) (list : StepList) : Type 0 where
  pub left : rest ≡ without applicants list.admitted
  pub choice : IsStepChoice (step_with seats.list (seats_of seats Open) (filter (is_common seats.list) applicants)) list.admitted
  pub shows : Shows Open (seats_of seats Open).seats (seats_of seats Open).protections (filter (is_common seats.list) applicants) list.admitted list

-- the steps of a programme, chosen and shown one after another, show its choice
pub assembled : (version : ℕ) (seats : ProgrammeSeats) (applicants rest : List Person) (first last : StepList) (lists : List StepList) → IsOpenStep seats applicants rest first
    → AreCategorySteps seats rest lists → ShowsLast version seats rest first lists last
    → (a : Admissions) × IsProgrammeChoice version seats applicants a × AllZip (ShowsStep version seats applicants a) all_steps (first ∷ lists ++ last ∷ [])
assembled version seats applicants rest first last lists opened are shown = (a, choice, steps_shown version seats applicants a first last lists opened.shows rows end)
  where
    long : length lists ≡ length category_steps
    long = zip_length (IsCategoryStep seats rest) category_steps lists are

    a : Admissions
    a = admissions_in (first ∷ lists ++ last ∷ [])

    at : AllZip (λ (row : CategoryStep) (list : StepList). At (first ∷ lists ++ last ∷ []) row.step list) category_steps lists
    at = categories_before first lists (last ∷ []) long

    each : AllZip (λ row list. IsCategoryStep seats rest row list × At (first ∷ lists ++ last ∷ []) row.step list) category_steps lists
    each = zip_both (IsCategoryStep seats rest) (λ row list. At (first ∷ lists ++ last ∷ []) row.step list) category_steps lists are at

    -- so it admits by each row's step whom the row's list has
    same : AllZip (λ row list. a row.step ≡ list.admitted) category_steps lists
    same = zip_each (λ row list. At (first ∷ lists ++ last ∷ []) row.step list) (λ row list. a row.step ≡ list.admitted) category_steps lists (λ row list here found. ap shown_by found) at

    last_is : a Dereserved ≡ last.admitted
    last_is = ap shown_by (last_at first lists last long)

    empty : unfilled version seats a ≡ empty_after version seats (first ∷ lists)
    empty = sum_same category_steps (λ row. given version (seats_of seats row.step).seats (length (a row.step)) row)
        (λ row. given version (seats_of seats row.step).seats (length (admissions_in (first ∷ lists) row.step)) row) (λ row here.
        let one = zip_row (λ row list. (a row.step ≡ list.admitted) × At (first ∷ lists) row.step list) category_steps lists row
        (zip_both (λ row list. a row.step ≡ list.admitted) (λ row list. At (first ∷ lists) row.step list) category_steps lists same (categories_at first lists long)) here in
        ap (λ (people : List Person). given version (seats_of seats row.step).seats (length people) row) (one.1.0 ∙ sym (ap shown_by one.1.1)))

    left : left_over applicants a ≡ left_of rest lists
    left = ap (λ (people : List Person). left_by (steps_of category_steps) people a) (sym opened.left) ∙ left_is (first ∷ lists ++ last ∷ []) category_steps lists rest at

    last_people : people_of seats.list applicants a Dereserved ≡ filter (is_common seats.list) (left_of rest lists)
    last_people = ap (filter (is_common seats.list)) left

    choice : IsProgrammeChoice version seats applicants a
    choice = made_choice version seats applicants a opened.choice
        (λ row here.
        let one = zip_row (λ row list. IsCategoryStep seats rest row list × At (first ∷ lists ++ last ∷ []) row.step list) category_steps lists row each here in
        subst (λ (people : List Person). IsStepChoice (step_with seats.list (seats_of seats row.step) (filter (is_of row.category) people)) (a row.step)) opened.left
        (subst (IsStepChoice (step_with seats.list (seats_of seats row.step) (filter (is_of row.category) rest))) (sym (ap shown_by one.1.1)) one.1.0.choice))
        (last_is ∙ shown.persons ∙ ap (λ (n : ℕ). take n (filter (is_common seats.list) (left_of rest lists))) (sym empty) ∙ ap (take (unfilled version seats a)) (sym last_people))

    rows : AllZip (λ row list. ShowsStep version seats applicants a row.step list) category_steps lists
    rows = zip_each (λ row list. IsCategoryStep seats rest row list × At (first ∷ lists ++ last ∷ []) row.step list) (λ row list. ShowsStep version seats applicants a row.step list) category_steps lists (λ row list here one.
        row_shown version seats applicants (filter (is_of row.category) rest) list.admitted a row list here one.0.shows
        (ap (λ (people : List Person). length (filter (is_of row.category) people)) opened.left ∙ sym (ap length ((row_facts row here).people seats.list applicants a)))
        (sym (ap shown_by one.1))) each

    end : ShowsStep version seats applicants a Dereserved last
    end = record {
      of_kind = shown.of_kind;
      of_seats = shown.of_seats ∙ sym empty;
      candidates = shown.candidates ∙ ap length (sym last_people);
      persons = sym last_is;
      certificate = subst (λ (persons : List Person). IsCanonical no_protections persons last.cert.pairs) (sym shown.persons ∙ sym last_is) shown.certificate;
    }

-- no list of a category admits more than its seats
pub are_within : (seats : ProgrammeSeats) (rest : List Person) (lists : List StepList) → AreCategorySteps seats rest lists → AreWithin seats lists
are_within seats rest lists are = zip_each (IsCategoryStep seats rest) (λ row list. length list.admitted ≤ (seats_of seats row.step).seats) category_steps lists (λ row list here is. is.choice.may.seats) are

-- what holds of the things at each place holds of those at one
pub zip_get : {X Y : Type 0} (R : X → Y → Type 0) (xs : List X) (ys : List Y) (i : ℕ) (d : X) (e : Y) → AllZip R xs ys → i < length xs → R (get_or xs i d) (get_or ys i e)
zip_get R [] [] i d e all below = absurd (omega (arith, below))
zip_get R [] (y ∷ ys) i d e all below = absurd all
zip_get R (x ∷ xs) [] i d e all below = absurd all
zip_get R (x ∷ xs) (y ∷ ys) zero d e all below = all.0
zip_get R (x ∷ xs) (y ∷ ys) (suc i) d e all below = zip_get R xs ys i d e all.1 (omega (arith, below))

-- so no list admits more than a step may
pub few_in : (seats : ProgrammeSeats) (lists : List StepList) (i : ℕ) (d : StepList) → AreProgrammeSeats seats → AreWithin seats lists → i < length category_steps
    → length (get_or lists i d).admitted ≤ most_step_seats
few_in seats lists i d ok within below =
    let row = get_or category_steps i (record { step = Open; category = Gen; gives_up = Never }) in
    let held = zip_get (λ row list. length list.admitted ≤ (seats_of seats row.step).seats) category_steps lists i (record { step = Open; category = Gen; gives_up = Never }) d within below in
    let few = (ok.steps row.step).seats in
    omega (arith, held, few)
