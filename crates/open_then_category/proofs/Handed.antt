-- What the steps of the categories keep, by the numbers of the steps, and what comes of them when a person comes down to them.
use Rattle.std.proofs.Common.{◌≡◌, ◌<◌, ◌+◌, ℕ, zero, suc, true, eqb, List, [], ◌∷◌, ◌++◌, drop, map, length, get_or, set, take, refl, sym, ap, ◌∙◌, subst, append-nil, arith}
use Rattle.std.specs.Prelude.{Option, Some, slice_get}
use Rattle.std.proofs.lemmas.Bool.{and_parts, eqb-true}
use Rattle.std.proofs.lemmas.List.{drop-set-lt, drop_more, take_more_set}
use Rattle.std.specs.List.{AllZip}
use Rattle.office_base.specs.CategorySteps.{all_steps, category_steps}
use Rattle.office_base.specs.StepNumbers.{step_number}
use Rattle.office_base.specs.declared.category_steps.CategoryStep.{CategoryStep}
use Rattle.office_base.specs.declared.person.Category.{Category}
use Rattle.office_base.specs.declared.person.Person.{Person}
use Rattle.office_base.specs.declared.step.StepKind.{StepKind}
use Rattle.office_base.specs.declared.step.StepKind.TheVariants.{Dereserved}
use Rattle.office_base.proofs.StepNumbers.{numbered}
use Rattle.merit_choice.specs.State.{StepKept}
use Rattle.seat_matrix.specs.declared.seats.ProgrammeSeats.{ProgrammeSeats}
use Rattle.programme_lists.specs.Programme.{Admissions, is_of}
use Rattle.open_then_category.specs.State.{AreHanded, AreNew, AreOffered, IsOffer, by_number, nobody, people_or_none, step_kept}
use Rattle.open_then_category.proofs.Rows.{steps_of}

-- a thing is at the number of the step
abbrev pub At : {X : Type 0} → List X → StepKind → X → Type 0
At all kind x = slice_get all (step_number kind) ≡ Some x

after_front : {X : Type 0} (front : List X) (x : X) (back : List X) → slice_get (front ++ x ∷ back) (length front) ≡ Some x
after_front [] x back = refl
after_front (one ∷ front) x back = after_front front x back

-- one thing between others
pub regroup : {X : Type 0} (xs : List X) (x : X) (ys : List X) → (xs ++ x ∷ []) ++ ys ≡ xs ++ x ∷ ys
regroup [] x ys = refl
regroup {X} (one ∷ xs) x ys = ap (λ (zs : List X). one ∷ zs) (regroup xs x ys)

-- things in the order of the steps are at the numbers of these
kinds_at : {X : Type 0} (front : List X) (kinds : List StepKind) (xs back : List X) → numbered (length front) kinds ≡ true → length xs ≡ length kinds → AllZip (At (front ++ (xs ++ back))) kinds xs
kinds_at front [] [] back numbers long = tt
kinds_at front [] (x ∷ xs) back numbers long = absurd (omega (arith, long))
kinds_at front (kind ∷ kinds) [] back numbers long = absurd (omega (arith, long))
kinds_at {X} front (kind ∷ kinds) (x ∷ xs) back numbers long =
    let parts = and_parts (eqb (step_number kind) (length front)) (numbered (suc (length front)) kinds) numbers in
    let number = eqb-true (step_number kind) (length front) parts.0 in
    let more = kinds_at (front ++ x ∷ []) kinds xs back (subst (λ n. numbered n kinds ≡ true) (sym (longer front)) parts.1) (omega (arith, long)) in (
      subst (λ n. slice_get (front ++ x ∷ (xs ++ back)) n ≡ Some x) (sym number) (after_front front x (xs ++ back)),
      subst (λ (all : List X). AllZip (At all) kinds xs) (regroup front x (xs ++ back)) more,
    )
  where
    longer : (some : List X) → length (some ++ x ∷ []) ≡ suc (length some)
    longer [] = refl
    longer (one ∷ some) = ap suc (longer some)

-- what holds of the steps of rows holds row by row
rows_of : {X : Type 0} (R : StepKind → X → Type 0) (rows : List CategoryStep) (xs : List X) → AllZip R (steps_of rows) xs → AllZip (λ row x. R row.step x) rows xs
rows_of R [] [] all = tt
rows_of R [] (x ∷ xs) all = absurd all
rows_of R (row ∷ rows) [] all = absurd all
rows_of R (row ∷ rows) (x ∷ xs) all = (all.0, rows_of R rows xs all.1)

-- what comes between the first step and others is at the numbers of the rows
pub categories_before : {X : Type 0} (first : X) (xs back : List X) → length xs ≡ length category_steps → AllZip (λ (row : CategoryStep) x. At (first ∷ xs ++ back) row.step x) category_steps xs
categories_before first xs back long = rows_of (At (first ∷ xs ++ back)) category_steps xs (kinds_at (first ∷ []) (steps_of category_steps) xs back refl long)

pub categories_at : {X : Type 0} (first : X) (xs : List X) → length xs ≡ length category_steps → AllZip (λ (row : CategoryStep) x. At (first ∷ xs) row.step x) category_steps xs
categories_at {X} first xs long = subst (λ (all : List X). AllZip (λ (row : CategoryStep) x. At (first ∷ all) row.step x) category_steps xs) (append-nil xs) (categories_before first xs [] long)

-- and what comes next is at the number of the de-reserved step
pub last_at : {X : Type 0} (first : X) (xs : List X) (last : X) → length xs ≡ length category_steps → slice_get (first ∷ xs ++ last ∷ []) (step_number Dereserved) ≡ Some last
last_at first xs last long = subst (λ n. slice_get (first ∷ xs ++ last ∷ []) n ≡ Some last) (ap suc long) (after_front (first ∷ xs) last [])

-- lists of people in the order of the steps are those of their numbers
pub held_listed : (held : List (List Person)) → length held ≡ length all_steps → map (by_number held) all_steps ≡ held
held_listed held long = by all_steps held (subst (λ (all : List (List Person)). AllZip (At all) all_steps held) (append-nil held) (kinds_at [] all_steps held [] refl long))
  where
    by : (kinds : List StepKind) (some : List (List Person)) → AllZip (At held) kinds some → map (by_number held) kinds ≡ some
    by [] [] at = refl
    by [] (people ∷ some) at = absurd at
    by (kind ∷ kinds) [] at = absurd at
    by (kind ∷ kinds) (people ∷ some) at =
        ap (λ (one : List Person). one ∷ map (by_number held) kinds) (ap people_or_none at.0) ∙ ap (λ (more : List (List Person)). people ∷ more) (by kinds some at.1)

-- nobody is held at any number
pub nobody_is : nobody ≡ by_number (map (λ kind. []) all_steps)
nobody_is = λ i kind. by all_steps (step_number kind) i
  where
    by : (kinds : List StepKind) (n : ℕ) → [] ≡ people_or_none (slice_get (map (λ (k : StepKind). let none : List Person = [] in none) kinds) n)
    by [] n = refl
    by (kind ∷ kinds) zero = refl
    by (kind ∷ kinds) (suc n) = by kinds n

-- the number that is at a place of a list of sizes is the size of whom the step there holds
pub size_at : (steps : List StepKept) (back : List (List Person)) (n : ℕ) → n < length steps
    → get_or (map (λ (step : StepKept). length step.held) steps) n 0 ≡ length (people_or_none (slice_get (map (λ (step : StepKept). step.held) steps ++ back) n))
size_at [] back n few = absurd (omega (arith, few))
size_at (step ∷ steps) back zero few = refl
size_at (step ∷ steps) back (suc n) few = size_at steps back n (omega (arith, few))

-- ---- a person who comes down

-- there are as many steps as before
pub handed_length : (rows : List CategoryStep) (old new : List StepKept) (come leaver : Option Person) → AreHanded rows old new come leaver → length old ≡ length rows → length new ≡ length rows
handed_length [] old new come leaver h long = ap length h.0 ∙ long
handed_length (row ∷ rows) [] new come leaver h long = absurd h
handed_length (row ∷ rows) (step ∷ old) [] come leaver h long = absurd h
handed_length (row ∷ rows) (step ∷ old) (next ∷ new) come leaver h long = ap suc (handed_length rows old new h.0 leaver h.3 (omega (arith, long)))

-- what the steps do in their turn, of whom each admits
pub handed_offered : (seats : ProgrammeSeats) (before : Admissions) (all : List (List Person)) (rows : List CategoryStep) (new : List StepKept) (come leaver : Option Person)
    → AllZip (λ (row : CategoryStep) (held : List Person). At all row.step held) rows (map (λ (step : StepKept). step.held) new)
    → AreHanded rows (map (λ row. step_kept seats row.step (before row.step)) rows) new come leaver → AreOffered seats before (by_number all) rows come leaver
handed_offered seats before all [] new come leaver at h = h.1
handed_offered seats before all (row ∷ rows) [] come leaver at h = absurd at
handed_offered seats before all (row ∷ rows) (step ∷ new) come leaver at h = (
  h.0,
  subst (λ (held : List Person). IsOffer (is_of row.category) (step_kept seats row.step (before row.step)) come h.0 held) (sym (ap people_or_none at.0)) h.1,
  handed_offered seats before all rows new h.0 leaver at.1 h.3,
)

-- and each keeps its own
pub handed_kept : (seats : ProgrammeSeats) (before : Admissions) (all : List (List Person)) (rows : List CategoryStep) (new : List StepKept) (come leaver : Option Person)
    → AllZip (λ (row : CategoryStep) (held : List Person). At all row.step held) rows (map (λ (step : StepKept). step.held) new)
    → AreHanded rows (map (λ row. step_kept seats row.step (before row.step)) rows) new come leaver
    → new ≡ map (λ row. step_kept seats row.step (by_number all row.step)) rows
handed_kept seats before all [] [] come leaver at h = refl
handed_kept seats before all [] (step ∷ new) come leaver at h = absurd at
handed_kept seats before all (row ∷ rows) [] come leaver at h = absurd at
handed_kept seats before all (row ∷ rows) (step ∷ new) come leaver at h =
    let own : step ≡ step_kept seats row.step (by_number all row.step) = h.2 ∙ ap (λ (held : List Person). step_kept seats row.step held) (sym (ap people_or_none at.0)) in
    ap (λ (one : StepKept). one ∷ new) own
    ∙ ap (λ (more : List StepKept). step_kept seats row.step (by_number all row.step) ∷ more) (handed_kept seats before all rows new h.0 leaver at.1 h.3)

-- ---- one step after another

module _ (rows : List CategoryStep) (steps : List StepKept) (i : ℕ) (come : Option Person) (first : CategoryStep) (blank : StepKept) (in_rows : i < length rows) (in_steps : i < length steps) where
  -- the next step, and those after it
  pub new_now : AreNew (drop i rows) (drop i steps) come → AreNew (get_or rows i first ∷ drop (i + 1) rows) (get_or steps i blank ∷ drop (i + 1) steps) come
  new_now new = subst (λ (some : List StepKept). AreNew (get_or rows i first ∷ drop (i + 1) rows) some come) (drop_more steps i blank in_steps)
      (subst (λ (some : List CategoryStep). AreNew some (drop i steps) come) (drop_more rows i first in_rows) new)

  module _ (next : Option Person) (then : StepKept) (category : Category) (offered : IsOffer (is_of category) (get_or steps i blank) come next then.held) (is : category ≡ (get_or rows i first).category) where
    offer : IsOffer (is_of (get_or rows i first).category) (get_or steps i blank) come next then.held
    offer = subst (λ (c : Category). IsOffer (is_of c) (get_or steps i blank) come next then.held) is offered

    same_later : drop (i + 1) (set steps i then) ≡ drop (i + 1) steps
    same_later = drop-set-lt (i + 1) steps i then (omega arith)

    pub new_later : AreNew (drop i rows) (drop i steps) come → AreNew (drop (i + 1) rows) (drop (i + 1) (set steps i then)) next
    new_later new = subst (λ (some : List StepKept). AreNew (drop (i + 1) rows) some next) (sym same_later) ((new_now new).1 next then.held offer)

    pub down_later : then ≡ record (get_or steps i blank) { held = then.held } → (all : List CategoryStep) (old : List StepKept) (from : Option Person)
        → ((after : List StepKept) (leaver : Option Person) → AreHanded (drop i rows) (drop i steps) after come leaver → AreHanded all old (take i steps ++ after) from leaver)
        → (after : List StepKept) (leaver : Option Person) → AreHanded (drop (i + 1) rows) (drop (i + 1) (set steps i then)) after next leaver
        → AreHanded all old (take (i + 1) (set steps i then) ++ after) from leaver
    down_later stays all old from down after leaver h =
        let now : AreHanded (get_or rows i first ∷ drop (i + 1) rows) (get_or steps i blank ∷ drop (i + 1) steps) (then ∷ after) come leaver =
        (next, offer, stays, subst (λ (some : List StepKept). AreHanded (drop (i + 1) rows) some after next leaver) same_later h) in
        let back : AreHanded (drop i rows) (drop i steps) (then ∷ after) come leaver =
        subst (λ (some : List CategoryStep). AreHanded some (drop i steps) (then ∷ after) come leaver) (sym (drop_more rows i first in_rows))
        (subst (λ (some : List StepKept). AreHanded (get_or rows i first ∷ drop (i + 1) rows) some (then ∷ after) come leaver) (sym (drop_more steps i blank in_steps)) now) in
        subst (λ (some : List StepKept). AreHanded all old some from leaver)
        (sym (regroup (take i steps) then after) ∙ ap (λ (front : List StepKept). front ++ after) (sym (take_more_set steps i then in_steps)))
        (down (then ∷ after) leaver back)
