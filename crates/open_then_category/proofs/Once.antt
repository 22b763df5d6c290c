-- Each person is admitted once, under one step.
use Rattle.std.proofs.Common.{◌≡◌, ◌≢◌, ◌<◌, ◌≤◌, ◌&&◌, ℕ, suc, Bool, true, false, leb, List, [], ◌∷◌, ◌++◌, take, refl, sym, ap, ◌∙◌, subst, inl, inr, arith}
use Rattle.std.proofs.lemmas.Bool.{and_parts, leb-true}
use Rattle.std.specs.List.{AllByRecursion, AllZip, filter}
use Rattle.office_base.specs.CategorySteps.{all_steps, category_steps, own_steps}
use Rattle.office_base.specs.Lists.{IsAmong, IsSublist, Pairwise}
use Rattle.office_base.specs.Person.{IsTraitSet, is_common}
use Rattle.office_base.specs.StepChoice.{AreRanked, IsStepChoice}
use Rattle.office_base.specs.StepNumbers.{step_number}
use Rattle.office_base.specs.declared.category_steps.CategoryStep.{CategoryStep}
use Rattle.office_base.specs.declared.person.Person.{Person}
use Rattle.office_base.specs.declared.step.StepKind.{StepKind}
use Rattle.office_base.specs.declared.step.StepKind.TheVariants.{Open, Dereserved}
use Rattle.placements.proofs.Sublists.{IsSublist-same, IsSublist-take}
use Rattle.placements.specs.Ranks.{AreAmong, AreDistinct}
use Rattle.placements.proofs.Ranks.{among_again, among_back, among_front, among_joined, among_sublist, any_append, one_person, pairwise_sublist, all_among}
use Rattle.placements.proofs.Filters.{filter-sublist}
use Rattle.placements.proofs.Slots.{small_slots}
use Rattle.seat_matrix.specs.Seats.{is_dereserved, seats_of}
use Rattle.seat_matrix.specs.declared.seats.ProgrammeSeats.{ProgrammeSeats}
use Rattle.programme_lists.specs.Chosen.{all_by, everybody}
use Rattle.programme_lists.specs.Listing.{ShowsChoice, ShowsStep}
use Rattle.programme_lists.specs.Programme.{Admissions, IsProgrammeChoice, admitted_by, is_of, people_of, unfilled}
use Rattle.programme_lists.specs.declared.programme.Programme.{Programme}
use Rattle.programme_lists.specs.declared.programme.StepList.{StepList}
use Rattle.open_then_category.proofs.ProgrammeLaws.{chosen_passes, is_left, last_among, last_sublist}
use Rattle.programme_lists.proofs.Parts.{own_among}
use Rattle.open_then_category.proofs.Rows.{each_kind, open_choice, rest_of, row_choice}
use Rattle.programme_lists.proofs.Table.{IsRow, of_row, row_facts, rows_apart}
use Rattle.programme_lists.proofs.Walk.{same_category}
use Rattle.programme_lists.proofs.Taken.{among_without}
use Rattle.programme_lists.proofs.Parts.{any_step}

-- two rows of one category are of one step
one_row : (rows : List CategoryStep) (one other : CategoryStep) → Pairwise (λ a b. (a.category ≢ b.category) × (a.step ≢ b.step)) rows → IsAmong one rows → IsAmong other rows
    → one.category ≡ other.category → one.step ≡ other.step
one_row [] one other apart here there same = absurd here
one_row (row ∷ rows) one other apart here there same = elim here [
  | inl first ↦ elim there [
    | inl second ↦ ap (λ (r : CategoryStep). r.step) (first ∙ sym second)
    | inr later ↦ absurd ((of_row _ rows other apart.0 later).0 (ap (λ (r : CategoryStep). r.category) (sym first) ∙ same))
  ]
  | inr early ↦ elim there [
    | inl second ↦ absurd ((of_row _ rows one apart.0 early).0 (ap (λ (r : CategoryStep). r.category) (sym second) ∙ sym same))
    | inr later ↦ one_row rows one other apart.1 early later same
  ]
]

-- Nobody is admitted under two steps.
pub ranked_one_step : (version : ℕ) (seats : ProgrammeSeats) (people : List Person) (admissions : Admissions) (person : Person) (kind other : StepKind) → IsProgrammeChoice version seats people admissions
    → IsAmong person (admitted_by admissions kind) → IsAmong person (admitted_by admissions other) → kind ≡ other
ranked_one_step version seats people admissions person kind other choice here there =
    each_kind (λ k. IsAmong person (admissions k) → k ≡ other) open_is (λ row found. row_is row found) last_is kind here
  where
    -- who is admitted by a row's step is of the category, and was left by the open step
    passes : (row : CategoryStep) → IsRow row → IsAmong person (admissions row.step) → IsAmong person (rest_of people admissions) × (is_of row.category person ≡ true)
    passes row found held = chosen_passes seats.list (seats_of seats row.step) (is_of row.category) (rest_of people admissions) (admissions row.step) person (row_choice version seats people admissions choice row found) held

    open_apart : (row : CategoryStep) → IsRow row → IsAmong person (admissions Open) → IsAmong person (admissions row.step) → ⊥
    open_apart row found first held = (among_without person people (admissions Open) (passes row found held).0).1 first

    -- who is admitted by the de-reserved step was left by the others
    last_apart : IsAmong person (admissions Dereserved) → (k : StepKind) → is_dereserved k ≡ false → IsAmong person (admissions k) → ⊥
    last_apart held = (is_left person people admissions (last_among version seats people admissions person choice held).0).free

    open_is : IsAmong person (admissions Open) → Open ≡ other
    open_is first =
        each_kind (λ k. IsAmong person (admissions k) → Open ≡ k) (λ _. refl) (λ row found held. absurd (open_apart row found first held)) (λ last. absurd (last_apart last Open refl first)) other there

    last_is : IsAmong person (admissions Dereserved) → Dereserved ≡ other
    last_is last =
        each_kind (λ k. IsAmong person (admissions k) → Dereserved ≡ k) (λ first. absurd (last_apart last Open refl first))
        (λ row found held. absurd (last_apart last row.step (row_facts row found).own held)) (λ _. refl) other there

    row_is : (row : CategoryStep) → IsRow row → IsAmong person (admissions row.step) → row.step ≡ other
    row_is row found held =
        each_kind (λ k. IsAmong person (admissions k) → row.step ≡ k) (λ first. absurd (open_apart row found first held))
        (λ next found_next held_next. one_row category_steps row next rows_apart found found_next
        (same_category row.category person.category (passes row found held).1 ∙ sym (same_category next.category person.category (passes next found_next held_next).1)))
        (λ last. absurd (last_apart last row.step (row_facts row found).own held)) other there

-- ---- everybody

-- a person who is apart from all is apart by number
pub all_apart : (all : List Person) (person : Person) (people : List Person) → AreDistinct all → IsAmong person all → AreAmong people all → (IsAmong person people → ⊥)
    → AllByRecursion (λ other. person.id ≢ other.id) people
all_apart all person [] distinct here within gone = tt
all_apart all person (other ∷ people) distinct here within gone =
    (λ same. gone (inl (one_person all distinct person other here within.0 same)), all_apart all person people distinct here within.1 (λ there. gone (inr there)))

all_joined : (P : Person → Type 0) (front back : List Person) → AllByRecursion P front → AllByRecursion P back → AllByRecursion P (front ++ back)
all_joined P [] back all more = more
all_joined P (person ∷ front) back all more = (all.0, all_joined P front back all.1 more)

-- distinct persons and others among the same people are distinct together where nobody is in both
distinct_joined : (all front back : List Person) → AreDistinct all → AreAmong front all → AreAmong back all → AreDistinct front → AreDistinct back
    → ((person : Person) → IsAmong person front → IsAmong person back → ⊥) → AreDistinct (front ++ back)
distinct_joined all [] back distinct within more_within one two apart = two
distinct_joined all (person ∷ front) back distinct within more_within one two apart = (
  all_joined (λ other. person.id ≢ other.id) front back one.0 (all_apart all person back distinct within.0 more_within (apart person (inl refl))),
  distinct_joined all front back distinct within.1 more_within one.1 two (λ other here. apart other (inr here)),
)

-- some of distinct people are distinct
part_distinct : (some all : List Person) → AreDistinct all → IsSublist some all → AreDistinct some
part_distinct some all distinct sub = pairwise_sublist _ some all sub distinct

-- what some step admits is distinct, and among the people
pub record Sound (people admitted : List Person) : Type 0 where
  pub distinct : AreDistinct admitted
  pub within : AreAmong admitted people

step_sound : (seats : ProgrammeSeats) (kind : StepKind) (test : Person → Bool) (people rest chosen : List Person) → AreDistinct people → IsSublist rest people
    → IsStepChoice (record { list = seats.list; seats = (seats_of seats kind).seats; protections = (seats_of seats kind).protections; people = filter test rest }) chosen → Sound people chosen
step_sound seats kind test people rest chosen distinct sub choice =
    let whole = part_distinct rest people distinct sub in
    record {
      distinct = part_distinct chosen (filter test rest) (part_distinct (filter test rest) rest whole (filter-sublist test rest)) choice.may.people;
      within = among_again chosen (filter test rest) people (among_sublist chosen (filter test rest) choice.may.people)
          (among_again (filter test rest) rest people (among_sublist (filter test rest) rest (filter-sublist test rest)) (among_sublist rest people sub));
    }

-- each step's persons are
pub each_sound : (version : ℕ) (seats : ProgrammeSeats) (people : List Person) (admissions : Admissions) (kind : StepKind) → AreDistinct people → IsProgrammeChoice version seats people admissions
    → Sound people (admitted_by admissions kind)
each_sound version seats people admissions kind distinct choice =
    let whole = people_of seats.list people admissions Dereserved in
    let n = unfilled version seats admissions in
    let sub = last_sublist seats.list people admissions in
    each_kind (λ k. Sound people (admissions k))
    (step_sound seats Open (is_common seats.list) people people (admissions Open) distinct (IsSublist-same people) (open_choice version seats people admissions choice))
    (λ row found. step_sound seats row.step (is_of row.category) people (rest_of people admissions) (admissions row.step) distinct (filter-sublist _ people) (row_choice version seats people admissions choice row found))
    (subst (Sound people) (sym choice.dereserved) (record {
      distinct = part_distinct (take n whole) whole (part_distinct whole people distinct sub) (IsSublist-take n whole);
      within = among_again (take n whole) whole people (among_sublist (take n whole) whole (IsSublist-take n whole)) (among_sublist whole people sub);
    })) kind

-- one step's persons before those of others, whom it does not admit
joined_sound : (all front back : List Person) → AreDistinct all → Sound all front → Sound all back → ((person : Person) → IsAmong person front → IsAmong person back → ⊥) → Sound all (front ++ back)
joined_sound all front back distinct one two apart = record {
  distinct = distinct_joined all front back distinct one.within two.within one.distinct two.distinct apart;
  within = among_joined front back all one.within two.within;
}

-- the numbers of the steps rise, from this one at least
abbrev rise : ℕ → List StepKind → Bool
rise n [] = true
rise n (kind ∷ kinds) = leb n (step_number kind) && rise (suc (step_number kind)) kinds

at_least : (n : ℕ) (kinds : List StepKind) (kind : StepKind) → rise n kinds ≡ true → IsAmong kind kinds → n ≤ step_number kind
at_least n [] kind rises here = absurd here
at_least n (first ∷ kinds) kind rises here =
    let parts = and_parts (leb n (step_number first)) (rise (suc (step_number first)) kinds) rises in
    let low : n ≤ step_number first = leb-true n (step_number first) parts.0 in
    elim here [
      | inl same ↦ subst (λ k. n ≤ step_number k) (sym same) low
      | inr later ↦ (let high = at_least (suc (step_number first)) kinds kind parts.1 later in omega (arith, low, high))
    ]

-- who is admitted by one of the steps is among all of them
pub in_all_by : (kinds : List StepKind) (admissions : Admissions) (kind : StepKind) → IsAmong kind kinds → AreAmong (admissions kind) (all_by kinds admissions)
in_all_by [] admissions kind here = absurd here
in_all_by (first ∷ kinds) admissions kind here = elim here [
  | inl same ↦ subst (λ k. AreAmong (admissions k) (all_by (first ∷ kinds) admissions)) (sym same) (among_front (admissions first) (all_by kinds admissions))
  | inr later ↦ among_again (admissions kind) (all_by kinds admissions) (all_by (first ∷ kinds) admissions) (in_all_by kinds admissions kind later) (among_back (admissions first) (all_by kinds admissions))
]

pub from_all_by : (kinds : List StepKind) (admissions : Admissions) (person : Person) → IsAmong person (all_by kinds admissions) → (kind : StepKind) × IsAmong kind kinds × IsAmong person (admissions kind)
from_all_by [] admissions person here = absurd here
from_all_by (first ∷ kinds) admissions person here = elim (any_append (λ one. person ≡ one) (admissions first) (all_by kinds admissions) here) [
  | inl now ↦ (first, inl refl, now)
  | inr later ↦ let found = from_all_by kinds admissions person later in (found.0, inr found.1, found.2)
]

-- Everybody is admitted once, and is one of the people.
pub ranked_once : (version : ℕ) (seats : ProgrammeSeats) (people : List Person) (admissions : Admissions) → AreDistinct people → IsProgrammeChoice version seats people admissions
    → Sound people (everybody admissions)
ranked_once version seats people admissions distinct choice = by 0 all_steps refl
  where
    by : (n : ℕ) (kinds : List StepKind) → rise n kinds ≡ true → Sound people (all_by kinds admissions)
    by n [] rises = record { distinct = tt; within = tt }
    by n (kind ∷ kinds) rises =
        let parts = and_parts (leb n (step_number kind)) (rise (suc (step_number kind)) kinds) rises in
        joined_sound people (admissions kind) (all_by kinds admissions) distinct (each_sound version seats people admissions kind distinct choice) (by (suc (step_number kind)) kinds parts.1)
        (λ person here there.
        let found = from_all_by kinds admissions person there in
        let same = ranked_one_step version seats people admissions person kind found.0 choice here found.2 in
        let high = at_least (suc (step_number kind)) kinds found.0 parts.1 found.1 in
        let number = ap step_number same in
        absurd (omega (arith, high, number)))

-- who is admitted is in everybody
pub in_everybody : (admissions : Admissions) (kind : StepKind) → AreAmong (admitted_by admissions kind) (everybody admissions)
in_everybody admissions kind = in_all_by all_steps admissions kind (any_step kind)

-- and everybody is admitted by some step
pub from_everybody : (admissions : Admissions) (person : Person) → IsAmong person (everybody admissions) → (kind : StepKind) × IsAmong person (admitted_by admissions kind)
from_everybody admissions person here = let found = from_all_by all_steps admissions person here in (found.0, found.2)

-- ---- slots

-- what follows of the second from each pair holds of all the second
all_second : {X Y : Type 0} (R : X → Y → Type 0) (P : Y → Type 0) → ((x : X) (y : Y) → R x y → P y) → (xs : List X) (ys : List Y) → AllZip R xs ys → AllByRecursion P ys
all_second R P go [] [] all = tt
all_second R P go [] (y ∷ ys) all = absurd all
all_second R P go (x ∷ xs) [] all = tt
all_second R P go (x ∷ xs) (y ∷ ys) all = (go x y all.0, all_second R P go xs ys all.1)

-- The slots of a programme's lists are traits.
pub ranked_slots : (version : ℕ) (seats : ProgrammeSeats) (people : List Person) (programme : Programme) → AreRanked seats.list people → ShowsChoice version seats people programme
    → AllByRecursion (λ (list : StepList). AllByRecursion (λ pair. pair.slot < 6) list.cert.pairs) programme.steps
ranked_slots version seats people programme ranked shown =
    all_second (ShowsStep version seats people shown.0) (λ (list : StepList). AllByRecursion (λ pair. pair.slot < 6) list.cert.pairs)
    (λ kind list shows. small_slots (admitted_by shown.0 kind) list.cert.pairs
    (all_among (λ person. IsTraitSet person.traits) (admitted_by shown.0 kind) people (each_sound version seats people shown.0 kind ranked.distinct shown.1).within ranked.traits) shows.certificate.placement.held)
    all_steps programme.steps shown.2
