-- The lines of a programme tell the cutoffs of its steps.
use Rattle.std.proofs.Common.{◌≡◌, ◌∙◌, inl, inr, ℕ, true, false, List, [], ◌∷◌, ◌++◌, Option, Some, None, map, arith, refl, sym, ap, subst}
use Rattle.std.specs.Prelude.{nat_lt}
use Rattle.std.specs.List.{AllZip}
use Rattle.std.proofs.lemmas.Bool.{both_ways, cases_Bool, cases_lt, cond-false, cond-true, lt-ltb, ltb-true}
use Rattle.office_base.specs.CategorySteps.{all_steps}
use Rattle.office_base.specs.Lists.{AnyByRecursion, IsAmong}
use Rattle.office_base.specs.Merit.{in_merit}
use Rattle.office_base.specs.Person.{IsTraitSet, number_in}
use Rattle.office_base.specs.StepNumbers.{step_number}
use Rattle.office_base.specs.declared.person.Person.{Person}
use Rattle.office_base.specs.declared.person.TraitSet.{TraitSet}
use Rattle.office_base.specs.declared.step.StepKind.{StepKind}
use Rattle.office_base.proofs.Lists.{at_among}
use Rattle.office_base.proofs.StepNumbers.{kind_at}
use Rattle.placements.specs.Demand.{is_within}
use Rattle.placements.proofs.Ranks.{any_append}
use Rattle.merit_choice.specs.State.{IsStepKept, StepKept}
use Rattle.step_cutoffs.specs.Cutoff.{IsCutoff, IsWithin}
use Rattle.step_cutoffs.specs.Laws.{OneCutoff}
use Rattle.step_cutoffs.specs.declared.cutoff.Cutoff.{Cutoff}
use Rattle.step_cutoffs.specs.declared.cutoff.Cutoff.TheVariants.{Nobody, UpTo, Anybody}
use Rattle.cutoff_lines.specs.Lines.{AreLinesOf, cutoff_by, is_wider, read_lines}
use Rattle.cutoff_lines.specs.declared.lines.CutoffLine.{CutoffLine}
use Rattle.seat_matrix.specs.Seats.{seats_of}
use Rattle.seat_matrix.specs.declared.seats.ProgrammeSeats.{ProgrammeSeats}
use Rattle.programme_lists.specs.Listing.{ShowsStep, ShowsSteps, seats_filled}
use Rattle.programme_lists.specs.Programme.{Admissions}
use Rattle.programme_lists.specs.declared.programme.Programme.{Programme}
use Rattle.programme_lists.specs.declared.programme.StepList.{StepList}
use Rattle.programme_laws.specs.Laws.{MayStandFor}
use Rattle.list_cutoffs.specs.Cutoffs.{AreCutoffsIn, AreKeptListed, kept_listed, under}
use Rattle.list_cutoffs.specs.declared.cutoffs.StepCutoff.{StepCutoff}
use Rattle.programme_cutoffs.specs.Cutoffs.{MeetsCutoff, kept_by}
use Rattle.programme_cutoffs.specs.Laws.{LinesTellCutoffs, ListsAreKept, StepsAreKept}
use Rattle.programme_cutoffs.specs.Reading.{IsWithinLine, IsWithinStep}
use Rattle.programme_lists.proofs.Parts.{any_step}

-- ---- the widest of the lines that are read

within_wider : (one other : Cutoff) (place : Option ℕ) → is_wider other one ≡ true → IsWithin one place → IsWithin other place
within_wider Nobody other place wide within = absurd within
within_wider (UpTo last) Nobody place wide within = absurd (both_ways false refl wide)
within_wider (UpTo last) (UpTo most) None wide within = absurd within
within_wider (UpTo last) (UpTo most) (Some number) wide within = (let less = ltb-true last most wide in omega (arith, less, within))
within_wider (UpTo last) Anybody None wide within = absurd within
within_wider (UpTo last) Anybody (Some number) wide within = refl
within_wider Anybody Nobody place wide within = absurd (both_ways false refl wide)
within_wider Anybody (UpTo most) place wide within = absurd (both_ways false refl wide)
within_wider Anybody Anybody place wide within = within

within_other : (one other : Cutoff) (place : Option ℕ) → is_wider other one ≡ false → IsWithin other place → IsWithin one place
within_other one Nobody place narrow within = absurd within
within_other Nobody (UpTo last) place narrow within = absurd (both_ways true narrow refl)
within_other (UpTo most) (UpTo last) None narrow within = absurd within
within_other (UpTo most) (UpTo last) (Some number) narrow within = elim (cases_lt most last) [
  | inl less ↦ absurd (both_ways (nat_lt most last) narrow (lt-ltb most last less))
  | inr no_more ↦ omega (arith, no_more, within)
]
within_other Anybody (UpTo last) None narrow within = absurd within
within_other Anybody (UpTo last) (Some number) narrow within = refl
within_other Nobody Anybody place narrow within = absurd (both_ways true narrow refl)
within_other (UpTo most) Anybody place narrow within = absurd (both_ways true narrow refl)
within_other Anybody Anybody place narrow within = within

-- the line is one of those that are read, and the place is within it
abbrev pub Reads : TraitSet → Option ℕ → CutoffLine → Type 0
Reads traits place line = (is_within line.traits traits ≡ true) × IsWithin line.cutoff place

-- a place within what is read is within one of the lines
pub read_some : (traits : TraitSet) (place : Option ℕ) (lines : List CutoffLine) → IsWithin (read_lines traits lines) place → AnyByRecursion (Reads traits place) lines
read_some traits place [] within = absurd within
read_some traits place (line ∷ lines) within = elim (cases_Bool (is_wider (read_lines traits lines) (cutoff_by traits line))) [
  | inl wide ↦ inr (read_some traits place lines (subst (λ (cutoff : Cutoff). IsWithin cutoff place) (cond-true _ (read_lines traits lines) (cutoff_by traits line) wide) within))
  | inr narrow ↦
      let first : IsWithin (cutoff_by traits line) place = subst (λ (cutoff : Cutoff). IsWithin cutoff place) (cond-false _ (read_lines traits lines) (cutoff_by traits line) narrow) within in
      elim (cases_Bool (is_within line.traits traits)) [
        | inl inside ↦ inl (inside, subst (λ (cutoff : Cutoff). IsWithin cutoff place) (cond-true _ line.cutoff Nobody inside) first)
        | inr out ↦ absurd (subst (λ (cutoff : Cutoff). IsWithin cutoff place) (cond-false _ line.cutoff Nobody out) first)
      ]
]

-- and the other way round
pub some_read : (traits : TraitSet) (place : Option ℕ) (lines : List CutoffLine) → AnyByRecursion (Reads traits place) lines → IsWithin (read_lines traits lines) place
some_read traits place [] any = absurd any
some_read traits place (line ∷ lines) any = elim (cases_Bool (is_wider (read_lines traits lines) (cutoff_by traits line))) [
  | inl wide ↦ subst (λ (cutoff : Cutoff). IsWithin cutoff place) (sym (cond-true _ (read_lines traits lines) (cutoff_by traits line) wide)) (elim any [
    | inl here ↦ within_wider (cutoff_by traits line) (read_lines traits lines) place wide (first here)
    | inr later ↦ some_read traits place lines later
  ])
  | inr narrow ↦ subst (λ (cutoff : Cutoff). IsWithin cutoff place) (sym (cond-false _ (read_lines traits lines) (cutoff_by traits line) narrow)) (elim any [
    | inl here ↦ first here
    | inr later ↦ within_other (cutoff_by traits line) (read_lines traits lines) place narrow (some_read traits place lines later)
  ])
]
  where
    first : Reads traits place line → IsWithin (cutoff_by traits line) place
    first here = subst (λ (cutoff : Cutoff). IsWithin cutoff place) (sym (cond-true _ line.cutoff Nobody here.0)) here.1

-- ---- lines of lists, one after another

any_left : {X : Type 0} (P : X → Type 0) (xs ys : List X) → AnyByRecursion P xs → AnyByRecursion P (xs ++ ys)
any_left P [] ys any = absurd any
any_left P (x ∷ xs) ys any = elim any [ inl here ↦ inl here | inr later ↦ inr (any_left P xs ys later) ]

any_right : {X : Type 0} (P : X → Type 0) (xs ys : List X) → AnyByRecursion P ys → AnyByRecursion P (xs ++ ys)
any_right P [] ys any = any
any_right P (x ∷ xs) ys any = inr (any_right P xs ys any)

any_map : {X Y : Type 0} (f : X → Y) (P : X → Type 0) (Q : Y → Type 0) → ((x : X) → P x → Q (f x)) → (xs : List X) → AnyByRecursion P xs → AnyByRecursion Q (map f xs)
any_map f P Q on [] any = absurd any
any_map f P Q on (x ∷ xs) any = elim any [ inl here ↦ inl (on x here) | inr later ↦ inr (any_map f P Q on xs later) ]

map_any : {X Y : Type 0} (f : X → Y) (Q : Y → Type 0) (xs : List X) → AnyByRecursion Q (map f xs) → AnyByRecursion (λ x. Q (f x)) xs
map_any f Q [] any = absurd any
map_any f Q (x ∷ xs) any = elim any [ inl here ↦ inl here | inr later ↦ inr (map_any f Q xs later) ]

-- each list has its lines among all
each_list : (P : StepCutoff → Type 0) (seats : ProgrammeSeats) (lists : List StepList) (list : StepList) (cutoffs : List StepCutoff) → AreCutoffsIn seats lists cutoffs → IsAmong list lists
    → (own : List CutoffLine) × AreLinesOf (kept_listed seats list) own × (AnyByRecursion P (map (under list.kind) own) → AnyByRecursion P cutoffs)
each_list P seats [] list cutoffs all here = absurd here
each_list P seats (first ∷ lists) list cutoffs all here = elim here [
  | inl same ↦ (
    all.2.0,
    subst (λ (l : StepList). AreLinesOf (kept_listed seats l) all.2.0) (sym same) all.2.1,
    (λ any. subst (AnyByRecursion P) (sym all.4)
        (any_left P all.0 all.1 (subst (AnyByRecursion P) (sym all.2.3) (subst (λ (l : StepList). AnyByRecursion P (map (under l.kind) all.2.0)) same any)))),
  )
  | inr later ↦
      let found = each_list P seats lists list all.1 all.3 later in
      (found.0, found.1, (λ any. subst (AnyByRecursion P) (sym all.4) (any_right P all.0 all.1 (found.2 any))))
]

-- each line is one of a list
some_list : (P : StepCutoff → Type 0) (seats : ProgrammeSeats) (lists : List StepList) (cutoffs : List StepCutoff) → AreCutoffsIn seats lists cutoffs → AnyByRecursion P cutoffs
    → (list : StepList) × IsAmong list lists × (own : List CutoffLine) × AreLinesOf (kept_listed seats list) own × AnyByRecursion P (map (under list.kind) own)
some_list P seats [] cutoffs all any = absurd (subst (AnyByRecursion P) all any)
some_list P seats (list ∷ lists) cutoffs all any = elim (any_append P all.0 all.1 (subst (AnyByRecursion P) all.4 any)) [
  | inl front ↦ (list, inl refl, all.2.0, all.2.1, subst (AnyByRecursion P) all.2.3 front)
  | inr back ↦ let found = some_list P seats lists all.1 all.3 back in (found.0, inr found.1, found.2, found.3, found.4)
]

-- ---- lists and steps

-- one of the lists shows one of the steps
one_shown : {A B : Type 0} (R : A → B → Type 0) (xs : List A) (ys : List B) (y : B) → AllZip R xs ys → IsAmong y ys → (x : A) × R x y
one_shown R [] [] y all here = absurd here
one_shown R [] (first ∷ ys) y all here = absurd all
one_shown R (x ∷ xs) [] y all here = absurd here
one_shown R (x ∷ xs) (first ∷ ys) y all here = elim here [ inl same ↦ (x, subst (R x) (sym same) all.0) | inr later ↦ one_shown R xs ys y all.1 later ]

-- each step is shown by one of the lists
step_shown : {A B : Type 0} (R : A → B → Type 0) (xs : List A) (ys : List B) (x : A) → AllZip R xs ys → IsAmong x xs → (y : B) × R x y × IsAmong y ys
step_shown R [] ys x all here = absurd here
step_shown R (first ∷ xs) [] x all here = absurd all
step_shown {A} R (first ∷ xs) (y ∷ ys) x all here = elim here [
  | inl same ↦ (y, subst (λ (a : A). R a y) (sym same) all.0, inl refl)
  | inr later ↦ let found = step_shown R xs ys x all.1 later in (found.0, found.1, inr found.2)
]

module _ (version : ℕ) (seats : ProgrammeSeats) (applicants : List Person) (admissions : Admissions) where
  same_kept : (kind : StepKind) (list : StepList) → ShowsStep version seats applicants admissions kind list → kept_listed seats list ≡ kept_by version seats admissions kind
  same_kept kind list shows =
      let first = ap (λ (k : StepKind). let kept : StepKept = record { list = seats.list; seats = list.seats; protections = (seats_of seats k).protections; held = list.admitted } in kept) shows.of_kind in
      let second = ap (λ (n : ℕ). let kept : StepKept = record { list = seats.list; seats = n; protections = (seats_of seats kind).protections; held = list.admitted } in kept) shows.of_seats in
      let third = ap (λ (held : List Person). let kept : StepKept = record {
        list = seats.list;
        seats = seats_filled version seats admissions kind;
        protections = (seats_of seats kind).protections;
        held = held;
      } in kept) shows.persons in
      first ∙ (second ∙ third)

  all_kept : ((kind : StepKind) → IsStepKept (kept_by version seats admissions kind)) → (kinds : List StepKind) (lists : List StepList) → AllZip (ShowsStep version seats applicants admissions) kinds lists
      → AreKeptListed seats lists
  all_kept kept [] [] all = tt
  all_kept kept [] (list ∷ lists) all = absurd all
  all_kept kept (kind ∷ kinds) [] all = absurd all
  all_kept kept (kind ∷ kinds) (list ∷ lists) all = (subst IsStepKept (sym (same_kept kind list all.0)) (kept kind), all_kept kept kinds lists all.1)

  module _ (one : OneCutoff) (kept : (kind : StepKind) → IsStepKept (kept_by version seats admissions kind)) (programme : Programme) (shows : ShowsSteps version seats applicants admissions programme)
      (cutoffs : List StepCutoff) (lines : AreCutoffsIn seats programme.steps cutoffs) (person : Person) (small : IsTraitSet person.traits) (kind : StepKind) where
    abbrev OfStep : StepCutoff → Type 0
    OfStep line = (line.step ≡ kind) × IsWithinLine seats.list person line

    to_lines : MeetsCutoff version seats admissions person kind → IsWithinStep seats.list person kind cutoffs
    to_lines meets =
        let found = step_shown (ShowsStep version seats applicants admissions) all_steps programme.steps kind shows (any_step kind) in
        let list = found.0 in
        let own = each_list OfStep seats programme.steps list cutoffs lines found.2 in
        let read = subst (λ (step : StepKept). IsCutoff step person.traits (read_lines person.traits own.0)) (same_kept kind list found.1) (own.1 person.traits small) in
        let same = one (kept_by version seats admissions kind) person.traits meets.1 (read_lines person.traits own.0) (kept kind) small meets.2 read in
        let within = subst (λ (cutoff : Cutoff). IsWithin cutoff (number_in seats.list person)) same meets.3 in
        own.2 (any_map (under list.kind) (Reads person.traits (number_in seats.list person)) OfStep
        (λ line reads. (found.1.of_kind, (subst (λ (k : StepKind). MayStandFor seats.list k person) (sym found.1.of_kind) meets.0, reads.0, reads.1))) own.0
        (read_some person.traits (number_in seats.list person) own.0 within))

    from_lines : IsWithinStep seats.list person kind cutoffs → MeetsCutoff version seats admissions person kind
    from_lines within =
        let found = some_list OfStep seats programme.steps cutoffs lines within in
        let list = found.0 in
        let shown = one_shown (ShowsStep version seats applicants admissions) all_steps programme.steps list shows found.1 in
        let any = map_any (under list.kind) OfStep found.2 found.4 in
        let is = its found.2 list.kind any in
        let same : shown.0 ≡ kind = sym shown.1.of_kind ∙ is.0 in
        let read = subst (λ (step : StepKept). IsCutoff step person.traits (read_lines person.traits found.2)) (same_kept shown.0 list shown.1) (found.3 person.traits small) in (
          subst (λ (k : StepKind). MayStandFor seats.list k person) is.0 is.1,
          read_lines person.traits found.2,
          subst (λ (k : StepKind). IsCutoff (kept_by version seats admissions k) person.traits (read_lines person.traits found.2)) same read,
          some_read person.traits (number_in seats.list person) found.2 is.2,
        )
      where
        its : (own : List CutoffLine) (k : StepKind) → AnyByRecursion (λ line. OfStep (under k line)) own
            → (k ≡ kind) × MayStandFor seats.list k person × AnyByRecursion (Reads person.traits (number_in seats.list person)) own
        its [] k any = absurd any
        its (line ∷ own) k any = elim any [
          | inl here ↦ (here.0, here.1.0, inl (here.1.1, here.1.2))
          | inr later ↦ let rest = its own k later in (rest.0, rest.1, inr rest.2)
        ]

-- ---- the laws

pub lists_are_kept : StepsAreKept → ListsAreKept
lists_are_kept kept version seats people programme ok may shows =
    all_kept version seats (in_merit seats.list people) shows.0 (λ kind. kept version seats people shows.0 kind ok may shows.1) all_steps programme.steps shows.2

pub lines_tell_cutoffs : OneCutoff → StepsAreKept → LinesTellCutoffs
lines_tell_cutoffs one kept version seats people admissions programme cutoffs person kind ok may choice shows lines small =
    let steps = λ (k : StepKind). kept version seats people admissions k ok may choice in (
      to_lines version seats (in_merit seats.list people) admissions one steps programme shows cutoffs lines person small kind,
      from_lines version seats (in_merit seats.list people) admissions one steps programme shows cutoffs lines person small kind,
    )
