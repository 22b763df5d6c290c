-- Each step that a reason reports counts against the person.
use Rattle.std.proofs.Common.{◌≡◌, not, take, Bool, true, false, Option, Some, None, List, [], ◌∷◌, length, refl, sym, ap, ◌∙◌, subst, inl, inr, if◌then◌else◌}
use Rattle.std.proofs.lemmas.Bool.{cases_Bool, cond-false, cond-true}
use Rattle.std.specs.Prelude.{option_to_list, slice_get}
use Rattle.std.specs.Option.{option_and_then, option_map}
use Rattle.std.specs.List.{AllByRecursion, filter}
use Rattle.office_base.specs.CategorySteps.{category_steps, own_steps, row_of}
use Rattle.office_base.specs.Lists.{IsAmong}
use Rattle.office_base.specs.Merit.{in_merit, with_person}
use Rattle.office_base.specs.Person.{IsBetter, is_common}
use Rattle.office_base.specs.Placement.{IsHonoured}
use Rattle.office_base.specs.StepChoice.{AreRanked, IsStep, IsStepChoice}
use Rattle.office_base.specs.declared.category_steps.CategoryStep.{CategoryStep}
use Rattle.office_base.specs.declared.person.ListId.{ListId}
use Rattle.office_base.specs.declared.person.Person.{Person}
use Rattle.office_base.specs.declared.step.StepKind.{StepKind}
use Rattle.office_base.specs.declared.step.StepKind.TheVariants.{Open, Dereserved}
use Rattle.placements.specs.Ranks.{without as without_one}
use Rattle.placements.proofs.Ranks.{ranked_sublist}
use Rattle.placements.proofs.Sublists.{IsSublist-nil}
use Rattle.placements.proofs.Zips.{zip_at, zipped}
use Rattle.placements.proofs.Filters.{filter-sublist, among_filter_from}
use Rattle.merit_choice.specs.InMerit.{InMeritRanks, RankedPart, WithPersonRanks}
use Rattle.merit_choice.specs.Laws.{ChoiceSize, OneChoice, SeatsForAll}
use Rattle.programme_lists.specs.Listing.{ShowsStep, seats_filled}
use Rattle.programme_lists.specs.Programme.{Admissions, IsProgrammeChoice, admitted_by, is_of, is_same, is_taken, left_by, left_over, members_by, people_of, step_of, unfilled, without}
use Rattle.programme_lists.specs.declared.programme.Programme.{Programme}
use Rattle.programme_lists.specs.declared.programme.StepList.{StepList}
use Rattle.programme_lists.proofs.Table.{IsRow, row_facts}
use Rattle.reasons.specs.declared.reason.StepWhy.{StepWhy}
use Rattle.seat_matrix.specs.Seats.{AreProgrammeSeats, seats_of}
use Rattle.seat_matrix.specs.declared.seats.ProgrammeSeats.{ProgrammeSeats}
use Rattle.office_base.specs.StepNumbers.{step_number}
use Rattle.office_base.proofs.StepNumbers.{kinds, kind_at}
use Rattle.office_base.proofs.Lists.{all_joined, at_among}
use Rattle.placements.proofs.Merit.{not_both_better}
use Rattle.explain.specs.Just.{ReasonsAreJust, StandsAgainst, WasApplicant, told}
use Rattle.explain.specs.Reason.{admitted_in, category_step, reason_from, refusal, step_among, step_why, why_at}
use Rattle.explain.proofs.Lists.{left_by_take, none_taken, not_listed, stays, tells_worse}
use Rattle.explain.proofs.Step.{IsRefusedBy, all_taken, each, fewer_honoured}

-- the laws of the choice of a step that this rests on
pub record AreLaws : Type 0 where
  pub one : OneChoice
  pub size : ChoiceSize
  pub for_all : SeatsForAll
  pub merit : InMeritRanks
  pub part : RankedPart
  pub ranks : WithPersonRanks

-- a filter of ranked people is ranked
filter_ranked : (list : ListId) (p : Person → Bool) (people : List Person) → AreRanked list people → AreRanked list (filter p people)
filter_ranked list p people ranked = ranked_sublist list (filter p people) people ranked (filter-sublist p people)

-- the person is a member of the category of the row
abbrev IsMember : Option CategoryStep → Person → Type 0
IsMember None person = ⊥
IsMember (Some row) person = is_of row.category person ≡ true

-- the step that is found for a category is that of its row
of_step : (person : Person) (kind : StepKind) → category_step person.category ≡ Some kind → IsMember (row_of kind) person
of_step person kind found = among category_steps (λ row here. here) found
  where
    among : (rows : List CategoryStep) → ((row : CategoryStep) → IsAmong row rows → IsRow row) → step_among rows person.category ≡ Some kind → IsMember (row_of kind) person
    among [] those found = absurd (cc)
    among (row ∷ rows) those found = elim (cases_Bool (is_same row.category person.category)) [
      | inl is ↦
          let first : Some row.step ≡ Some kind = sym (cond-true _ (Some row.step) (step_among rows person.category) is) ∙ found in
          let same : row.step ≡ kind = cc in
          subst (λ k. IsMember (row_of k) person) same (subst (λ one. IsMember one person) (sym (row_facts row (those row (inl refl))).found) is)
      | inr other ↦ among rows (λ one here. those one (inr here)) (sym (cond-false _ (Some row.step) (step_among rows person.category) other) ∙ found)
    ]

module _ (laws : AreLaws) (seats : ProgrammeSeats) (programme : Programme) (person : Person) (sound : AreProgrammeSeats seats) (was : WasApplicant seats programme person)
    (refused : admitted_in programme.steps person ≡ None) where
  abbrev applicants : List Person
  applicants = in_merit seats.list was.people

  abbrev admissions : Admissions
  admissions = was.shows.0

  choice : IsProgrammeChoice was.version seats applicants admissions
  choice = was.shows.1

  ranked : AreRanked seats.list applicants
  ranked = (laws.merit seats.list was.people was.may).0

  present : IsAmong person applicants
  present = each (λ (x : Person). IsAmong x applicants) person was.people was.among (laws.merit seats.list was.people was.may).1

  shown_at : (kind : StepKind) (shown : StepList) → slice_get programme.steps (step_number kind) ≡ Some shown → ShowsStep was.version seats applicants admissions kind shown
  shown_at kind shown at = zipped (ShowsStep was.version seats applicants admissions) kinds programme.steps (step_number kind) kind shown was.shows.2 (kind_at kind) at

  -- no list has the person
  not_on : (kind : StepKind) (shown : StepList) → slice_get programme.steps (step_number kind) ≡ Some shown → is_taken shown.admitted person ≡ false
  not_on kind shown at = each (λ (l : StepList). is_taken l.admitted person ≡ false) shown programme.steps (at_among programme.steps (step_number kind) shown at) (not_listed programme.steps person refused)

  -- each of the steps is shown
  shown_of : (kind : StepKind) → (shown : StepList) × (slice_get programme.steps (step_number kind) ≡ Some shown)
  shown_of kind = let found = zip_at (ShowsStep was.version seats applicants admissions) kinds programme.steps (step_number kind) kind was.shows.2 (kind_at kind) in (found.0, found.1)

  -- and none takes the person
  not_taken : (kind : StepKind) → is_taken (admitted_by admissions kind) person ≡ false
  not_taken kind =
      let s = shown_of kind in
      subst (λ (l : List Person). is_taken l person ≡ false) (shown_at kind s.0 s.1).persons (not_on kind s.0 s.1)

  not_among : (kind : StepKind) → IsAmong person (admitted_by admissions kind) → ⊥
  not_among kind = none_taken (admitted_by admissions kind) person (not_taken kind)

  -- ---- the people of the steps

  without_ranked : (people taken : List Person) → AreRanked seats.list people → AreRanked seats.list (without people taken)
  without_ranked people taken h = filter_ranked seats.list (λ (x : Person). not (is_taken taken x)) people h

  -- those whom some steps left are ranked, and the members of a category
  left_ranked : (kinds : List StepKind) (people : List Person) → AreRanked seats.list people → AreRanked seats.list (left_by kinds people admissions)
  left_ranked [] people h = h
  left_ranked (kind ∷ kinds) people h = left_ranked kinds (without people (admissions kind)) (without_ranked people (admissions kind) h)

  members_ranked : (row : Option CategoryStep) (people : List Person) → AreRanked seats.list people → AreRanked seats.list (members_by row people)
  members_ranked None people h = ranked_sublist seats.list [] people h (IsSublist-nil people)
  members_ranked (Some row) people h = filter_ranked seats.list (is_of row.category) people h

  people_ranked : (kind : StepKind) → AreRanked seats.list (people_of seats.list applicants admissions kind)
  people_ranked Open = filter_ranked seats.list (is_common seats.list) applicants ranked
  people_ranked Dereserved = filter_ranked seats.list (is_common seats.list) _ (left_ranked own_steps applicants ranked)
  people_ranked kind = members_ranked (row_of kind) _ (without_ranked applicants (admissions Open) ranked)

  is_step : (kind : StepKind) → IsStep (step_of seats applicants admissions kind)
  is_step kind = record { list = sound.list; people = people_ranked kind; protections = (sound.steps kind).protections }

  -- the person competes for the seats of the own category
  member : (row : Option CategoryStep) → IsMember row person → IsAmong person (members_by row (without applicants (admissions Open)))
  member None of = absurd of
  member (Some row) of =
      among_filter_from (is_of row.category) person (without applicants (admissions Open)) (stays applicants (admissions Open) person present (not_taken Open)) of

  -- a person who is refused is among those left to the de-reserved step
  left_over_from : (kinds : List StepKind) (people : List Person) → IsAmong person people → IsAmong person (left_by kinds people admissions)
  left_over_from [] people here = here
  left_over_from (kind ∷ kinds) people here = left_over_from kinds (without people (admissions kind)) (stays people (admissions kind) person here (not_taken kind))

  left : IsAmong person (left_over applicants admissions)
  left = left_over_from own_steps applicants present

  -- ---- what counts against the person

  abbrev Against : StepList → Type 0
  Against shown = StandsAgainst seats programme person (step_why seats.list person shown)

  own_step : (kind : StepKind) (shown : StepList) → slice_get programme.steps (step_number kind) ≡ Some shown
      → IsStepChoice (step_of seats applicants admissions kind) (admitted_by admissions kind) → IsAmong person (people_of seats.list applicants admissions kind)
      → seats_filled was.version seats admissions kind ≡ (seats_of seats kind).seats → Against shown
  own_step kind shown at chosen among filled =
      let shows = shown_at kind shown at in
      let step = step_of seats applicants admissions kind in
      let admitted = admitted_by admissions kind in
      let r : IsRefusedBy step admitted person = record { is_step = is_step kind; choice = chosen; among = among; refused = not_among kind } in
      record {
        shown = shown;
        listed = at_among programme.steps (step_number kind) shown at;
        of_kind = refl;
        seats_told = refl;
        full = ap length shows.persons ∙ all_taken step admitted person r laws.one laws.size laws.for_all ∙ sym filled ∙ sym shows.of_seats;
        worse = tells_worse seats.list person shown.admitted;
        swapped = λ other m n there better theirs own.
            fewer_honoured step admitted person r laws.part laws.ranks other m n (subst (IsAmong other) shows.persons there) better
            (subst (λ (k : StepKind). IsHonoured (seats_of seats k).protections (with_person seats.list person (without_one other.id admitted)) m) shows.of_kind
            (subst (λ (l : List Person). IsHonoured (seats_of seats shown.kind).protections (with_person seats.list person (without_one other.id l)) m) shows.persons theirs))
            (subst (λ (k : StepKind). IsHonoured (seats_of seats k).protections admitted n) shows.of_kind
            (subst (λ (l : List Person). IsHonoured (seats_of seats shown.kind).protections l n) shows.persons own));
      }

  -- nobody worse is on a de-reserved seat
  dereserved_step : (shown : StepList) → slice_get programme.steps (step_number Dereserved) ≡ Some shown → is_common seats.list person ≡ true → Against shown
  dereserved_step shown at common =
      let shows = shown_at Dereserved shown at in
      let people = people_of seats.list applicants admissions Dereserved in
      let count = unfilled was.version seats admissions in
      let among : IsAmong person people = among_filter_from (is_common seats.list) person (left_over applicants admissions) left common in
      let by = left_by_take seats.list count people person (people_ranked Dereserved).in_order among (λ h. not_among Dereserved (subst (IsAmong person) (sym choice.dereserved) h)) in
      let same : shown.admitted ≡ take count people = shows.persons ∙ choice.dereserved in
      let all_better = subst (AllByRecursion (λ (x : Person). IsBetter seats.list x person)) (sym same) by.1 in
      record {
        shown = shown;
        listed = at_among programme.steps (step_number Dereserved) shown at;
        of_kind = refl;
        seats_told = refl;
        full = ap length same ∙ by.0 ∙ sym shows.of_seats;
        worse = tells_worse seats.list person shown.admitted;
        swapped = λ other m n there better theirs own. absurd (not_both_better seats.list person other better (each (λ (x : Person). IsBetter seats.list x person) other shown.admitted there all_better));
      }

  -- ---- all that is reported

  abbrev Told : Option StepWhy → Type 0
  Told why = AllByRecursion (StandsAgainst seats programme person) (option_to_list why)

  told_at : (kind : StepKind) → ((shown : StepList) → slice_get programme.steps (step_number kind) ≡ Some shown → Against shown) → Told (why_at seats.list programme person kind)
  told_at kind against =
      let s = shown_of kind in
      subst Told (sym (ap (option_map (step_why seats.list person)) s.1)) (against s.0 s.1, tt)

  told_where : (b : Bool) (why : Option StepWhy) → (b ≡ true → Told why) → Told (if b then why else None)
  told_where true why h = h refl
  told_where false why h = tt

  told_open : is_common seats.list person ≡ true → Told (why_at seats.list programme person Open)
  told_open common = told_at Open (λ shown at. own_step Open shown at (choice.own Open refl) (among_filter_from (is_common seats.list) person applicants present common) refl)

  told_step : (kind : StepKind) → IsMember (row_of kind) person → Told (why_at seats.list programme person kind)
  told_step Open of = absurd of
  told_step Dereserved of = absurd of
  told_step kind of = told_at kind (λ shown at. own_step kind shown at (choice.own kind refl) (member (row_of kind) of) refl)

  told_category : (step : Option StepKind) → category_step person.category ≡ step → Told (option_and_then (why_at seats.list programme person) step)
  told_category None none = tt
  told_category (Some kind) found = told_step kind (of_step person kind found)

  told_refusal : AllByRecursion (StandsAgainst seats programme person) (told (refusal seats.list programme person))
  told_refusal =
      let common = is_common seats.list person in
      all_joined (StandsAgainst seats programme person) _ _
      (all_joined (StandsAgainst seats programme person) _ _ (told_where common _ told_open) (told_category (category_step person.category) refl))
      (told_where common _ (λ holds. told_at Dereserved (λ shown at. dereserved_step shown at holds)))

pub just : AreLaws → ReasonsAreJust
just laws seats programme person sound was = either (admitted_in programme.steps person) refl
  where
    either : (step : Option StepKind) → admitted_in programme.steps person ≡ step
        → AllByRecursion (StandsAgainst seats programme person) (told (reason_from step (refusal seats.list programme person)))
    either None none = told_refusal laws seats programme person sound was none
    either (Some step) some = tt
