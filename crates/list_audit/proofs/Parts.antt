-- A step of a programme from its parts, and all steps.
use Rattle.std.proofs.Common.{◌≡◌, ◌≢◌, ◌≤◌, ◌<◌, ◌+◌, ℕ, suc, false, Option, Some, None, List, get_or, refl, sym, ap, ◌∙◌, subst, inl, inr, arith}
use Rattle.std.proofs.lemmas.Bool.{cases_lt}
use Rattle.std.specs.Prelude.{length, min, slice_get}
use Rattle.std.specs.List.{AllByRecursion, filter}
use Rattle.office_base.specs.CategorySteps.{category_steps}
use Rattle.office_base.specs.Lists.{IsAmong, IsSublist, Pairwise}
use Rattle.office_base.specs.Merit.{in_merit}
use Rattle.office_base.specs.Person.{IsBetter}
use Rattle.office_base.specs.StepChoice.{AreRanked}
use Rattle.office_base.specs.StepNumbers.{step_number}
use Rattle.office_base.specs.declared.person.CandId.{CandId}
use Rattle.office_base.specs.declared.category_steps.CategoryStep.{CategoryStep}
use Rattle.office_base.specs.declared.person.ListId.{ListId}
use Rattle.office_base.specs.declared.person.Person.{Person}
use Rattle.office_base.specs.declared.step.Protections.{Protections}
use Rattle.office_base.specs.declared.step.StepKind.{StepKind}
use Rattle.office_base.specs.declared.step.StepKind.TheVariants.{Open, Dereserved}
use Rattle.office_base.proofs.Lists.{at_among}
use Rattle.office_base.proofs.StepNumbers.{below_all, one_number}
use Rattle.placements.proofs.Filters.{filter-sublist}
use Rattle.placements.proofs.Ranks.{ranked_sublist}
use Rattle.placements.proofs.Sublists.{sublist_again}
use Rattle.seat_matrix.specs.Seats.{is_dereserved}
use Rattle.seat_matrix.specs.declared.seats.ProgrammeSeats.{ProgrammeSeats}
use Rattle.programme_lists.specs.Programme.{Admissions, is_of, people_of, without}
use Rattle.programme_lists.specs.declared.programme.Programme.{Programme}
use Rattle.programme_lists.specs.declared.programme.StepList.{StepList}
use Rattle.merit_choice.specs.InMerit.{RankedInMerit, RankedPart}
use Rattle.list_audit.specs.Clauses.{Audited, AreCandidates, AreRightNumbers, BreaksFirst, IsListFault, IsRightSize, IsSound, audited, list_at, list_of_step, named_at, named_by, people_at, protections_at}
use Rattle.list_audit.specs.Outside.{IsOutside}
use Rattle.list_audit.specs.Stand.{left_to, stands_for}
use Rattle.list_audit.specs.Steps.{BreaksChoice, IsCategoryFault, IsChoiceFault, IsStepFault}
use Rattle.list_audit.specs.declared.clause.Clause.{Clause}
use Rattle.list_audit.specs.declared.clause.Clause.TheVariants.{BadCertificate, Overtaken}
use Rattle.programme_lists.proofs.Table.{IsRow, row_facts, view}
use Rattle.programme_lists.proofs.Walk.{ranked_without}
use Rattle.list_audit.proofs.Rows.{row_at, row_below, row_number}
use Rattle.programme_lists.proofs.Parts.{people_part}
use Rattle.list_audit.proofs.SoundLists.{ranked_among}

-- ---- the people of a step

-- the people of a step are those who compete for its seats, of those who are left to it
pub people_stand : (list : ListId) (applicants : List Person) (named : Admissions) (kind : StepKind) → people_of list applicants named kind ≡ filter (stands_for list kind) (left_to applicants named kind)
people_stand list applicants named Open = refl
people_stand list applicants named _ = refl

pub standing_ranked : (list : ListId) (kind : StepKind) (people some : List Person) → AreRanked list people → some ≡ filter (stands_for list kind) people → AreRanked list some
standing_ranked list kind people some ranked e = subst (AreRanked list) (sym e) (ranked_sublist list (filter (stands_for list kind) people) people ranked (filter-sublist (stands_for list kind) people))

-- those who are named are a part of the people
pub named_part : RankedPart → (list : ListId) (people named : List Person) → AreRanked list people → AllByRecursion (λ person. IsAmong person people) named → Pairwise (IsBetter list) named
    → IsSublist named people
named_part law list people named ranked among order = law list named people (ranked_among list people named ranked among order) ranked among

pub sound_part : RankedPart → (step : Audited) (people : List Person) → people ≡ people_at step → AreRanked step.seats.list people → IsSound step → IsSublist (named_at step) people
sound_part law step people e ranked sound =
    named_part law step.seats.list people (named_at step) ranked (subst (λ (those : List Person). AllByRecursion (λ person. IsAmong person those) (named_at step)) (sym e) sound.candidates.people) sound.candidates.in_order

-- ---- one step

module _ (step : Audited) (right : AreRightNumbers step) where
  pub candidates_of : (people : List Person) → people ≡ people_at step → AllByRecursion (λ person. IsAmong person people) (named_at step) → Pairwise (IsBetter step.seats.list) (named_at step) → AreCandidates step
  candidates_of people e among order = record { people = subst (λ (those : List Person). AllByRecursion (λ person. IsAmong person those) (named_at step)) e among; in_order = order }

  module _ (candidates : AreCandidates step) (size : IsRightSize step) where
    breaks_choice : (clause : Clause) (cand : Option CandId) → BreaksChoice step.seats.list (protections_at step) (people_at step) (list_at step) clause cand → BreaksFirst step clause cand
    breaks_choice BadCertificate None h = (right, candidates, size, λ certified. h (certified.placement, certified.most))
    breaks_choice Overtaken (Some cand) h =
        (right, candidates, size, record { placement = h.0.0; most = h.0.1 }, record { person = h.1.0; is = h.1.1; overtakes = h.1.2; best = h.1.3 })
    breaks_choice _ _ h = absurd h

    pub choice_step : (people : List Person) (fault : Option (Clause × Option CandId)) → people ≡ people_at step
        → IsChoiceFault step.seats.list (protections_at step) people (list_at step) fault → IsStepFault step fault
    choice_step people None e h =
        let here = subst (λ (those : List Person). IsChoiceFault step.seats.list (protections_at step) those (list_at step) None) e h in record {
          numbers = right;
          candidates = candidates;
          size = size;
          certified = record { placement = here.0.0; most = here.0.1 };
          best = here.1;
        }
    choice_step people (Some fault) e h =
        breaks_choice fault.0 fault.1 (subst (λ (those : List Person). IsChoiceFault step.seats.list (protections_at step) those (list_at step) (Some fault)) e h)

-- a step from what was found among its people
pub among_step : (step : Audited) (people named : List Person) (shown : StepList) (protections : Protections) (fault : Option (Clause × Option CandId)) → people ≡ people_at step → shown ≡ list_at step
    → named ≡ shown.admitted → protections ≡ protections_at step → AreRightNumbers step → IsOutside step.seats.list people named None → length named ≡ min shown.seats (length people)
    → IsChoiceFault step.seats.list protections people shown fault → IsStepFault step fault
among_step step people named shown protections fault e s n p right outside size h =
    let own : named ≡ named_at step = n ∙ ap (λ (l : StepList). l.admitted) s in
    let out : IsOutside step.seats.list people (named_at step) None = subst (λ (those : List Person). IsOutside step.seats.list people those None) own outside in
    let candidates = candidates_of step right people e out.0 out.1 in
    let count : IsRightSize step =
    sym (ap (λ (those : List Person). length those) own) ∙ size ∙ ap (λ (l : StepList). min l.seats (length people)) s ∙ ap (λ (those : List Person). min (list_at step).seats (length those)) e in
    let listed = subst (λ (l : StepList). IsChoiceFault step.seats.list protections people l fault) s h in
    choice_step step right candidates count people fault e (subst (λ (q : Protections). IsChoiceFault step.seats.list q people (list_at step) fault) p listed)

-- ---- all steps

-- to a category those are left whom the open step left
pub left_category : (applicants : List Person) (named : Admissions) (items : List CategoryStep) (index : ℕ) (d : CategoryStep) → items ≡ category_steps → index < length items
    → left_to applicants named (get_or items index d).step ≡ without applicants (named Open)
left_category applicants named items index d same less =
    let row = get_or items index d in
    let facts = row_facts row (at_among category_steps index row (row_at items index d same less)) in
    by_kind row.step facts.not_open facts.own
  where
    by_kind : (kind : StepKind) → kind ≢ Open → is_dereserved kind ≡ false → left_to applicants named kind ≡ without applicants (named Open)
    by_kind Open apart own = absurd (apart refl)
    by_kind Dereserved apart own = absurd (cc own)
    by_kind _ apart own = refl

module _ (version : ℕ) (seats : ProgrammeSeats) (people : List Person) (programme : Programme) where
  abbrev Sound : StepKind → Type 0
  Sound kind = IsSound (audited version seats people programme kind)

  -- a step is sound if it is, where it is the open one, that of a row or the last
  by_view : (kind : StepKind) → (kind ≡ Open → Sound Open) → ((row : CategoryStep) → IsRow row → kind ≡ row.step → Sound row.step) → (kind ≡ Dereserved → Sound Dereserved) → Sound kind
  by_view kind first each last = elim (view kind) [
    | inl start ↦ subst Sound (sym start) (first start)
    | inr other ↦ elim other [
      | inl found ↦ subst Sound (sym found.2) (each found.0 found.1 found.2)
      | inr end ↦ subst Sound (sym end) (last end)
    ]
  ]

  pub before_last : Sound Open → IsCategoryFault version seats people programme None → (other : StepKind) → step_number other < step_number Dereserved → Sound other
  before_last first each other less =
      by_view other (λ _. first) (λ row here _. each row here) (λ last. absurd (let same = ap step_number last in omega (arith, same, less)))

  -- the first fault of a category is the first of all
  pub category_first : (fault : Clause × Option CandId) → Sound Open → IsCategoryFault version seats people programme (Some fault) → IsListFault version seats people programme (Some fault)
  category_first fault first found = record {
    kind = found.0.step;
    before = λ other less. by_view other (λ _. first) (λ row here same. found.2 row here (subst (λ kind. step_number kind < step_number found.0.step) same less))
        (λ last. absurd (let same = ap step_number last in let most = below_all found.0.step in omega (arith, same, less, most)));
    here = found.3;
  }

  pub whole : (fault : Option (Clause × Option CandId)) → Sound Open → IsCategoryFault version seats people programme None
      → IsStepFault (audited version seats people programme Dereserved) fault → IsListFault version seats people programme fault
  whole None first each last = λ kind. by_view kind (λ _. first) (λ row here _. each row here) (λ _. last)
  whole (Some fault) first each last = record { kind = Dereserved; before = before_last first each; here = last }

  -- ---- the categories, one after another

  -- the steps of the rows before this place are sound
  abbrev pub AreSoundBefore : ℕ → Type 0
  AreSoundBefore index = (other : CategoryStep) → IsRow other → step_number other.step < index + 1 → Sound other.step

  module _ (items : List CategoryStep) (index : ℕ) (same : items ≡ category_steps) (before : AreSoundBefore index) where
    -- what the step of the row at this place comes to, of those whom the open step left
    module _ (d : CategoryStep) (less : index < length items) (rest : List Person) (fault : Option (Clause × Option CandId))
        (told : rest ≡ left_to (in_merit seats.list people) (named_by programme) (get_or items index d).step
        → IsStepFault (audited version seats people programme (get_or items index d).step) fault)
        (left : rest ≡ without (in_merit seats.list people) (named_by programme Open)) where
      abbrev row : CategoryStep
      row = get_or items index d

      at : slice_get category_steps index ≡ Some row
      at = row_at items index d same less

      is : step_number row.step ≡ suc index
      is = row_number index row at

      here : IsStepFault (audited version seats people programme row.step) fault
      here = told (left ∙ sym (left_category (in_merit seats.list people) (named_by programme) items index d same less))

      pub category_next : fault ≡ None → AreSoundBefore (index + 1)
      category_next none other of lower = elim (cases_lt (step_number other.step) (index + 1)) [
        | inl earlier ↦ before other of earlier
        | inr far ↦ subst Sound (one_number row.step other.step (let one : step_number row.step ≡ step_number other.step = omega (arith, is, far, lower) in one))
            (subst (IsStepFault (audited version seats people programme row.step)) none here)
      ]

      pub category_found : (found : Clause × Option CandId) → fault ≡ Some found → IsCategoryFault version seats people programme (Some found)
      category_found found some = (
        row,
        at_among category_steps index row at,
        (λ other of lower. before other of (let number = is in omega (arith, number, lower))),
        subst (IsStepFault (audited version seats people programme row.step)) some here,
      )

    pub category_end : length items ≤ index → IsCategoryFault version seats people programme None
    category_end done row here = before row here (let last = row_below row here in let size = ap (λ (rows : List CategoryStep). length rows) same in omega (arith, done, size, last))

-- ---- whom the steps name, of people in merit order

module _ (part : RankedPart) (order : RankedInMerit) (version : ℕ) (seats : ProgrammeSeats) (people : List Person) (programme : Programme) (ranked : AreRanked seats.list people) where
  abbrev named : Admissions
  named = named_by programme

  -- people in merit order are in merit order
  pub same_order : people ≡ in_merit seats.list people
  same_order = sym (order seats.list people ranked).1

  part_of : (kind : StepKind) → IsSound (audited version seats people programme kind) → IsSublist (list_of_step programme kind).admitted (people_of seats.list people named kind)
  part_of kind sound =
      let e : people_of seats.list people named kind ≡ people_at (audited version seats people programme kind) = ap (λ (those : List Person). people_of seats.list those named kind) same_order in
      sound_part part (audited version seats people programme kind) (people_of seats.list people named kind) e
      (ranked_sublist seats.list (people_of seats.list people named kind) people ranked (people_part seats.list people named kind)) sound

  pub open_part : IsSound (audited version seats people programme Open) → IsSublist (list_of_step programme Open).admitted people
  open_part sound = sublist_again (list_of_step programme Open).admitted (people_of seats.list people named Open) people (part_of Open sound) (people_part seats.list people named Open)

  module _ (rest : List Person) (left : rest ≡ without people (list_of_step programme Open).admitted) where
    pub rest_ranked : AreRanked seats.list rest
    rest_ranked = subst (AreRanked seats.list) (sym left) (ranked_without seats.list people (list_of_step programme Open).admitted ranked)

    pub rest_told : (applicants : List Person) → people ≡ in_merit seats.list applicants → rest ≡ without (in_merit seats.list applicants) (named Open)
    rest_told applicants e = left ∙ ap (λ (those : List Person). without those (named Open)) e

    -- those whom the step of a row names are members among the rest
    pub row_part : IsCategoryFault version seats people programme None → (row : CategoryStep) → IsRow row → IsSublist (named row.step) (filter (is_of row.category) rest)
    row_part each row here =
        subst (λ (those : List Person). IsSublist (named row.step) (filter (is_of row.category) those)) (sym left)
        (subst (IsSublist (named row.step)) ((row_facts row here).people seats.list people named) (part_of row.step (each row here)))
