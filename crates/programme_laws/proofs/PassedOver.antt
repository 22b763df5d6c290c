-- A programme passes nobody over: the step that admits the worse one would choose the better one, unless an earlier step did.
use Rattle.std.proofs.Common.{◌≡◌, ◌⊎◌, inl, inr, ℕ, zero, suc, true, List, [], ◌∷◌, take, refl, sym, ap, subst, not, ◌==◌}
use Rattle.std.proofs.lemmas.Bool.{cases_Bool, eqb-true, or_cases}
use Rattle.office_base.specs.Lists.{IsAmong, Pairwise}
use Rattle.office_base.specs.CategorySteps.{own_steps, row_of}
use Rattle.office_base.specs.Merit.{in_merit}
use Rattle.office_base.specs.Person.{IsBetter, is_common, number_in}
use Rattle.office_base.specs.StepChoice.{AreRanked, IsStep}
use Rattle.office_base.specs.declared.person.ListId.{ListId}
use Rattle.office_base.specs.declared.person.Person.{Person}
use Rattle.office_base.specs.declared.step.StepKind.{StepKind}
use Rattle.office_base.specs.declared.step.StepKind.TheVariants.{Open, Dereserved}
use Rattle.placements.specs.Ranks.{AreAmong, AreDistinct}
use Rattle.placements.proofs.Filters.{among_filter_from}
use Rattle.placements.proofs.Merit.{ahead_again, not_ahead}
use Rattle.placements.proofs.Ranks.{any_all, one_person, ranked_sublist, widen}
use Rattle.placements.proofs.Convert.{same_cand}
use Rattle.merit_choice.specs.InMerit.{InMeritRanks}
use Rattle.merit_choice.specs.Laws.{NobodyPassedOver}
use Rattle.seat_matrix.specs.Seats.{AreProgrammeSeats}
use Rattle.seat_matrix.specs.declared.seats.ProgrammeSeats.{ProgrammeSeats}
use Rattle.programme_lists.specs.Chosen.{IsAdmitted}
use Rattle.programme_lists.specs.Programme.{Admissions, IsProgrammeChoice, is_taken, left_by, left_over, people_of, step_of, unfilled, without}
use Rattle.programme_laws.specs.Laws.{HoldsEachTraitOf, MayStandFor, NobodyIsPassedOver}
use Rattle.programme_lists.proofs.Parts.{people_part}
use Rattle.programme_laws.proofs.Competing.{admitted_within, member_by}

-- ---- whom a step left

-- a person who is taken has the id of one of those taken
taken_is : (taken : List Person) (person : Person) → is_taken taken person ≡ true → (other : Person) × IsAmong other taken × (other.id ≡ person.id)
taken_is [] person e = absurd (cc)
taken_is (other ∷ taken) person e = elim (or_cases (other.id.0 == person.id.0) (is_taken taken person) e) [
  | inl same ↦ (other, inl refl, same_cand _ _ (eqb-true _ _ same))
  | inr later ↦ let rest = taken_is taken person later in (rest.0, inr rest.1, rest.2)
]

-- one of the rest is taken, or is left
pub taken_or_left : (all rest taken : List Person) (person : Person) → AreDistinct all → AreAmong taken all → IsAmong person all → IsAmong person rest
    → IsAmong person taken ⊎ IsAmong person (without rest taken)
taken_or_left all rest taken person distinct part there here = elim (cases_Bool (is_taken taken person)) [
  | inl is_yes ↦
      let found = taken_is taken person is_yes in
      let one = one_person all distinct found.0 person (widen found.0 taken all part found.1) there found.2 in
      inl (subst (λ p. IsAmong p taken) one found.1)
  | inr is_no ↦ inr (among_filter_from (λ one. not (is_taken taken one)) person rest here (ap not is_no))
]

-- ---- the best of some people

-- a person who is better than one of the first n is one of them
pub best_first : (list : ListId) (n : ℕ) (people : List Person) (better worse : Person) → Pairwise (IsBetter list) people → IsAmong better people → IsAmong worse (take n people)
    → IsBetter list better worse → IsAmong better (take n people)
best_first list zero people better worse order there here ahead = absurd here
best_first list (suc n) [] better worse order there here ahead = absurd here
best_first list (suc n) (x ∷ people) better worse order there here ahead = elim there [
  | inl first ↦ inl first
  | inr later ↦ elim here [
    | inl is ↦
        let behind = any_all (λ one. better ≡ one) (IsBetter list x) people later order.0 in
        let after : IsBetter list x better = subst (λ p. IsBetter list x p) (sym behind.1) behind.2 in
        let ahead_of : IsBetter list better x = subst (λ p. IsBetter list better p) is ahead in
        absurd (not_ahead (number_in list x) (ahead_again (number_in list x) (number_in list better) (number_in list x) after ahead_of))
    | inr among ↦ inr (best_first list n people better worse order.1 later among ahead)
  ]
]

-- ---- the steps

-- an applicant whom some steps do not admit is among those whom they left
pub left_or_by : (applicants : List Person) (admissions : Admissions) (kinds : List StepKind) (rest : List Person) (person : Person) → AreDistinct applicants
    → ((kind : StepKind) → AreAmong (admissions kind) applicants) → IsAmong person applicants → IsAmong person rest
    → IsAdmitted admissions person ⊎ IsAmong person (left_by kinds rest admissions)
left_or_by applicants admissions [] rest person distinct within there here = inr here
left_or_by applicants admissions (kind ∷ kinds) rest person distinct within there here =
    elim (taken_or_left applicants rest (admissions kind) person distinct (within kind) there here) [
      | inl taken ↦ inl (kind, taken)
      | inr left ↦ left_or_by applicants admissions kinds (without rest (admissions kind)) person distinct within there left
    ]

module _ (version : ℕ) (seats : ProgrammeSeats) (applicants : List Person) (admissions : Admissions) (ok : AreProgrammeSeats seats)
    (ranked : AreRanked seats.list applicants) (choice : IsProgrammeChoice version seats applicants admissions) where
  pub people_ranked : (kind : StepKind) → AreRanked seats.list (people_of seats.list applicants admissions kind)
  people_ranked kind = ranked_sublist seats.list _ applicants ranked (people_part seats.list applicants admissions kind)

  pub is_step : (kind : StepKind) → IsStep (step_of seats applicants admissions kind)
  is_step kind = record { list = ok.list; people = people_ranked kind; protections = (ok.steps kind).protections }

  -- an applicant who may compete for the seats of a step does so, or is admitted by a step before
  pub competes : (kind : StepKind) (person : Person) → IsAmong person applicants → MayStandFor seats.list kind person
      → IsAdmitted admissions person ⊎ IsAmong person (people_of seats.list applicants admissions kind)
  competes Open person there may = inr (among_filter_from (is_common seats.list) person applicants there may)
  competes Dereserved person there may =
      elim (left_or_by applicants admissions own_steps applicants person ranked.distinct (λ kind. admitted_within version seats applicants admissions kind choice) there there) [
        | inl is_yes ↦ inl is_yes
        | inr left ↦ inr (among_filter_from (is_common seats.list) person (left_over applicants admissions) left may)
      ]
  competes kind person there may =
      elim (taken_or_left applicants applicants (admissions Open) person ranked.distinct (admitted_within version seats applicants admissions Open choice) there there) [
        | inl taken ↦ inl (Open, taken)
        | inr left ↦ inr (member_by (row_of kind) person (without applicants (admissions Open)) may left)
      ]

module _ (passes : NobodyPassedOver) (version : ℕ) (seats : ProgrammeSeats) (applicants : List Person) (admissions : Admissions) (ok : AreProgrammeSeats seats)
    (ranked : AreRanked seats.list applicants) (choice : IsProgrammeChoice version seats applicants admissions) where
  -- a step that admits the worse one admits the better one who competes for its seats too
  by_step : (kind : StepKind) (better worse : Person) → IsAmong better (people_of seats.list applicants admissions kind) → IsAmong worse (admissions kind) → IsBetter seats.list better worse
      → HoldsEachTraitOf better worse → IsAmong better (admissions kind)
  by_step Dereserved better worse stands here ahead holds =
      let people = people_of seats.list applicants admissions Dereserved in
      let order = (people_ranked version seats applicants admissions ok ranked choice Dereserved).in_order in
      let here' = subst (λ l. IsAmong worse l) choice.dereserved here in
      subst (λ l. IsAmong better l) (sym choice.dereserved) (best_first seats.list (unfilled version seats admissions) people better worse order stands here' ahead)
  by_step kind better worse stands here ahead holds =
      passes (step_of seats applicants admissions kind) (admissions kind) better worse (is_step version seats applicants admissions ok ranked choice kind) (choice.own kind refl) stands here ahead holds

  pub passed_over : (better worse : Person) (step : StepKind) → IsAmong better applicants → IsAmong worse (admissions step) → IsBetter seats.list better worse
      → MayStandFor seats.list step better → HoldsEachTraitOf better worse → IsAdmitted admissions better
  passed_over better worse step there here ahead may holds = elim (competes version seats applicants admissions ok ranked choice step better there may) [
    | inl is_yes ↦ is_yes
    | inr stands ↦ (step, by_step step better worse stands here ahead holds)
  ]

pub nobody_is_passed_over : InMeritRanks → NobodyPassedOver → NobodyIsPassedOver
nobody_is_passed_over ranks passes version seats people admissions better worse step ok may choice there here ahead stands holds =
    let order = ranks seats.list people may in
    passed_over passes version seats (in_merit seats.list people) admissions ok order.0 choice better worse step (widen better people (in_merit seats.list people) order.1 there) here ahead stands holds
