-- A step with a seat left refuses nobody who may compete for it, and admits nobody else.
use Rattle.std.proofs.Common.{◌≡◌, ◌<◌, inl, inr, ℕ, List, length, take, arith, refl, sym, ap, ◌∙◌, subst}
use Rattle.std.proofs.lemmas.List.{length-take}
use Rattle.office_base.specs.Lists.{IsAmong}
use Rattle.office_base.specs.Merit.{in_merit}
use Rattle.office_base.specs.StepChoice.{AreRanked, IsStep, IsStepChoice}
use Rattle.office_base.specs.declared.person.Person.{Person}
use Rattle.office_base.specs.declared.step.Step.{Step}
use Rattle.office_base.specs.declared.step.StepKind.{StepKind}
use Rattle.office_base.specs.declared.step.StepKind.TheVariants.{Dereserved}
use Rattle.placements.proofs.Ranks.{among_sublist, widen}
use Rattle.placements.proofs.Sublists.{IsSublist-take}
use Rattle.merit_choice.specs.InMerit.{InMeritRanks}
use Rattle.merit_choice.specs.Laws.{ChoiceSize}
use Rattle.merit_choice.proofs.InMerit.{whole_sublist}
use Rattle.seat_matrix.specs.Seats.{AreProgrammeSeats}
use Rattle.seat_matrix.specs.declared.seats.ProgrammeSeats.{ProgrammeSeats}
use Rattle.programme_lists.specs.Chosen.{IsAdmitted}
use Rattle.programme_lists.specs.Listing.{seats_filled}
use Rattle.programme_lists.specs.Programme.{Admissions, IsProgrammeChoice, people_of, step_of, unfilled}
use Rattle.programme_laws.specs.Laws.{AdmittedMayStand, EmptySeatsRefuseNobody, MayStandFor}
use Rattle.programme_laws.proofs.Competing.{admitted_part, may_compete}
use Rattle.programme_laws.proofs.PassedOver.{competes, is_step}

-- ---- seats left

module _ (sized : ChoiceSize) (version : ℕ) (seats : ProgrammeSeats) (applicants : List Person) (admissions : Admissions) (ok : AreProgrammeSeats seats)
    (ranked : AreRanked seats.list applicants) (choice : IsProgrammeChoice version seats applicants admissions) where
  by_choice : (step : Step) (chosen : List Person) → IsStep step → IsStepChoice step chosen → length chosen < step.seats → chosen ≡ step.people
  by_choice step chosen is_ok chosen_so less = let size = sized step chosen is_ok chosen_so in whole_sublist chosen step.people chosen_so.may.people (omega (arith, size, less))

  -- a step with a seat left admits all its people
  all_chosen : (kind : StepKind) → length (admissions kind) < seats_filled version seats admissions kind → admissions kind ≡ people_of seats.list applicants admissions kind
  all_chosen Dereserved less =
      let people = people_of seats.list applicants admissions Dereserved in
      let first = take (unfilled version seats admissions) people in
      let size = length-take (unfilled version seats admissions) people in
      let same = ap (λ (l : List Person). length l) choice.dereserved in
      let whole : first ≡ people = whole_sublist first people (IsSublist-take (unfilled version seats admissions) people) (omega (arith, size, same, less)) in
      choice.dereserved ∙ whole
  all_chosen kind less =
      by_choice (step_of seats applicants admissions kind) (admissions kind) (is_step version seats applicants admissions ok ranked choice kind) (choice.own kind refl) less

  pub refuses_nobody : (person : Person) (step : StepKind) → length (admissions step) < seats_filled version seats admissions step → IsAmong person applicants
      → MayStandFor seats.list step person → IsAdmitted admissions person
  refuses_nobody person step less there may = elim (competes version seats applicants admissions ok ranked choice step person there may) [
    | inl is_yes ↦ is_yes
    | inr stands ↦ (step, subst (λ l. IsAmong person l) (sym (all_chosen step less)) stands)
  ]

pub empty_seats_refuse_nobody : InMeritRanks → ChoiceSize → EmptySeatsRefuseNobody
empty_seats_refuse_nobody ranks sized version seats people admissions person step ok may choice less there stands =
    let order = ranks seats.list people may in
    refuses_nobody sized version seats (in_merit seats.list people) admissions ok order.0 choice person step less
    (widen person people (in_merit seats.list people) order.1 there) stands

-- ---- who is admitted

pub admitted_may_stand : AdmittedMayStand
admitted_may_stand version seats people admissions person step choice here =
    let applicants = in_merit seats.list people in
    may_compete seats.list applicants admissions step person
    (widen person (admissions step) (people_of seats.list applicants admissions step) (among_sublist _ _ (admitted_part version seats applicants admissions step choice)) here)
