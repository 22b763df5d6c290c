-- With the de-reserved step a programme admits whom it admits without it, so the step hurts nobody.
use Rattle.std.proofs.Common.{◌≡◌, ◌≤◌, ℕ, suc, false, List, length, take, refl, sym, subst}
use Rattle.std.proofs.lemmas.Bool.{false≢true}
use Rattle.office_base.specs.Lists.{IsAmong}
use Rattle.office_base.specs.Merit.{in_merit}
use Rattle.office_base.specs.StepChoice.{IsStepChoice}
use Rattle.office_base.specs.declared.person.Person.{Person}
use Rattle.office_base.specs.declared.seat.SeatKind.TheVariants.{Kept, Under}
use Rattle.office_base.specs.declared.step.StepKind.{StepKind}
use Rattle.office_base.specs.declared.step.StepKind.TheVariants.{Dereserved}
use Rattle.allocations.specs.Market.{rank_of}
use Rattle.allocations.specs.Rule.{Grows}
use Rattle.published_rounds.proofs.ListFronts.{more_is_no_worse}
use Rattle.programme_lists.specs.Programme.{Admissions, IsProgrammeChoice, people_of, step_of, unfilled}
use Rattle.seat_matrix.specs.Matrix.{SeatTable, seats_in}
use Rattle.seat_matrix.specs.Seats.{is_dereserved}
use Rattle.seat_matrix.specs.declared.seats.ProgrammeSeats.{ProgrammeSeats}
use Rattle.rounds.specs.Rule.{MayApplyIn, ProgrammesChooseWell, nobody, rule_of}
use Rattle.rounds.proofs.Entrants.{market}
use Rattle.office_moves.specs.Facts.{SeasonFacts, lists_in_order}
use Rattle.office_moves.specs.Promise.{all_sought_then}
use Rattle.published_rounds.specs.Published.{market_then, matrix_then, wanted_then}
use Rattle.published_rounds.proofs.Places.{AreOrderly, order_of, in_round, made_then, may_enter}
use Rattle.published_rounds.specs.OwnSteps.{IsChoiceOfOwnSteps, rule_of_own_steps}
use Rattle.published_rounds.specs.RuleLaws.{DereservationHurtNobody, DereservationHurtsNobody}

module _ (version : ℕ) (seats : ProgrammeSeats) (applicants : List Person) (admissions : Admissions) (choice : IsChoiceOfOwnSteps seats applicants admissions) where
  -- the same steps, and the last one behind them
  abbrev with_last : StepKind → List Person
  with_last Dereserved = take (unfilled version seats admissions) (people_of seats.list applicants admissions Dereserved)
  with_last kind = admissions kind

  still_chosen : (kind : StepKind) → is_dereserved kind ≡ false → IsStepChoice (step_of seats applicants with_last kind) (with_last kind)
  still_chosen Dereserved own = absurd (cc)
  still_chosen kind own = choice.own kind own

  whole_choice : IsProgrammeChoice version seats applicants with_last
  whole_choice = record { own = still_chosen; dereserved = refl }

  still_admitted : (x : Person) (kind : StepKind) → IsAmong x (admissions kind) → IsAmong x (with_last kind)
  still_admitted x Dereserved here = absurd (subst (λ l. IsAmong x l) choice.nobody_else here)
  still_admitted x kind here = here

admits_still : (version : ℕ) (table : SeatTable) → Grows (rule_of_own_steps table) (rule_of version nobody table) (MayApplyIn table)
admits_still version table p people x may (Kept, keeps) = absurd (false≢true keeps.guaranteed_there)
admits_still version table p people x may (Under kind, a) =
    let seats = seats_in table p in
    let applicants = in_merit seats.list people in
    (Under kind, (with_last version seats applicants a.0 a.1, whole_choice version seats applicants a.0 a.1, still_admitted version seats applicants a.0 a.1 x kind a.2))

pub dereservation_hurts_nobody : ProgrammesChooseWell → DereservationHurtsNobody
dereservation_hurts_nobody well version table seekers seats others i s seat other ok here fair best there has has' =
    more_is_no_worse (rule_of_own_steps table) (rule_of version nobody table) (MayApplyIn table) (well version nobody table ok) (admits_still version table) (length table.programmes) i
    seekers seats others s seat other here fair best there has has'

pub dereservation_hurt_nobody : AreOrderly → DereservationHurtsNobody → (facts : SeasonFacts) → DereservationHurtNobody facts
dereservation_hurt_nobody orderly hurts facts entries state window round others i person other published fair at has =
    let order = order_of orderly facts entries state window round published in
    let table = matrix_then facts state window in
    let ok = order.course.seats (suc window) in
    let here = market table facts.people (lists_in_order facts) (all_sought_then facts state window) ok (may_enter facts state window published.sound order) in
    let made = made_then facts state window round order published.there in
    let mine = in_round facts state window i round person published.sound order published.there at in
    let result : rank_of mine.s.list mine.seat ≤ rank_of mine.s.list other =
    hurts facts.version table (market_then facts state window) others round.seats i mine.s other mine.seat ok here fair made.best mine.there has mine.has in
    subst (λ o. rank_of (wanted_then facts state window person.id.0) o ≤ rank_of (wanted_then facts state window person.id.0) other) (sym mine.seat_is)
    (subst (λ l. rank_of l mine.seat ≤ rank_of l other) mine.list_is result)
