-- The lists of a published round are of steps whose seats hold a choice.
use Rattle.std.proofs.Common.{◌≡◌, ◌<◌, ℕ, zero, suc, List, Option, Some, None, length, arith, refl, ap, ◌∙◌, subst}
use Rattle.std.specs.Prelude.{slice_get}
use Rattle.std.proofs.lemmas.Option.{slice_get_within}
use Rattle.office_base.specs.declared.step.StepKind.{StepKind}
use Rattle.office_base.proofs.Lists.{all_weaker}
use Rattle.merit_choice.specs.State.{IsStepKept}
use Rattle.allocations.specs.Market.{applicants}
use Rattle.allocations.proofs.Claims.{applicants_may}
use Rattle.kept_rows.specs.declared.rows.RaiseRow.{RaiseRow}
use Rattle.seat_matrix.specs.Matrix.{seats_in}
use Rattle.seat_matrix.specs.Seats.{seats_of}
use Rattle.programme_lists.specs.declared.programme.Programme.{Programme}
use Rattle.programme_lists.specs.declared.programme.StepList.{StepList}
use Rattle.programme_cutoffs.specs.Laws.{ListsAreKept}
use Rattle.list_cutoffs.specs.Cutoffs.{AreKeptListed, kept_listed}
use Rattle.rounds.specs.Rule.{MayApplyIn, ProgrammesChooseWell, nobody, rule_of, seekers_of}
use Rattle.rounds.specs.declared.round.Round.{Round}
use Rattle.rounds.proofs.Entrants.{market}
use Rattle.office_moves.specs.Facts.{IsSound, SeasonFacts, lists_in_order}
use Rattle.office_moves.specs.State.{State, round_at}
use Rattle.office_moves.specs.Moves.{programme_in}
use Rattle.office_moves.specs.Raised.{matrix_of_round, raised}
use Rattle.office_moves.proofs.Grows.{none_raised}
use Rattle.history_laws.specs.Course.{IsCourse, seeks_then}
use Rattle.history_laws.specs.Laws.{ListsHoldChoices}
use Rattle.history_laws.proofs.Entering.{entrants}

-- ---- raises leave merit lists and protections

module _ (facts : SeasonFacts) (state : State) (course : IsCourse facts state) (prog : ℕ) where
  same_list : (n : ℕ) → (seats_in (matrix_of_round facts state n) prog).list ≡ (seats_in facts.matrix prog).list
  same_list zero = ap (λ (rows : List RaiseRow). (seats_in (raised facts.matrix rows) prog).list) (none_raised state.raises)
  same_list (suc n) = ((course.raised n).seats prog).list ∙ same_list n

  same_protections : (n : ℕ) (step : StepKind) → (seats_of (seats_in (matrix_of_round facts state n) prog) step).protections ≡ (seats_of (seats_in facts.matrix prog) step).protections
  same_protections zero step = ap (λ (rows : List RaiseRow). (seats_of (seats_in (raised facts.matrix rows) prog) step).protections) (none_raised state.raises)
  same_protections (suc n) step = ((course.raised n).seats prog).protections step ∙ same_protections n step

  -- so a list is of the same step
  same_kept : (n : ℕ) (list : StepList) → kept_listed (seats_in (matrix_of_round facts state n) prog) list ≡ kept_listed (seats_in facts.matrix prog) list
  same_kept n list = let merit = same_list n in let protections = same_protections n list.kind in λ i. record { list = merit i; seats = list.seats; protections = protections i; held = list.admitted }

-- ---- each list

kept_in : (facts : SeasonFacts) (state : State) (before : ℕ) (round : Round) (prog : ℕ) (programme : Programme) → IsSound facts → ProgrammesChooseWell → ListsAreKept → IsCourse facts state
    → slice_get state.rounds before ≡ Some round → slice_get round.programmes prog ≡ Some programme → AreKeptListed (seats_in facts.matrix prog) programme.steps
kept_in facts state before round prog programme sound well kept course is there =
    let table = matrix_of_round facts state (suc before) in
    let seats = course.seats (suc before) in
    let made = course.made before round is in
    let seekers = seekers_of table facts.people (lists_in_order facts) (seeks_then facts state before) in
    let people = applicants prog seekers round.seats in
    let inside = slice_get_within round.programmes prog programme there in
    let count = made.count in
    let below : prog < length table.programmes = omega (arith, inside, count) in
    let enter = market table facts.people (lists_in_order facts) (seeks_then facts state before) seats (entrants facts table sound (course.programmes (suc before))) in
    let may = applicants_may (rule_of facts.version nobody table) (MayApplyIn table) (length table.programmes) prog seekers round.seats enter (well facts.version nobody table seats) below
    made.best.fair.allocation.full in
    all_weaker (λ (list : StepList). IsStepKept (kept_listed (seats_in table prog) list)) (λ (list : StepList). IsStepKept (kept_listed (seats_in facts.matrix prog) list))
    (λ list holds. subst IsStepKept (same_kept facts state course prog (suc before) list) holds) programme.steps
    (kept facts.version (seats_in table prog) people programme (seats.sound prog below) may (made.shown prog programme there))

pub lists_hold_choices : ProgrammesChooseWell → ListsAreKept → ListsHoldChoices
lists_hold_choices well kept facts state number prog programme sound orderly there = go number there
  where
    of_round : (before : ℕ) (o : Option Round) → slice_get state.rounds before ≡ o → programme_in o prog ≡ Some programme → AreKeptListed (seats_in facts.matrix prog) programme.steps
    of_round before None is there = absurd (cc)
    of_round before (Some round) is there = kept_in facts state before round prog programme sound well kept orderly.course is there

    go : (number : ℕ) → programme_in (round_at state.rounds number) prog ≡ Some programme → AreKeptListed (seats_in facts.matrix prog) programme.steps
    go zero there = absurd (cc)
    go (suc before) there = of_round before (slice_get state.rounds before) refl there
