-- The final rows of a season are seats of its last round, so they fit into the raised matrix.
use Rattle.std.proofs.Common.{◌≡◌, ◌<◌, ◌≤◌, ◌+◌, ◌-◌, ◌⊎◌, inl, inr, ℕ, zero, suc, Bool, true, false, List, [], ◌∷◌, Option, Some, None, length, arith, refl, sym, ap, ◌∙◌, subst, ◌==◌, ◌&&◌, if◌then◌else◌}
use Rattle.std.specs.Prelude.{slice_get}
use Rattle.std.proofs.lemmas.Bool.{cases_Bool, cases_lt, cond-false, cond-true}
use Rattle.office_base.specs.CategorySteps.{category_steps}
use Rattle.office_base.specs.SeatKinds.{seat_kind_number}
use Rattle.office_base.specs.StepNumbers.{step_number}
use Rattle.office_base.specs.declared.seat.Seat.{Seat}
use Rattle.office_base.specs.declared.person.CandId.{CandId}
use Rattle.office_base.specs.declared.person.Person.{Person}
use Rattle.office_base.specs.declared.step.StepKind.{StepKind}
use Rattle.office_base.proofs.Lists.{there_is}
use Rattle.office_base.proofs.Options.{is_some_from}
use Rattle.kept_rows.specs.declared.rows.AllotRow.{AllotRow}
use Rattle.seat_matrix.specs.Matrix.{SeatTable, seating_in}
use Rattle.rounds.specs.Rule.{IsRaised}
use Rattle.rounds.specs.declared.round.Round.{Round}
use Rattle.round_options.specs.Options.{holds}
use Rattle.office_moves.specs.Facts.{IsSound, SeasonFacts, lists_in_order}
use Rattle.office_moves.specs.Moves.{row_before, rows_along}
use Rattle.office_moves.specs.Promise.{kept_to_the_end, standing_then}
use Rattle.office_moves.specs.Raised.{matrix_at, matrix_of_round}
use Rattle.office_moves.specs.State.{State, seat_in}
use Rattle.history_laws.specs.Course.{seeks_then}
use Rattle.history_laws.specs.Orderly.{IsOrderly}
use Rattle.history_laws.proofs.Fits.{seat_there}
use Rattle.history_laws.proofs.Entering.{entrants}
use Rattle.office_moves.proofs.Sums.{rows_less}
use Rattle.special_round.specs.Laws.{FinalsFit, FitInto, RoundsFit}
use Rattle.special_round.specs.Remaining.{may_be_taken}
use Rattle.special_round.specs.Rows.{is_seat_of, rows_of_step, seats_of_step}
use Rattle.special_round.proofs.Fitting.{fewer_fit}

-- ---- rows along the people are no more than their seats

more_one : (b : Bool) (m n : ℕ) → m ≤ n → (if b then suc m else m) ≤ (if b then suc n else n)
more_one true m n less = omega (arith, less)
more_one false m n less = less

none_less : (b : Bool) (m n : ℕ) → m ≤ n → m ≤ (if b then suc n else n)
none_less true m n less = omega (arith, less)
none_less false m n less = less

-- a row is made of no seat, or of the one at the place
row_less : (number prog : ℕ) (step : StepKind) (cand : CandId) (given seat : Option Seat) (rows : List AllotRow) (n : ℕ) → (given ≡ None) ⊎ (given ≡ seat) → rows_of_step rows prog step ≤ n
    → rows_of_step (row_before number cand given rows) prog step ≤ (if is_seat_of prog step seat then suc n else n)
row_less number prog step cand given seat rows n (inl none) less =
    subst (λ g. rows_of_step (row_before number cand g rows) prog step ≤ (if is_seat_of prog step seat then suc n else n)) (sym none) (none_less (is_seat_of prog step seat) _ n less)
row_less number prog step cand given None rows n (inr same) less =
    subst (λ g. rows_of_step (row_before number cand g rows) prog step ≤ n) (sym same) less
row_less number prog step cand given (Some seat) rows n (inr same) less =
    subst (λ g. rows_of_step (row_before number cand g rows) prog step ≤ (if is_seat_of prog step (Some seat) then suc n else n)) (sym same)
    (more_one ((seat.prog.0 == prog) && (seat_kind_number seat.step == step_number step)) _ n less)

pub rows_few : (number prog : ℕ) (step : StepKind) (given : ℕ → Option Seat) (people : List Person) (seats : List (Option Seat)) → length seats ≡ length people
    → ((i : ℕ) (person : Person) (seat : Option Seat) → slice_get people i ≡ Some person → slice_get seats i ≡ Some seat → (given person.id.0 ≡ None) ⊎ (given person.id.0 ≡ seat))
    → rows_of_step (rows_along number given people) prog step ≤ seats_of_step seats prog step
rows_few number prog step given [] [] full each = omega arith
rows_few number prog step given [] (seat ∷ seats) full each = absurd (omega (arith, full))
rows_few number prog step given (person ∷ people) [] full each = absurd (omega (arith, full))
rows_few number prog step given (person ∷ people) (seat ∷ seats) full each =
    row_less number prog step person.id (given person.id.0) seat (rows_along number given people) (seats_of_step seats prog step) (each 0 person seat refl refl)
    (rows_few number prog step given people seats (omega (arith, full)) (λ i. each (suc i)))

-- ---- what fits into fewer seats fits into more

pub more_seats : (table more : SeatTable) (prog : ℕ) (held : StepKind → ℕ) → IsRaised table more → FitInto table prog held → FitInto more prog held
more_seats table more prog held raised fit = record {
  own = λ step own. let a = fit.own step own in let b = (raised.seats prog).seats step in omega (arith, a, b);
  dereserved =
      let a = fit.dereserved in
      let more_left = rows_less (λ row. if may_be_taken row then (seating_in table prog row.step).seats - held row.step else 0) (λ row. if may_be_taken row then (seating_in more prog row.step).seats - held row.step else 0)
      category_steps (λ row there. by (may_be_taken row) (seating_in table prog row.step).seats (seating_in more prog row.step).seats (held row.step) ((raised.seats prog).seats row.step)) in
      omega (arith, a, more_left);
}
  where
    by : (b : Bool) (s t n : ℕ) → s ≤ t → (if b then s - n else 0) ≤ (if b then t - n else 0)
    by true s t n less = omega (arith, less)
    by false s t n less = omega arith

-- ---- the season

-- the seat with which somebody ends is none, or that of the last round
kept_or_none : (facts : SeasonFacts) (state : State) (id : ℕ) → (kept_to_the_end facts state id ≡ None) ⊎ (kept_to_the_end facts state id ≡ seat_in facts state.rounds facts.rounds id)
kept_or_none facts state id = elim (cases_Bool (holds (standing_then facts state facts.rounds id))) [
  | inl stays ↦ inr (cond-true (holds (standing_then facts state facts.rounds id)) (seat_in facts state.rounds facts.rounds id) None stays)
  | inr away ↦ inl (cond-false (holds (standing_then facts state facts.rounds id)) (seat_in facts state.rounds facts.rounds id) None away)
]

-- once the final rows are there, all cuts were made
all_cuts : (facts : SeasonFacts) (state : State) (rows : List AllotRow) → IsOrderly facts state → state.finals ≡ Some rows → state.now ≡ facts.rounds + 1
all_cuts facts state rows orderly finals = elim (cases_lt facts.rounds state.now) [
  | inl over ↦ let a = orderly.now in omega (arith, a, over)
  | inr before ↦ absurd (let none = orderly.unfinished before in let e : None ≡ Some rows = sym none ∙ finals in cc)
]

last_fit : (facts : SeasonFacts) (state : State) (rows : List AllotRow) (prog before : ℕ) → RoundsFit → IsSound facts → IsOrderly facts state → state.finals ≡ Some rows
    → prog < length facts.matrix.programmes → facts.rounds ≡ suc before → FitInto (matrix_of_round facts state (suc before)) prog (rows_of_step rows prog)
last_fit facts state rows prog before fits sound orderly finals below number =
    let course = orderly.course in
    let published : length state.rounds ≡ facts.rounds = course.last (is_some_from state.finals rows finals) in
    let last = there_is state.rounds before (omega (arith, published, number)) in
    let round : Round = last.0 in
    let table = matrix_of_round facts state (suc before) in
    let made = orderly.alone before round last.1 in
    let same = course.programmes (suc before) in
    let fit = fits facts.version (before + 1) table facts.people (lists_in_order facts) (seeks_then facts state before) round prog (course.seats (suc before))
    (entrants facts table sound same) made (subst (λ l. prog < length l) (sym same) below) in
    fewer_fit table prog (rows_of_step rows prog) (seats_of_step round.seats prog)
    (λ step. subst (λ l. rows_of_step l prog step ≤ seats_of_step round.seats prog step) (sym (course.finals rows finals))
    (rows_few (facts.rounds + 1) prog step (kept_to_the_end facts state) facts.people round.seats (orderly.entries before round last.1)
    (λ i person seat at at'. elim (kept_or_none facts state person.id.0) [
      | inl none ↦ inl none
      | inr kept ↦ inr (kept ∙ (ap (λ n. seat_in facts state.rounds n person.id.0) number ∙ seat_there facts state.rounds before i round person seat sound last.1 at at'))
    ])))
    fit

pub finals_fit : RoundsFit → FinalsFit
finals_fit fits facts state rows prog sound orderly finals below = go facts.rounds refl
  where
    go : (n : ℕ) → facts.rounds ≡ n → FitInto (matrix_at facts state) prog (rows_of_step rows prog)
    go zero number = absurd (let a = sound.rounds.0 in omega (arith, a, number))
    go (suc before) number =
        let course = orderly.course in
        let now : state.now ≡ suc (suc before) = (let a = all_cuts facts state rows orderly finals in omega (arith, a, number)) in
        let last = last_fit facts state rows prog before fits sound orderly finals below number in
        let next = more_seats _ _ prog (rows_of_step rows prog) (course.raised (suc before)) last in
        let end = more_seats _ _ prog (rows_of_step rows prog) (course.raised (suc (suc before))) next in
        let same : matrix_at facts state ≡ matrix_of_round facts state (suc (suc (suc before))) = orderly.matrix ∙ ap (λ n. matrix_of_round facts state (suc n)) now in
        subst (λ (t : SeatTable). FitInto t prog (rows_of_step rows prog)) (sym same) end
