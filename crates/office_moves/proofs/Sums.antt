-- Sums over the steps of a programme, and the seats of all programmes, one programme after another.
use Rattle.std.proofs.Common.{◌≡◌, ◌<◌, ◌≤◌, ◌+◌, ◌*◌, ◌-◌, ◌==◌, ◌&&◌, inl, inr, ℕ, zero, suc, Bool, true, false, List, [], ◌∷◌, Some, length, get_or, take, arith, refl, sym, ap, subst, if◌then◌else◌}
use Rattle.std.specs.Prelude.{slice_get, slice_index_or, sum_by}
use Rattle.std.proofs.lemmas.Bool.{cases_Bool, cases_eq, eq-eqb, ne_eqb}
use Rattle.std.proofs.lemmas.List.Sums.{get_or-le-sum_by, sum_by-cons, sum_by-le}
use Rattle.std.proofs.lemmas.Option.{get_or_from_slice_get}
use Rattle.office_base.specs.CategorySteps.{all_steps, own_steps}
use Rattle.office_base.specs.Limits.{most_raised_seats, most_step_seats}
use Rattle.office_base.specs.Lists.{IsAmong}
use Rattle.office_base.specs.StepNumbers.{step_number}
use Rattle.office_base.specs.declared.category_steps.CategoryStep.{CategoryStep}
use Rattle.office_base.specs.declared.step.StepKind.{StepKind}
use Rattle.office_base.proofs.StepNumbers.{below_all, number_at, one_number, own_at, own_number_at}
use Rattle.seat_matrix.specs.Matrix.{AreSeats, SeatTable}
use Rattle.seat_matrix.specs.Seats.{AreProgrammeSeats, is_dereserved, no_seating, no_seatings, of_step}
use Rattle.seat_matrix.specs.declared.seats.ProgrammeSeats.{ProgrammeSeats}
use Rattle.seat_matrix.specs.declared.seats.Seating.{Seating}
use Rattle.seat_matrix.specs.declared.seats.Seatings.{Seatings}
use Rattle.seat_matrix.proofs.SeatsLemmas.{made_at, none_own, own_number}
use Rattle.office_moves.specs.Raised.{seats_in_all, sum_of_seats, total_seats}

-- ---- sums over steps

-- the numbers of these steps rise from this one, one after another
abbrev pub AreNumbered : ℕ → List StepKind → Type 0
AreNumbered m kinds = (i : ℕ) (kind : StepKind) → slice_get kinds i ≡ Some kind → step_number kind ≡ m + i

later : (m : ℕ) (first : StepKind) (kinds : List StepKind) → AreNumbered m (first ∷ kinds) → AreNumbered (suc m) kinds
later m first kinds numbered i kind at = omega (arith, numbered (suc i) kind at)

-- where two sums have the same terms for all of these steps, they are the same
same_terms : (f g : StepKind → ℕ) (step : StepKind) (m : ℕ) (kinds : List StepKind) → AreNumbered m kinds → step_number step < m → ((kind : StepKind) → (kind ≡ step → ⊥) → g kind ≡ f kind)
    → sum_by g kinds ≡ sum_by f kinds
same_terms f g step m [] numbered above agree = omega arith
same_terms f g step m (kind ∷ kinds) numbered above agree =
    let here = agree kind (λ e. let n = ap step_number e in let k = numbered 0 kind refl in absurd (omega (arith, n, k, above))) in
    let rest = same_terms f g step (suc m) kinds (later m kind kinds numbered) (omega (arith, above)) agree in
    omega (arith, sum_by-cons f kind kinds, sum_by-cons g kind kinds, here, rest)

-- and where the terms differ for one of them alone, the sums differ as these do
one_term : (f g : StepKind → ℕ) (step : StepKind) (m : ℕ) (kinds : List StepKind) → AreNumbered m kinds → m ≤ step_number step → step_number step < m + length kinds
    → ((kind : StepKind) → (kind ≡ step → ⊥) → g kind ≡ f kind) → sum_by g kinds + f step ≡ sum_by f kinds + g step
one_term f g step m [] numbered least most agree = absurd (omega (arith, least, most))
one_term f g step m (kind ∷ kinds) numbered least most agree =
    let number = numbered 0 kind refl in
    let first = sum_by-cons f kind kinds in
    let second = sum_by-cons g kind kinds in
    elim (cases_eq (step_number kind) (step_number step)) [
      | inl same ↦
          let is = one_number kind step same in
          let rest = same_terms f g step (suc m) kinds (later m kind kinds numbered) (omega (arith, number, same)) agree in
          omega (arith, first, second, rest, ap f is, ap g is)
      | inr apart ↦
          let here = agree kind (λ e. apart (ap step_number e)) in
          let rest = one_term f g step (suc m) kinds (later m kind kinds numbered) (omega (arith, least, number, apart)) (omega (arith, most)) agree in
          omega (arith, first, second, rest, here)
    ]

-- of the steps with seats of their own
pub own_term : (f g : StepKind → ℕ) (step : StepKind) → is_dereserved step ≡ false → ((kind : StepKind) → (kind ≡ step → ⊥) → g kind ≡ f kind)
    → sum_by g own_steps + f step ≡ sum_by f own_steps + g step
own_term f g step own agree = one_term f g step 0 own_steps (λ i kind at. omega (arith, own_number_at i kind at)) (omega arith) (own_number step own) agree

-- of all steps
pub any_term : (f g : StepKind → ℕ) (step : StepKind) → ((kind : StepKind) → (kind ≡ step → ⊥) → g kind ≡ f kind) → sum_by g all_steps + f step ≡ sum_by f all_steps + g step
any_term f g step agree = one_term f g step 0 all_steps (λ i kind at. omega (arith, number_at i kind at)) (omega arith) (below_all step) agree

-- one more of a step is one more in all
pub one_more : (step : StepKind) (b : Bool) (f : StepKind → ℕ) (all : ℕ) → all ≡ sum_by f all_steps
    → (if b then suc all else all) ≡ sum_by (λ kind. if b && (step_number step == step_number kind) then suc (f kind) else f kind) all_steps
one_more step false f all same = same
one_more step true f all same =
    let g : StepKind → ℕ = λ kind. if step_number step == step_number kind then suc (f kind) else f kind in
    let more = any_term f g step (λ kind apart. ap (λ b. if b then suc (f kind) else f kind) (ne_eqb (step_number step) (step_number kind) (λ e. apart (sym (one_number step kind e))))) in
    let here : g step ≡ suc (f step) = ap (λ b. if b then suc (f step) else f step) (eq-eqb (step_number step) (step_number step) refl) in
    omega (arith, same, more, here)

-- ---- sums over rows of the table

-- two sums of the same terms are the same
pub rows_same : (f g : CategoryStep → ℕ) (rows : List CategoryStep) → ((row : CategoryStep) → IsAmong row rows → f row ≡ g row) → sum_by f rows ≡ sum_by g rows
rows_same f g [] same = refl
rows_same f g (row ∷ rows) same = omega (arith, sum_by-cons f row rows, sum_by-cons g row rows, same row (inl refl), rows_same f g rows (λ other there. same other (inr there)))

-- a sum of smaller terms is no more
pub rows_less : (f g : CategoryStep → ℕ) (rows : List CategoryStep) → ((row : CategoryStep) → IsAmong row rows → f row ≤ g row) → sum_by f rows ≤ sum_by g rows
rows_less f g [] less = omega arith
rows_less f g (row ∷ rows) less = omega (arith, sum_by-cons f row rows, sum_by-cons g row rows, less row (inl refl), rows_less f g rows (λ other there. less other (inr there)))

pub rows_plus : (f g : CategoryStep → ℕ) (rows : List CategoryStep) → sum_by (λ row. f row + g row) rows ≡ sum_by f rows + sum_by g rows
rows_plus f g [] = refl
rows_plus f g (row ∷ rows) = omega (arith, sum_by-cons f row rows, sum_by-cons g row rows, sum_by-cons (λ row. f row + g row) row rows, rows_plus f g rows)

-- what some took and what is left are what there was
pub rows_minus : (all some : CategoryStep → ℕ) (rows : List CategoryStep) → ((row : CategoryStep) → IsAmong row rows → some row ≤ all row)
    → sum_by some rows + sum_by (λ row. all row - some row) rows ≡ sum_by all rows
rows_minus all some rows within =
    let both = rows_plus some (λ row. all row - some row) rows in
    let same = rows_same (λ row. some row + (all row - some row)) all rows (λ row there. let w = within row there in omega (arith, w)) in
    omega (arith, both, same)

-- ---- the seats of a programme

of_all : (steps : Seatings) (step : StepKind) → (of_step steps step).seats ≤ seats_in_all steps
of_all steps step = elim (cases_Bool (is_dereserved step)) [
  | inl last ↦ subst (λ (s : Seating). s.seats ≤ seats_in_all steps) (sym (none_own steps step last)) (omega arith)
  | inr own ↦
      let f : StepKind → ℕ = λ kind. (of_step steps kind).seats in
      subst (λ kind. f kind ≤ sum_by f own_steps) (get_or_from_slice_get own_steps (step_number step) step step (own_at step (own_number step own)))
      (get_or-le-sum_by f own_steps (step_number step) step (own_number step own))
]

of_none : (step : StepKind) → of_step no_seatings step ≡ no_seating
of_none step = elim (cases_Bool (is_dereserved step)) [
  | inl last ↦ none_own no_seatings step last
  | inr own ↦ made_at (λ kind. no_seating) step own
]

-- each step has few seats
one_small : (seats : ProgrammeSeats) → AreProgrammeSeats seats → seats_in_all seats.steps ≤ length own_steps * most_step_seats
one_small seats sound = sum_by-le (λ step. (of_step seats.steps step).seats) most_step_seats own_steps (λ k d less. (sound.steps (get_or own_steps k d)).seats)

-- ---- the seats of all programmes

pub sum_more : (steps : List Seatings) (i : ℕ) → i < length steps → sum_of_seats (take (suc i) steps) ≡ sum_of_seats (take i steps) + seats_in_all (slice_index_or steps i no_seatings)
sum_more [] i less = absurd (omega (arith, less))
sum_more (s ∷ steps) zero less = omega arith
sum_more (s ∷ steps) (suc i) less = omega (arith, sum_more steps i (omega (arith, less)))

pub of_sum : (steps : List Seatings) (p : ℕ) (step : StepKind) → (of_step (slice_index_or steps p no_seatings) step).seats ≤ sum_of_seats steps
of_sum [] p step = subst (λ (s : Seating). s.seats ≤ 0) (sym (of_none step)) (omega arith)
of_sum (s ∷ steps) zero step = omega (arith, of_all s step)
of_sum (s ∷ steps) (suc p) step = omega (arith, of_sum steps p step)

-- the seats of some programmes are no more than those of all
pub sum_part : (steps : List Seatings) (i : ℕ) → sum_of_seats (take i steps) ≤ sum_of_seats steps
sum_part [] zero = omega arith
sum_part [] (suc i) = omega arith
sum_part (s ∷ steps) zero = omega arith
sum_part (s ∷ steps) (suc i) = omega (arith, sum_part steps i)

sum_few : (n : ℕ) (steps : List Seatings) → ((p : ℕ) → p < length steps → seats_in_all (slice_index_or steps p no_seatings) ≤ n) → sum_of_seats steps ≤ n * length steps
sum_few n [] few = omega arith
sum_few n (s ∷ steps) few = omega (arith, few 0 (omega arith), sum_few n steps (λ p less. few (suc p) (omega (arith, less))))

-- the seats of every matrix are few
pub sum_small : (table : SeatTable) → AreSeats table → total_seats table ≤ most_raised_seats
sum_small table sound =
    let each = sum_few (length own_steps * most_step_seats) table.steps (λ p less. one_small _ (sound.sound p (omega (arith, less, sound.steps)))) in
    omega (arith, each, sound.steps, sound.few)
