-- Final rows and the seats of a round over what they left are together within the seats of a programme.
use Rattle.std.proofs.Common.{◌≡◌, ◌<◌, ◌≤◌, ◌+◌, ◌-◌, inl, inr, ℕ, suc, Bool, true, false, List, [], ◌∷◌, Option, Some, None, length, arith, refl, sym, ap, ◌∙◌, subst, nat_lt, ◌==◌, ◌&&◌, if◌then◌else◌}
use Rattle.std.specs.Prelude.{sum_by}
use Rattle.std.proofs.lemmas.Bool.{and_parts, le-ltb, lt-ltb, ltb-true}
use Rattle.std.proofs.lemmas.List.Sums.{sum_by-cons}
use Rattle.office_base.specs.CategorySteps.{all_steps, category_steps}
use Rattle.office_base.specs.Lists.{IsAmong}
use Rattle.office_base.specs.SeatKinds.{seat_kind_number}
use Rattle.office_base.specs.StepNumbers.{step_number}
use Rattle.office_base.specs.declared.seat.Seat.{Seat}
use Rattle.office_base.specs.declared.seat.SeatKind.{SeatKind}
use Rattle.office_base.specs.declared.seat.SeatKind.TheVariants.{Kept, Under}
use Rattle.office_base.specs.declared.category_steps.CategoryStep.{CategoryStep}
use Rattle.office_base.specs.declared.step.StepKind.{StepKind}
use Rattle.office_base.specs.declared.step.StepKind.TheVariants.{Open, Dereserved}
use Rattle.kept_rows.specs.declared.rows.AllotRow.{AllotRow}
use Rattle.seat_matrix.specs.Matrix.{seating_in}
use Rattle.programme_lists.proofs.Table.{row_facts}
use Rattle.office_moves.proofs.Sums.{one_more, rows_less, rows_minus, rows_same}
use Rattle.special_round.specs.Laws.{RoundsFit, TogetherWithin}
use Rattle.special_round.specs.Remaining.{may_be_taken, own_left, taken_from}
use Rattle.special_round.specs.Rows.{is_of_a_step, rows_in, rows_of_step, seats_held, seats_of_step}

-- ---- all steps together

-- a kept seat is one of no step
beside : (f : StepKind → ℕ) (step : StepKind) → f step ≡ (if seat_kind_number Kept == step_number step then suc (f step) else f step)
beside f Open = refl
beside f step = refl

-- one more of a step is one more of all steps, and one more that is kept is none
one_of : (kind : SeatKind) (b : Bool) (f : StepKind → ℕ) (all : ℕ) → all ≡ sum_by f all_steps
    → (if b && is_of_a_step kind then suc all else all) ≡ sum_by (λ step. if b && (seat_kind_number kind == step_number step) then suc (f step) else f step) all_steps
one_of (Under step) true f all same = one_more step true f all same
one_of (Under step) false f all same = same
one_of Kept true f all same = same ∙ ap (λ (g : StepKind → ℕ). sum_by g all_steps) (λ i step. beside f step i)
one_of Kept false f all same = same

-- the rows of a programme are those of its steps
pub rows_split : (rows : List AllotRow) (prog : ℕ) → rows_in rows prog ≡ sum_by (rows_of_step rows prog) all_steps
rows_split [] prog = refl
rows_split (row ∷ rows) prog = one_of row.step (row.prog.0 == prog) (rows_of_step rows prog) (rows_in rows prog) (rows_split rows prog)

-- and so are its seats
pub seats_split : (seats : List (Option Seat)) (prog : ℕ) → seats_held seats prog ≡ sum_by (seats_of_step seats prog) all_steps
seats_split [] prog = refl
seats_split (None ∷ seats) prog = seats_split seats prog
seats_split (Some seat ∷ seats) prog = one_of seat.step (seat.prog.0 == prog) (seats_of_step seats prog) (seats_held seats prog) (seats_split seats prog)

-- ---- what rows of the de-reserved step take

-- the numbers of these rows rise, from one above this number
abbrev rise_from : ℕ → List CategoryStep → Bool
rise_from n [] = true
rise_from n (row ∷ rows) = nat_lt n (step_number row.step) && rise_from (step_number row.step) rows

above : (n : ℕ) (rows : List CategoryStep) (row : CategoryStep) → rise_from n rows ≡ true → IsAmong row rows → n < step_number row.step
above n [] row rise there = absurd there
above n (first ∷ rows) row rise there =
    let parts = and_parts (nat_lt n (step_number first.step)) (rise_from (step_number first.step) rows) rise in
    let less = ltb-true n (step_number first.step) parts.0 in
    elim there [
      | inl same ↦ subst (λ r. n < step_number r.step) (sym same) less
      | inr later ↦ let far = above (step_number first.step) rows row parts.1 later in omega (arith, less, far)
    ]

-- what a row has, if its seats may be taken
abbrev given : (CategoryStep → ℕ) → CategoryStep → ℕ
given own row = if may_be_taken row then own row else 0

-- what of that is behind a step of this number
abbrev behind : (CategoryStep → ℕ) → ℕ → List CategoryStep → ℕ
behind own n rows = sum_by (λ row. if may_be_taken row && nat_lt n (step_number row.step) then own row else 0) rows

-- what is taken of a row
abbrev taken : (CategoryStep → ℕ) → ℕ → List CategoryStep → CategoryStep → ℕ
taken own dereserved rows row = if may_be_taken row then dereserved - behind own (step_number row.step) rows else 0

-- behind a number below those of all rows is all that is given
behind_all : (own : CategoryStep → ℕ) (n : ℕ) (rows : List CategoryStep) → ((row : CategoryStep) → IsAmong row rows → n < step_number row.step) → behind own n rows ≡ sum_by (given own) rows
behind_all own n rows each = rows_same _ _ rows (λ row there. one (may_be_taken row) (nat_lt n (step_number row.step)) (own row) (lt-ltb n (step_number row.step) (each row there)))
  where
    one : (b less : Bool) (k : ℕ) → less ≡ true → (if b && less then k else 0) ≡ (if b then k else 0)
    one true less k e = ap (λ c. if c then k else 0) e
    one false less k e = refl

-- a row in front counts for nothing behind a step that follows it
behind_later : (own : CategoryStep → ℕ) (n : ℕ) (first : CategoryStep) (rows : List CategoryStep) → step_number first.step ≤ n → behind own n (first ∷ rows) ≡ behind own n rows
behind_later own n first rows before =
    let f : CategoryStep → ℕ = λ row. if may_be_taken row && nat_lt n (step_number row.step) then own row else 0 in
    let none = one (may_be_taken first) (nat_lt n (step_number first.step)) (own first) (le-ltb n (step_number first.step) before) in
    omega (arith, sum_by-cons f first rows, none)
  where
    one : (b less : Bool) (k : ℕ) → less ≡ false → (if b && less then k else 0) ≡ 0
    one true less k e = ap (λ c. if c then k else 0) e
    one false less k e = refl

-- The seats that remain, and those that were taken of all that is given, are all seats.
all_taken : (own : CategoryStep → ℕ) (dereserved n : ℕ) (rows : List CategoryStep) → rise_from n rows ≡ true
    → sum_by (λ row. own row - taken own dereserved rows row) rows + (dereserved - (dereserved - sum_by (given own) rows)) ≡ sum_by own rows
all_taken own dereserved n [] rise = omega arith
all_taken own dereserved n (first ∷ rows) rise =
    let parts = and_parts (nat_lt n (step_number first.step)) (rise_from (step_number first.step) rows) rise in
    let all : List CategoryStep = first ∷ rows in
    let rest = all_taken own dereserved (step_number first.step) rows parts.1 in
    let far = above (step_number first.step) rows in
    let here : behind own (step_number first.step) all ≡ sum_by (given own) rows =
    behind_later own (step_number first.step) first rows (omega arith) ∙ behind_all own (step_number first.step) rows (λ row there. far row parts.1 there) in
    let same = rows_same (λ row. own row - taken own dereserved all row) (λ row. own row - taken own dereserved rows row) rows
    (λ row there. ap (λ k. own row - (if may_be_taken row then dereserved - k else 0)) (behind_later own (step_number row.step) first rows (let less = far row parts.1 there in omega (arith, less)))) in
    let one = by (may_be_taken first) (own first) dereserved (behind own (step_number first.step) all) (sum_by (given own) rows) (sum_by (λ row. own row - taken own dereserved rows row) rows) (sum_by own rows) here rest in
    omega (arith, sum_by-cons (λ row. own row - taken own dereserved all row) first rows, sum_by-cons (given own) first rows, sum_by-cons own first rows, same, one)
  where
    by : (b : Bool) (o d k g rest all : ℕ) → k ≡ g → rest + (d - (d - g)) ≡ all
        → ((o - (if b then d - k else 0)) + rest) + (d - (d - ((if b then o else 0) + g))) ≡ o + all
    by true o d k g rest all same e = omega (arith, same, e)
    by false o d k g rest all same e = omega (arith, same, e)

-- ---- numbers

-- what is held of what each row has left, and of what they left in their turn, is no more than there was
held_within : (left held : CategoryStep → ℕ) (dereserved : ℕ) (rows : List CategoryStep) → ((row : CategoryStep) → IsAmong row rows → held row ≤ left row)
    → dereserved ≤ sum_by (given (λ row. left row - held row)) rows → sum_by held rows + dereserved ≤ sum_by left rows
held_within left held dereserved rows within few =
    let whole = rows_minus left held rows within in
    let some = rows_less (given (λ row. left row - held row)) (λ row. left row - held row) rows (λ row there. at_most (may_be_taken row) (left row - held row)) in
    omega (arith, whole, some, few)
  where
    at_most : (b : Bool) (k : ℕ) → (if b then k else 0) ≤ k
    at_most true k = omega arith
    at_most false k = omega arith

-- ---- the programme

pub together_within : RoundsFit → TogetherWithin
together_within fits version number table left people lists seeks rows round prog seats is rowsfit entrants made below =
    let heldfit = fits version number left people lists seeks round prog seats entrants made (subst (λ l. prog < length l) (sym is.programmes) below) in
    let r : StepKind → ℕ = rows_of_step rows prog in
    let h : StepKind → ℕ = seats_of_step round.seats prog in
    let own : StepKind → ℕ = λ step. (seating_in table prog step).seats in
    let rest : StepKind → ℕ = λ step. (seating_in left prog step).seats in
    let o : CategoryStep → ℕ = λ row. own_left table rows prog row.step in
    let d : ℕ = r Dereserved in
    let open_left : rest Open ≡ own Open - r Open = (let e = (is.steps prog Open below refl).seats_are in omega (arith, e)) in
    let open_rows = rowsfit.own Open refl in
    let open_held = heldfit.own Open refl in
    let rows_held = rows_minus (λ row. own row.step) (λ row. r row.step) category_steps (λ row there. rowsfit.own row.step (row_facts row there).own) in
    let row_left : (row : CategoryStep) → IsAmong row category_steps → rest row.step ≡ o row - taken o d category_steps row = λ row there.
    (is.steps prog row.step below (row_facts row there).own).seats_are ∙ ap (λ found. o row - taken_from (own_left table rows prog) d found) (row_facts row there).found in
    let same = rows_same (λ row. rest row.step) (λ row. o row - taken o d category_steps row) category_steps row_left in
    let all = all_taken o d 0 category_steps refl in
    let held = held_within (λ row. rest row.step) (λ row. h row.step) (h Dereserved) category_steps (λ row there. heldfit.own row.step (row_facts row there).own) heldfit.dereserved in
    let few : d ≤ sum_by (given o) category_steps = rowsfit.dereserved in
    omega (arith, rows_split rows prog, seats_split round.seats prog, open_left, open_rows, open_held, rows_held, same, all, held, few)
