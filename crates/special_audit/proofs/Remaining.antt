-- What final rows leave of a matrix is one.
use Rattle.std.proofs.Common.{◌≡◌, ◌≢◌, ◌<◌, ℕ, suc, Bool, true, false, List, [], ◌∷◌, Option, Some, None, length, map, arith, inl, inr, refl, sym, ap, ◌∙◌, subst, if◌then◌else◌}
use Rattle.std.specs.Prelude.{slice_index_or}
use Rattle.std.specs.List.{AllByRecursion}
use Rattle.std.proofs.lemmas.Bool.{cases_Bool}
use Rattle.office_base.specs.CategorySteps.{own_steps}
use Rattle.office_base.specs.Lists.{Pairwise}
use Rattle.office_base.specs.Merit.{in_merit}
use Rattle.office_base.specs.declared.person.ListId.{ListId}
use Rattle.office_base.specs.declared.person.Person.{Person}
use Rattle.office_base.specs.declared.step.StepKind.{StepKind}
use Rattle.placements.specs.Ranks.{AreDistinct}
use Rattle.slot_cert.specs.Laws.{OneCertificate}
use Rattle.merit_choice.proofs.InMerit.{all_in_merit, pairwise_with}
use Rattle.kept_rows.specs.declared.rows.AllotRow.{AllotRow}
use Rattle.rank_lists.specs.Register.{find_person}
use Rattle.seat_matrix.specs.Matrix.{AreSeats, SeatTable, list_in, seating_in, steps_in}
use Rattle.seat_matrix.specs.Seats.{is_dereserved, no_seatings, of_step}
use Rattle.seat_matrix.specs.declared.seats.Seating.{Seating}
use Rattle.seat_matrix.specs.declared.seats.Seatings.{Seatings}
use Rattle.seat_matrix.proofs.SeatsLemmas.{none_own}
use Rattle.special_round.specs.Remaining.{AreOwn, IsLeft, IsRemaining, protections_left, seats_left}
use Rattle.special_round.specs.Rows.{before_those, finals_of, is_row_of}
use Rattle.rank_lists.proofs.Known.{found_id as found_is}

-- ---- the persons of final rows are distinct

-- rows in rising order of id
abbrev pub Rising : List AllotRow → Type 0
Rising rows = Pairwise (λ a b. a.cand.0 < b.cand.0) rows

others_those : (person : Person) (passes : Bool) (found : Option Person) (persons : List Person) → ((other : Person) → found ≡ Some other → person.id ≢ other.id)
    → AllByRecursion (λ other. person.id ≢ other.id) persons → AllByRecursion (λ other. person.id ≢ other.id) (if passes then before_those found persons else persons)
others_those person true None persons here rest = rest
others_those person true (Some other) persons here rest = (here other refl, rest)
others_those person false found persons here rest = rest

other_finals : (people : List Person) (person : Person) (rows : List AllotRow) (prog : ℕ) (step : StepKind) → AllByRecursion (λ row. person.id.0 < row.cand.0) rows
    → AllByRecursion (λ other. person.id ≢ other.id) (finals_of people rows prog step)
other_finals people person [] prog step less = tt
other_finals people person (row ∷ rows) prog step less =
    others_those person (is_row_of prog step row) (find_person row.cand.0 people) (finals_of people rows prog step)
    (λ other found same. absurd (let is = found_is row.cand.0 people other found in let e = ap (λ c. c.0) same in let l = less.0 in omega (arith, is, e, l)))
    (other_finals people person rows prog step less.1)

distinct_those : (passes : Bool) (found : Option Person) (persons : List Person) → ((person : Person) → found ≡ Some person → AllByRecursion (λ other. person.id ≢ other.id) persons)
    → AreDistinct persons → AreDistinct (if passes then before_those found persons else persons)
distinct_those true None persons here rest = rest
distinct_those true (Some person) persons here rest = (here person refl, rest)
distinct_those false found persons here rest = rest

later_rows : (id : ℕ) (person : Person) (rows : List AllotRow) → person.id.0 ≡ id → AllByRecursion (λ (row : AllotRow). id < row.cand.0) rows → AllByRecursion (λ (row : AllotRow). person.id.0 < row.cand.0) rows
later_rows id person rows is less = subst (λ n. AllByRecursion (λ (row : AllotRow). n < row.cand.0) rows) (sym is) less

distinct_finals : (people : List Person) (rows : List AllotRow) (prog : ℕ) (step : StepKind) → Rising rows → AreDistinct (finals_of people rows prog step)
distinct_finals people [] prog step rising = tt
distinct_finals people (row ∷ rows) prog step rising =
    distinct_those (is_row_of prog step row) (find_person row.cand.0 people) (finals_of people rows prog step)
    (λ person found. other_finals people person rows prog step (later_rows row.cand.0 person rows (found_is row.cand.0 people person found) rising.0))
    (distinct_finals people rows prog step rising.1)

distinct_in_merit : (list : ListId) (people : List Person) → AreDistinct people → AreDistinct (in_merit list people)
distinct_in_merit list [] distinct = tt
distinct_in_merit list (person ∷ people) distinct =
    pairwise_with (λ a b. a.id ≢ b.id) list person (in_merit list people) (λ a b apart same. apart (sym same)) (all_in_merit (λ other. person.id ≢ other.id) list people distinct.0)
    (distinct_in_merit list people distinct.1)

-- ---- the seats of a step

same_seating : (left other : Seating) → left.seats ≡ other.seats → left.protections.counts ≡ other.protections.counts → left ≡ other
same_seating left other seats counts = λ i. record { seats = seats i; protections = record { counts = counts i } }

one_left : OneCertificate → (list : ListId) (old : Seating) (persons : List Person) (seats : ℕ) (left other : Seating) → AreDistinct (in_merit list persons) → IsLeft list old persons seats left
    → IsLeft list old persons seats other → left ≡ other
one_left one list old persons seats left other distinct first second =
    let pairs = one old.protections (in_merit list persons) first.pairs second.pairs distinct first.canonical second.canonical in
    same_seating left other (first.seats_are ∙ sym second.seats_are)
    (first.protections ∙ (ap (λ held. protections_left 0 old.protections.counts held seats) pairs ∙ sym second.protections))

-- ---- the matrix

-- the seats of a programme are those of its steps, so two are the same where each step with seats of its own has the same
same_steps : (left other : Seatings) → AreOwn left → AreOwn other → ((step : StepKind) → is_dereserved step ≡ false → of_step left step ≡ of_step other step) → left ≡ other
same_steps left other own own' same =
    let each : (step : StepKind) → of_step left step ≡ of_step other step = λ step. elim (cases_Bool (is_dereserved step)) [
      | inl last ↦ none_own left step last ∙ sym (none_own other step last)
      | inr first ↦ same step first
    ] in
    let all = own ∙ (ap (λ (f : StepKind → Seating). map f own_steps) (λ i step. each step i) ∙ sym own') in
    λ i. record { own = all i }

each_step : (xs ys : List Seatings) → length xs ≡ length ys → ((k : ℕ) → k < length xs → slice_index_or xs k no_seatings ≡ slice_index_or ys k no_seatings) → xs ≡ ys
each_step [] [] full same = refl
each_step [] (y ∷ ys) full same = absurd (omega (arith, full))
each_step (x ∷ xs) [] full same = absurd (omega (arith, full))
each_step (x ∷ xs) (y ∷ ys) full same =
    ap (λ z. z ∷ xs) (same 0 (omega arith)) ∙ ap (λ rest. y ∷ rest) (each_step xs ys (omega (arith, full)) (λ k less. same (suc k) (omega (arith, less))))

same_table : (left other : SeatTable) → left.programmes ≡ other.programmes → left.steps ≡ other.steps → left ≡ other
same_table left other programmes steps = λ i. record { programmes = programmes i; steps = steps i }

-- The seats that final rows leave are one matrix.
pub one_remaining : OneCertificate → (people : List Person) (rows : List AllotRow) (table left other : SeatTable) → Rising rows → AreSeats left → AreSeats other → IsRemaining people rows table left
    → IsRemaining people rows table other → left ≡ other
one_remaining one people rows table left other rising seats seats' first second =
    same_table left other (first.programmes ∙ sym second.programmes) (each_step left.steps other.steps
    (seats.steps ∙ (ap length (first.programmes ∙ sym second.programmes) ∙ sym seats'.steps)) (λ k less. each k (within k less)))
  where
    within : (k : ℕ) → k < length left.steps → k < length table.programmes
    within k less = let full = seats.steps in let same = ap (λ l. length l) first.programmes in omega (arith, less, full, same)

    one_step : (k : ℕ) → k < length table.programmes → (step : StepKind) → is_dereserved step ≡ false → seating_in left k step ≡ seating_in other k step
    one_step k less step own =
        one_left one (list_in table k) (seating_in table k step) (finals_of people rows k step) (seats_left table rows k step) (seating_in left k step) (seating_in other k step)
        (distinct_in_merit (list_in table k) (finals_of people rows k step) (distinct_finals people rows k step rising)) (first.steps k step less own) (second.steps k step less own)

    each : (k : ℕ) → k < length table.programmes → steps_in left k ≡ steps_in other k
    each k less = same_steps (steps_in left k) (steps_in other k) (first.alone k less) (second.alone k less) (λ step own. one_step k less step own)
