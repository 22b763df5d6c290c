-- The rows of a programme alone say as much of its steps as all rows do.
use Rattle.std.proofs.Common.{◌≡◌, ◌-◌, ℕ, suc, Bool, true, false, List, [], ◌∷◌, refl, sym, ap, subst, ◌==◌, ◌&&◌, if◌then◌else◌}
use Rattle.std.specs.List.{filter}
use Rattle.office_base.specs.CategorySteps.{row_of}
use Rattle.office_base.specs.Merit.{CanBeRanked}
use Rattle.office_base.specs.SeatKinds.{seat_kind_number}
use Rattle.office_base.specs.StepNumbers.{step_number}
use Rattle.office_base.specs.declared.person.Person.{Person}
use Rattle.office_base.specs.declared.step.StepKind.{StepKind}
use Rattle.office_base.specs.declared.step.StepKind.TheVariants.{Dereserved}
use Rattle.kept_rows.specs.declared.rows.AllotRow.{AllotRow}
use Rattle.rank_lists.specs.Register.{find_person}
use Rattle.seat_matrix.specs.Matrix.{SeatTable, list_in, seating_in}
use Rattle.seat_matrix.specs.declared.seats.Seating.{Seating}
use Rattle.special_round.specs.Remaining.{IsLeft, seats_left, taken_from}
use Rattle.special_round.specs.Rows.{before_those, finals_of, how_many, is_row_in, is_row_of, rows_of_step}
use Rattle.special_round.specs.Set.{AreLeftIn, IsLeftOf}

-- the rows of the programme
abbrev pub own_rows : List AllotRow → ℕ → List AllotRow
own_rows rows prog = filter (is_row_in prog) rows

more_if : (b c : Bool) (test : AllotRow → Bool) (row : AllotRow) (own : List AllotRow) (n : ℕ) → test row ≡ (b && c) → how_many test own ≡ n
    → how_many test (if b then row ∷ own else own) ≡ (if b && c then suc n else n)
more_if true c test row own n is same = rw (is, same) refl
more_if false c test row own n is same = same

pub count_own : (rows : List AllotRow) (prog : ℕ) (step : StepKind) → rows_of_step (own_rows rows prog) prog step ≡ rows_of_step rows prog step
count_own [] prog step = refl
count_own (row ∷ rows) prog step =
    more_if (row.prog.0 == prog) (seat_kind_number row.step == step_number step) (is_row_of prog step) row (own_rows rows prog) (rows_of_step rows prog step) refl (count_own rows prog step)

persons_if : (people : List Person) (b c : Bool) (prog : ℕ) (step : StepKind) (row : AllotRow) (own : List AllotRow) (persons : List Person) → is_row_of prog step row ≡ (b && c)
    → finals_of people own prog step ≡ persons
    → finals_of people (if b then row ∷ own else own) prog step ≡ (if b && c then before_those (find_person row.cand.0 people) persons else persons)
persons_if people true c prog step row own persons is same = rw (is, same) refl
persons_if people false c prog step row own persons is same = same

pub finals_own : (people : List Person) (rows : List AllotRow) (prog : ℕ) (step : StepKind) → finals_of people (own_rows rows prog) prog step ≡ finals_of people rows prog step
finals_own people [] prog step = refl
finals_own people (row ∷ rows) prog step =
    persons_if people (row.prog.0 == prog) (seat_kind_number row.step == step_number step) prog step row (own_rows rows prog) (finals_of people rows prog step) refl (finals_own people rows prog step)

pub seats_own : (table : SeatTable) (rows : List AllotRow) (prog : ℕ) (step : StepKind) → seats_left table (own_rows rows prog) prog step ≡ seats_left table rows prog step
seats_own table rows prog step =
    let left : (StepKind → ℕ) → ℕ = λ count. ((seating_in table prog step).seats - count step) - taken_from (λ kind. (seating_in table prog kind).seats - count kind) (count Dereserved) (row_of step) in
    ap left (λ i kind. count_own rows prog kind i)

pub ranked_own : (people : List Person) (table : SeatTable) (rows : List AllotRow) (prog : ℕ) → ((step : StepKind) → CanBeRanked (list_in table prog) (finals_of people rows prog step))
    → (step : StepKind) → CanBeRanked (list_in table prog) (finals_of people (own_rows rows prog) prog step)
ranked_own people table rows prog ranked = λ step. subst (CanBeRanked (list_in table prog)) (sym (finals_own people rows prog step)) (ranked step)

-- what its own rows leave to a step is what all rows leave
left_own : (people : List Person) (rows : List AllotRow) (table : SeatTable) (prog : ℕ) (step : StepKind) (seating : Seating) → IsLeftOf people (own_rows rows prog) table prog step seating
    → IsLeftOf people rows table prog step seating
left_own people rows table prog step seating left =
    subst (λ n. IsLeft (list_in table prog) (seating_in table prog step) (finals_of people rows prog step) n seating) (seats_own table rows prog step)
    (subst (λ persons. IsLeft (list_in table prog) (seating_in table prog step) persons (seats_left table (own_rows rows prog) prog step) seating) (finals_own people rows prog step) left)

pub all_own : (people : List Person) (rows : List AllotRow) (table : SeatTable) (prog : ℕ) (before after : SeatTable) → AreLeftIn people (own_rows rows prog) table prog before after
    → AreLeftIn people rows table prog before after
all_own people rows table prog before after set = record {
  programmes = set.programmes;
  steps = λ step own. left_own people rows table prog step (seating_in after prog step) (set.steps step own);
  alone = set.alone;
  elsewhere = set.elsewhere;
}
