-- A matrix with raises is sound, has the same programmes and protections, and no fewer seats.
use Rattle.std.proofs.Common.{◌≡◌, ◌<◌, ◌≤◌, ◌+◌, ◌⊎◌, inl, inr, ℕ, false, List, [], ◌∷◌, ◌++◌, length, arith, refl, sym, ap, ◌∙◌, subst, ◌==◌, length-set}
use Rattle.std.proofs.lemmas.Bool.{cases_Bool, eq-eqb, eqb-true}
use Rattle.office_base.specs.Limits.{most_step_seats}
use Rattle.office_base.specs.declared.step.StepKind.{StepKind}
use Rattle.kept_rows.specs.declared.rows.RaiseRow.{RaiseRow}
use Rattle.office_base.specs.StepNumbers.{step_number}
use Rattle.seat_matrix.specs.Laws.{OneStepChanges}
use Rattle.seat_matrix.specs.Matrix.{AreSeats, HasSeating, SeatTable, matrix_with, seating_in}
use Rattle.seat_matrix.specs.Seats.{IsSeated, is_dereserved}
use Rattle.office_base.proofs.StepNumbers.{one_number}
use Rattle.rounds.specs.Rule.{IsRaised}
use Rattle.office_moves.specs.Raised.{raised, raised_to}

-- ---- steps are distinguished by their numbers

same_place : (p prog : ℕ) (kind step : StepKind) → ((p ≡ prog) × (kind ≡ step)) ⊎ (p ≡ prog → kind ≡ step → ⊥)
same_place p prog kind step = elim (cases_Bool (p == prog)) [
  | inl e ↦ elim (cases_Bool (step_number kind == step_number step)) [
    | inl f ↦ inl (eqb-true p prog e, one_number kind step (eqb-true _ _ f))
    | inr f ↦ inr (λ g h. let same = eq-eqb (step_number kind) (step_number step) (ap step_number h) in cc)
  ]
  | inr e ↦ inr (λ g h. let same = eq-eqb p prog g in cc)
]

-- ---- one raise

-- the row raises the seats of a step of the matrix that has seats of its own
pub record IsLift (table : SeatTable) (row : RaiseRow) : Type 0 where
  pub below : row.prog.0 < length table.programmes
  pub own : is_dereserved row.step ≡ false
  pub more : (seating_in table row.prog.0 row.step).seats ≤ row.seats
  pub most : row.seats ≤ most_step_seats

abbrev pub with_raise : SeatTable → RaiseRow → SeatTable
with_raise table row = matrix_with table row.prog.0 row.step (raised_to (seating_in table row.prog.0 row.step) row.seats)

changed : OneStepChanges → (table : SeatTable) (row : RaiseRow) → AreSeats table → IsLift table row
    → HasSeating table row.prog.0 row.step (raised_to (seating_in table row.prog.0 row.step) row.seats) (with_raise table row)
changed law table row seats lift = law table row.prog.0 row.step _ (let below = lift.below in let same = seats.steps in omega (arith, below, same)) lift.own

raise_seats : OneStepChanges → (table : SeatTable) (row : RaiseRow) → AreSeats table → IsLift table row → AreSeats (with_raise table row)
raise_seats law table row seats lift =
    let has = changed law table row seats lift in
    record {
      codes = seats.codes;
      few = seats.few;
      steps = length-set table.steps row.prog.0 _ ∙ seats.steps;
      sound = λ p below. record {
        list = (seats.sound p below).list;
        steps = λ kind. elim (same_place p row.prog.0 kind row.step) [
          | inl e ↦
              let old = (seats.sound row.prog.0 lift.below).steps row.step in
              let here : IsSeated (seating_in (with_raise table row) row.prog.0 row.step) = subst IsSeated (sym has.here) (record {
                protections = (let within = old.protections in let more = lift.more in omega (arith, within, more));
                seats = lift.most;
              }) in
              subst (λ q. IsSeated (seating_in (with_raise table row) q kind)) (sym e.0) (subst (λ k. IsSeated (seating_in (with_raise table row) row.prog.0 k)) (sym e.1) here)
          | inr apart ↦ subst IsSeated (sym (has.elsewhere p kind apart)) ((seats.sound p below).steps kind)
        ];
      };
    }

raise_more : OneStepChanges → (table : SeatTable) (row : RaiseRow) → AreSeats table → IsLift table row → IsRaised table (with_raise table row)
raise_more law table row seats lift =
    let has = changed law table row seats lift in
    record {
      programmes = refl;
      seats = λ p. record {
        list = refl;
        protections = λ kind. elim (same_place p row.prog.0 kind row.step) [
          | inl e ↦ subst (λ q. (seating_in (with_raise table row) q kind).protections ≡ (seating_in table q kind).protections) (sym e.0)
              (subst (λ k. (seating_in (with_raise table row) row.prog.0 k).protections ≡ (seating_in table row.prog.0 k).protections) (sym e.1) (ap (λ seating. seating.protections) has.here))
          | inr apart ↦ ap (λ seating. seating.protections) (has.elsewhere p kind apart)
        ];
        seats = λ kind. elim (same_place p row.prog.0 kind row.step) [
          | inl e ↦
              let here : (seating_in table row.prog.0 row.step).seats ≤ (seating_in (with_raise table row) row.prog.0 row.step).seats =
              (let same = ap (λ seating. seating.seats) has.here in let more = lift.more in omega (arith, same, more)) in
              subst (λ q. (seating_in table q kind).seats ≤ (seating_in (with_raise table row) q kind).seats) (sym e.0)
              (subst (λ k. (seating_in table row.prog.0 k).seats ≤ (seating_in (with_raise table row) row.prog.0 k).seats) (sym e.1) here)
          | inr apart ↦ (let same = ap (λ seating. seating.seats) (has.elsewhere p kind apart) in omega (arith, same))
        ];
      };
    }

-- ---- some raises

same_matrix : (table : SeatTable) → IsRaised table table
same_matrix table = record { programmes = refl; seats = λ p. record { list = refl; protections = λ kind. refl; seats = λ kind. omega arith } }

raised_on : (a b c : SeatTable) → IsRaised a b → IsRaised b c → IsRaised a c
raised_on a b c first second = record {
  programmes = second.programmes ∙ first.programmes;
  seats = λ p. record {
    list = (second.seats p).list ∙ (first.seats p).list;
    protections = λ kind. (second.seats p).protections kind ∙ (first.seats p).protections kind;
    seats = λ kind. (let one = (first.seats p).seats kind in let two = (second.seats p).seats kind in omega (arith, one, two));
  };
}

-- each row raises the matrix that the rows before it left
abbrev pub AreLifts : SeatTable → List RaiseRow → Type 0
AreLifts table [] = Unit {0}
AreLifts table (row ∷ rows) = IsLift table row × AreLifts (with_raise table row) rows

pub raised_well : OneStepChanges → (table : SeatTable) (rows : List RaiseRow) → AreSeats table → AreLifts table rows → AreSeats (raised table rows) × IsRaised table (raised table rows)
raised_well law table [] seats lifts = (seats, same_matrix table)
raised_well law table (row ∷ rows) seats lifts =
    let rest = raised_well law (with_raise table row) rows (raise_seats law table row seats lifts.0) lifts.1 in
    (rest.0, raised_on table (with_raise table row) (raised (with_raise table row) rows) (raise_more law table row seats lifts.0) rest.1)

pub raised_append : (table : SeatTable) (rows more : List RaiseRow) → raised table (rows ++ more) ≡ raised (raised table rows) more
raised_append table [] more = refl
raised_append table (row ∷ rows) more = raised_append (with_raise table row) rows more

pub lifts_append : (table : SeatTable) (rows more : List RaiseRow) → AreLifts table rows → AreLifts (raised table rows) more → AreLifts table (rows ++ more)
lifts_append table [] more first second = second
lifts_append table (row ∷ rows) more first second = (first.0, lifts_append (with_raise table row) rows more first.1 second)
