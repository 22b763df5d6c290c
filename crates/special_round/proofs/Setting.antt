-- One step after another of a programme gets what final rows leave, and one programme after another.
use Rattle.std.proofs.Common.{◌≡◌, ◌<◌, ◌+◌, inl, inr, ℕ, zero, suc, false, List, [], ◌∷◌, length, arith, get_or-set_other, refl, sym, ap, ◌∙◌, subst}
use Rattle.std.specs.Prelude.{slice_index_or, slice_set}
use Rattle.std.proofs.lemmas.Bool.{cases_eq}
use Rattle.std.proofs.lemmas.Option.{slice_get-get_or}
use Rattle.office_base.specs.CategorySteps.{own_steps}
use Rattle.office_base.specs.StepNumbers.{step_number}
use Rattle.office_base.specs.declared.person.Person.{Person}
use Rattle.office_base.specs.declared.step.StepKind.{StepKind}
use Rattle.office_base.proofs.StepNumbers.{one_number, own_number_at}
use Rattle.kept_rows.specs.declared.rows.AllotRow.{AllotRow}
use Rattle.seat_matrix.specs.Matrix.{SeatTable, seating_in, steps_in}
use Rattle.seat_matrix.specs.Seats.{is_dereserved, no_seatings, with_seating}
use Rattle.seat_matrix.specs.declared.seats.Seatings.{Seatings}
use Rattle.special_round.specs.Remaining.{AreOwn}
use Rattle.special_round.specs.Set.{IsLeftOf, IsSetIn}

-- ---- steps

-- The steps with numbers below this one of a programme got it, and all other programmes are as before.
pub record AreLeftUpto (people : List Person) (rows : List AllotRow) (table : SeatTable) (prog number : ℕ) (before after : SeatTable) : Type 0 where
  pub programmes : after.programmes ≡ before.programmes
  pub steps : (step : StepKind) → step_number step < number → IsLeftOf people rows table prog step (seating_in after prog step)
  pub alone : 0 < number → AreOwn (steps_in after prog)
  pub elsewhere : (other : ℕ) → (other ≡ prog → ⊥) → steps_in after other ≡ steps_in before other

-- a programme that gets seats in one step has those of its steps, and no others
own_after : (steps : List Seatings) (prog : ℕ) (new : Seatings) → AreOwn new → AreOwn (slice_index_or (slice_set steps prog new) prog no_seatings)
own_after [] prog new own = refl
own_after (first ∷ steps) zero new own = own
own_after (first ∷ steps) (suc prog) new own = own_after steps prog new own

-- one step more
pub step_more : (people : List Person) (rows : List AllotRow) (table : SeatTable) (prog number : ℕ) (before middle after : SeatTable) (step : StepKind) → AreLeftUpto people rows table prog number before middle
    → step_number step ≡ number → IsSetIn people rows table prog step middle after → AreLeftUpto people rows table prog (number + 1) before after
step_more people rows table prog number before middle after step upto is set = record {
  programmes = set.seats.programmes ∙ upto.programmes;
  steps = λ kind less. elim (cases_eq (step_number kind) (step_number step)) [
    | inl same ↦ subst (λ k. IsLeftOf people rows table prog k (seating_in after prog k)) (sym (one_number kind step same)) (subst (IsLeftOf people rows table prog step) (sym set.seats.here) set.left)
    | inr apart ↦
        subst (IsLeftOf people rows table prog kind) (sym (set.seats.elsewhere prog kind (λ _ e. apart (ap step_number e)))) (upto.steps kind (omega (arith, less, apart, is)))
  ];
  alone = λ some. subst (λ t. AreOwn (steps_in t prog)) (sym set.whole) (own_after middle.steps prog (with_seating (steps_in middle prog) step set.seating) refl);
  elsewhere = λ other apart. ap (λ t. steps_in t other) set.whole
      ∙ (get_or-set_other middle.steps prog other (with_seating (steps_in middle prog) step set.seating) no_seatings apart ∙ upto.elsewhere other apart);
}

-- the number of a step with seats of its own is its place
pub step_at : (i : ℕ) (d : StepKind) → i < length own_steps → step_number (slice_index_or own_steps i d) ≡ i
step_at i d less = own_number_at i (slice_index_or own_steps i d) (slice_get-get_or own_steps i d less)

-- ---- programmes

-- The programme got it in each step.
pub record IsDone (people : List Person) (rows : List AllotRow) (table left : SeatTable) (prog : ℕ) : Type 0 where
  pub steps : (step : StepKind) → is_dereserved step ≡ false → IsLeftOf people rows table prog step (seating_in left prog step)
  pub alone : AreOwn (steps_in left prog)

-- the programmes with numbers below this one got it
abbrev pub DoneUpto : List Person → List AllotRow → SeatTable → SeatTable → ℕ → Type 0
DoneUpto people rows table left number = (prog : ℕ) → prog < number → IsDone people rows table left prog
