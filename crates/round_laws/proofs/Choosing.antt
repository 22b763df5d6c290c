-- The programmes of a matrix choose well, and grow with their seats, by the laws of the choice of a programme.
use Rattle.std.proofs.Common.{◌≡◌, ◌≤◌, inl, inr, ℕ, zero, suc, List, [], ◌∷◌, length, arith, refl, sym, ap, subst}
use Rattle.std.specs.Prelude.{slice_index_or, option_map}
use Rattle.std.specs.Option.{unwrap_or}
use Rattle.std.proofs.lemmas.Bool.{cases_Bool, cases_lt}
use Rattle.std.proofs.lemmas.Option.{slice_get_past}
use Rattle.office_base.specs.Person.{IsList}
use Rattle.office_base.specs.declared.step.StepKind.{StepKind}
use Rattle.open_then_category.specs.Laws.{ChosenWell, GrowsWithSeats, NoFewerFromMore}
use Rattle.rounds.specs.Rule.{MayApplyIn, ProgrammesAdmitNoFewer, ProgrammesChooseWell, ProgrammesGrow, StepsChooseWell, steps_of}
use Rattle.office_base.specs.declared.person.ListId.{ListId}
use Rattle.programme_lists.specs.Chosen.{AreApplicants}
use Rattle.kept_seats.proofs.Kept as kept
use Rattle.kept_seats.proofs.Fewer as kept_fewer
use Rattle.seat_matrix.specs.Matrix.{AreSeats, SeatTable, first_list, list_in, seats_in, steps_in}
use Rattle.seat_matrix.specs.Seats.{AreProgrammeSeats, IsSeated, is_dereserved, no_seating, no_seatings, of_step}
use Rattle.seat_matrix.specs.declared.seats.Seatings.{Seatings}
use Rattle.seat_matrix.proofs.SeatsLemmas.{made_at, none_own}

index_after : {X : Type 0} (xs : List X) (p : ℕ) (x : X) → length xs ≤ p → slice_index_or xs p x ≡ x
index_after [] p x far = refl
index_after (y ∷ xs) zero x far = absurd (omega (arith, far))
index_after (y ∷ xs) (suc p) x far = index_after xs p x (omega (arith, far))

none_seated : IsSeated no_seating
none_seated = record { protections = omega arith; seats = omega arith }

no_steps : (step : StepKind) → IsSeated (of_step no_seatings step)
no_steps step = subst IsSeated (elim (cases_Bool (is_dereserved step)) [
  | inl last ↦ sym (none_own no_seatings step last)
  | inr own ↦ sym (made_at (λ kind. no_seating) step own)
]) none_seated

-- the seats of each programme are sound, and so are those of none
sound_all : (table : SeatTable) → AreSeats table → (p : ℕ) → AreProgrammeSeats (seats_in table p)
sound_all table seats p = elim (cases_lt p (length table.programmes)) [
  | inl less ↦ seats.sound p less
  | inr far ↦ record {
    list = (let e : list_in table p ≡ first_list = ap (λ home. unwrap_or (option_map (λ held. held.1.list) home) first_list) (slice_get_past table.programmes p far) in
        subst IsList (sym e) (omega arith, omega arith));
    steps = λ step.
        let e : steps_in table p ≡ no_seatings = index_after table.steps p no_seatings (omega (arith, seats.steps, far)) in
        subst (λ (s : Seatings). IsSeated (of_step s step)) (sym e) (no_steps step);
  }
]

pub steps_well : ChosenWell → StepsChooseWell
steps_well well version table seats = well version (λ p. seats_in table p) (sound_all table seats)

pub choose_well : ChosenWell → ProgrammesChooseWell
choose_well well version guaranteed table seats = kept.choose_well guaranteed (steps_of version table) (MayApplyIn table) (steps_well well version table seats)

pub admit_no_fewer : ChosenWell → NoFewerFromMore → ProgrammesAdmitNoFewer
admit_no_fewer well fewer version guaranteed table seats =
    kept_fewer.admit_no_fewer guaranteed (steps_of version table) (MayApplyIn table) (steps_well well version table seats) (λ p people may. may.distinct)
    (fewer version (λ p. seats_in table p) (sound_all table seats))

pub grow : ChosenWell → GrowsWithSeats → ProgrammesGrow
grow well grows version guaranteed wider table more sure seats seats' raised =
    kept.grow guaranteed wider (steps_of version table) (steps_of version more) (MayApplyIn table)
    (λ p people x may. (steps_well well version more seats').decided p people x (subst (λ (list : ListId). AreApplicants list people) (sym (raised.seats p).list) may))
    sure (grows version (λ p. seats_in table p) (λ p. seats_in more p) (sound_all table seats) (sound_all more seats') raised.seats)
