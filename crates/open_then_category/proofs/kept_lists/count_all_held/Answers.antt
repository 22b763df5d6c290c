use Rattle.std.proofs.Common.{◌≡◌, ◌≤◌, ◌<◌, ℕ, List, false, get_or, length, arith, subst, sym}
use Rattle.std.proofs.lemmas.Bool.{ne_eqb}
use Rattle.std.proofs.lemmas.Option.{slice_get-get_or}
use Rattle.office_base.specs.CategorySteps.{own_steps}
use Rattle.office_base.specs.Limits.{most_step_seats}
use Rattle.office_base.specs.StepNumbers.{step_number}
use Rattle.office_base.specs.declared.person.Person.{Person}
use Rattle.office_base.specs.declared.step.StepKind.{StepKind}
use Rattle.office_base.specs.declared.step.StepKind.TheVariants.{Open}
use Rattle.office_base.proofs.StepNumbers.{own_number_at}
use Rattle.seat_matrix.specs.Seats.{is_dereserved}
use Rattle.open_then_category.proofs.Counting.{few_admitted}
use Rattle.open_then_category.proofs.kept_lists.count_all_held.Goals as goal

own_kind : (i : ℕ) (d : StepKind) → i < length own_steps → is_dereserved (get_or own_steps i d) ≡ false
own_kind i d below =
    let number : step_number (get_or own_steps i d) ≡ i = own_number_at i (get_or own_steps i d) (slice_get-get_or own_steps i d below) in
    ne_eqb (step_number (get_or own_steps i d)) (length own_steps) (λ same. absurd (omega (arith, number, same, below)))

pub overflow_cast-held : goal.overflow_cast-held
overflow_cast-held c =
    let kind = get_or own_steps c.loop-i.i Open in
    let few = few_admitted c.args.state.now c.requires kind (own_kind c.loop-i.i Open c.loop-i-test.true) in
    let most = subst (λ (people : List Person). length people ≤ most_step_seats) (sym c.admitted.ensures) few in
    omega (arith, most)
