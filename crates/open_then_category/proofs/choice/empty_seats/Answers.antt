use Rattle.std.proofs.Common.{◌≤◌, ap, arith, length}
use Rattle.office_base.specs.CategorySteps.{category_steps}
use Rattle.office_base.specs.declared.step.StepKind.TheVariants.{Open}
use Rattle.programme_lists.specs.declared.programme.StepList.{StepList}
use Rattle.seat_matrix.specs.Seats.{seats_of}
use Rattle.open_then_category.proofs.Assemble.{few_in, zip_length}
use Rattle.open_then_category.proofs.choice.empty_seats.Goals as goal

pub overflow_cast-held : goal.overflow_cast-held
overflow_cast-held c =
    let held = c.requires.first in
    let few = (c.requires.seats.steps Open).seats in
    omega (arith, held, few)

pub overflow_cast-held-in-loop-i : goal.overflow_cast-held-in-loop-i
overflow_cast-held-in-loop-i c =
    let seats = c.args.seats.now in
    let many = zip_length (λ row list. length list.admitted ≤ (seats_of seats row.step).seats) category_steps c.args.lists.now c.requires.lists in
    let below = c.loop-i-test.true in
    let same = ap (λ (list : StepList). length list.admitted) c.index-lists-i.is in
    let few = few_in seats c.args.lists.now c.loop-i.i c.index-lists-i.result c.requires.seats c.requires.lists (omega (arith, many, below)) in
    omega (arith, same, few)
