use Rattle.std.proofs.Common.{List, length, ap, sym, subst, arith}
use Rattle.std.specs.List.{filter}
use Rattle.office_base.specs.StepChoice.{IsStep}
use Rattle.office_base.specs.declared.person.Person.{Person}
use Rattle.placements.proofs.Sublists.{length-sublist}
use Rattle.placements.proofs.Filters.{filter-sublist}
use Rattle.programme_lists.specs.Programme.{is_of, step_with}
use Rattle.seat_matrix.specs.Seats.{seats_of}
use Rattle.seat_matrix.specs.declared.seats.Seating.{Seating}
use Rattle.open_then_category.proofs.ProgrammeLaws.{filtered_step}
use Rattle.open_then_category.proofs.choice.category_step.Goals as goal

pub step_list-requires-clause-step : goal.step_list-requires-clause-step
step_list-requires-clause-step c =
    let step = filtered_step c.args.seats.now.list (seats_of c.args.seats.now c.args.row.step) (is_of c.args.row.category) c.args.rest.now c.requires.seats.list (c.requires.seats.steps c.args.row.step) c.requires.ranked in
    subst (λ (seats : Seating). IsStep (step_with c.args.seats.now.list seats c.in_ok-people.people)) (sym c.of-step_seats.ensures)
    (subst (λ (people : List Person). IsStep (step_with c.args.seats.now.list (seats_of c.args.seats.now c.args.row.step) people)) (sym c.in_ok-people.ensures) step)

pub step_list-requires-clause-few : goal.step_list-requires-clause-few
step_list-requires-clause-few c =
    let same = ap length c.in_ok-people.ensures in
    let fewer = length-sublist (filter (is_of c.args.row.category) c.args.rest.now) c.args.rest.now (filter-sublist (is_of c.args.row.category) c.args.rest.now) in
    omega arith
