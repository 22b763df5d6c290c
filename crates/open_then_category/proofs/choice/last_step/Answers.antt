use Rattle.std.proofs.Common.{◌≡◌, ◌∙◌, length, ap, sym, subst, arith}
use Rattle.office_base.specs.StepChoice.{AreRanked}
use Rattle.open_then_category.specs.Stepwise.{left_of}
use Rattle.open_then_category.proofs.Assemble.{are_taken, are_within, ranked_left, length-left_of}
use Rattle.open_then_category.proofs.choice.last_step.Goals as goal

pub left_over-requires-clause-taken : goal.left_over-requires-clause-taken
left_over-requires-clause-taken c = are_taken c.args.seats.now c.args.rest.now c.args.lists.now c.requires.ranked c.requires.lists

pub empty_seats-empty-requires-clause-lists : goal.empty_seats-empty-requires-clause-lists
empty_seats-empty-requires-clause-lists c = are_within c.args.seats.now c.args.rest.now c.args.lists.now c.requires.lists

pub dereserved_step-requires-clause-ranked : goal.dereserved_step-requires-clause-ranked
dereserved_step-requires-clause-ranked c =
    let left : c.as_slice.result.now ≡ left_of c.args.rest.now c.args.lists.now = c.as_slice.ensures ∙ c.in_ok-left.ensures in
    subst (AreRanked c.args.seats.now.list) (sym left) (ranked_left c.args.seats.now.list c.args.rest.now c.args.lists.now c.requires.ranked)

pub dereserved_step-requires-clause-few : goal.dereserved_step-requires-clause-few
dereserved_step-requires-clause-few c =
    let left : c.as_slice.result.now ≡ left_of c.args.rest.now c.args.lists.now = c.as_slice.ensures ∙ c.in_ok-left.ensures in
    let long = ap length left in
    let few = length-left_of c.args.rest.now c.args.lists.now in
    omega arith
