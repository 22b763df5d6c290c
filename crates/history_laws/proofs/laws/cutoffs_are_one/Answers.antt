use Rattle.seat_matrix.specs.Matrix.{seats_in}
use Rattle.history_laws.proofs.laws.cutoffs_are_one.Goals as goal

pub returns : goal.returns
returns c facts sound entries state reached number prog programme lines others there first second =
    c.one_list.ensures (seats_in facts.matrix prog.0) programme.steps lines others
    (c.lists_hold_choices.ensures facts state number prog.0 programme sound (c.orderly.ensures facts entries state sound reached) there) first second
