use Rattle.history_laws.proofs.InOrder.{in_order}
use Rattle.history_laws.proofs.laws.orderly.Goals as goal

pub returns : goal.returns
returns c facts entries state sound reached =
    let time = c.windows_pass.ensures facts entries state reached in
    in_order facts state sound c.choose_well.ensures c.grow.ensures c.steps_choose_well.ensures (c.runs_its_course.ensures facts entries state sound reached)
    (c.turns_count.ensures facts entries state reached) time
    (c.seats_only_rise.ensures facts sound entries state reached).matrix
