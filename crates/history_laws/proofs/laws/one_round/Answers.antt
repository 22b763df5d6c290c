use Rattle.office_moves.specs.Facts.{lists_in_order, register_of}
use Rattle.history_laws.proofs.laws.one_round.Goals as goal

pub returns : goal.returns
returns c = λ facts guaranteed table n seeks first second sound seats same a b.
    c.one_round.ensures facts.version n guaranteed table facts.people (lists_in_order facts) seeks first second seats
    (c.enter.ensures (register_of facts) facts.matrix table facts.lists sound.ranks sound.choices sound.aligned same) a b
