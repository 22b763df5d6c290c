use Rattle.merit_choice.proofs.Joining.{may_join, joined_raised}
use Rattle.merit_choice.proofs.Replacing.{raised_of}
use Rattle.merit_choice.proofs.state.join.Goals as goal

pub replaceable-requires : goal.replaceable-requires
replaceable-requires c = may_join c.args.list c.args.held.now c.args.marks.now c.args.matching.now c.args.person.now c.requires.new c.requires.matched

pub augment-raised-requires : goal.augment-raised-requires
augment-raised-requires c = may_join c.args.list c.args.held.now c.args.marks.now c.args.matching.now c.args.person.now c.requires.new c.requires.matched

-- who can be placed with the needed is one of them
pub returns-in-None-clause-matched : goal.returns-in-None-clause-matched
returns-in-None-clause-matched c =
    joined_raised c.args.list c.args.held.now c.args.marks.now c.args.matching.now c.augment-raised.new.self c.args.person.now c.requires.ranked c.requires.new c.requires.matched
    c.in-None.ensures (raised_of c.args.matching.now c.args.person.now c.augment-raised.result c.augment-raised.new.self c.in-None.ensures c.augment-raised.ensures.done)
