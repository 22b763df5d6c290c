use Rattle.allocation_cli.proofs.Rows.{all_made, none_made, one_more}
use Rattle.allocation_cli.proofs.doors_of.Goals as goal

pub loop-made-init : goal.loop-made-init
loop-made-init g c = none_made c.args.service.now.conns c.new-doors.result.items c.new-doors.ensures.items

pub loop-made-preserved : goal.loop-made-preserved
loop-made-preserved g c =
    one_more c.new.result c.loop-made.made c.args.service.now.conns _ c.loop-made.doors.items c.push.new.self.items c.new-door.result c.loop-made.invariant
    c.new-door.ensures c.if-is_err.ensures.negation c.push.ensures.items

pub returns : goal.returns
returns g c = all_made c.loop-made.made c.args.service.now.workers c.args.service.now.conns c.loop-made.doors.items c.loop-made.invariant c.loop-made.auto.made-end c.loop-made-test.false
