use Rattle.allocation_cli.proofs.Rows.{AreMade}
use Rattle.allocation_cli.proofs.doors_of.Given as goal

abbrev pub invariant-loop-made : goal.invariant-loop-made
invariant-loop-made g l = AreMade l.made l.fn.service.conns l.doors.items
