use Rattle.allocation_cli.proofs.Named.{doors_for, doors_suit}
use Rattle.allocation_cli.proofs.answer.Goals as goal

pub answer_at-status-requires-clause-few : goal.answer_at-status-requires-clause-few
answer_at-status-requires-clause-few g c κs within = (doors_suit c.args.words.now c.requires.0 c.args.service.now c.in-Some.doors.items c.requires.1 c.in-Some.ensures.named).0

pub answer_at-status-requires-clause-suit : goal.answer_at-status-requires-clause-suit
answer_at-status-requires-clause-suit g c κs within = (doors_suit c.args.words.now c.requires.0 c.args.service.now c.in-Some.doors.items c.requires.1 c.in-Some.ensures.named).1

pub answer_at-status-requires-clause-named : goal.answer_at-status-requires-clause-named
answer_at-status-requires-clause-named g c κs within = doors_for c.one_spelling.ensures c.args.words.now c.requires.0 c.args.service.now _ c.requires.1 c.in-Some.ensures.named
