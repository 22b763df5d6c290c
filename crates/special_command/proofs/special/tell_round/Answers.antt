use Rattle.std.proofs.Common.{rules}
use Rattle.special_command.proofs.SpecialEnds.{lists_are_answered, no_round, none_ends, round_ends}
use Rattle.special_command.proofs.special.tell_round.Goals as goal

pub returns-in-Ok-clause-written : goal.returns-in-Ok-clause-written
returns-in-Ok-clause-written g c =
    round_ends c.args.papers c.args.office.season c.args.office.state _ c.in-Ok.text c.as_slice.result.now _ _ _ c.write_answer.result c.in-Ok.ensures.output c.as_slice.ensures c.write_answer.ensures.told

pub returns-in-Ok-clause-refused : goal.returns-in-Ok-clause-refused
returns-in-Ok-clause-refused g c tells read wrote =
    absurd (no_round c.args.papers c.args.office.season c.args.office.state _ c.in-Ok.text c.one_special_answer.ensures c.in-Ok.ensures.output tells)

pub returns-in-Err-clause-written : goal.returns-in-Err-clause-written
returns-in-Err-clause-written g c =
    none_ends c.args.papers c.args.office.season c.args.office.state _ _ c.in-Err.failure _ _ _ c.tell_failure.result c.in-Err.ensures.failure c.tell_failure.ensures.told

pub returns-in-Err-clause-complete : goal.returns-in-Err-clause-complete
returns-in-Err-clause-complete g c tells read wrote =
    lists_are_answered c.args.papers c.args.office.season c.args.office.state _ _ c.in-Err.failure _ _ _ c.tell_failure.result c.one_special_answer.ensures c.in-Err.ensures.failure c.tell_failure.ensures.told tells read wrote

pub returns-in-Ok-clause-blamed : goal.returns-in-Ok-clause-blamed
returns-in-Ok-clause-blamed g c =
    record { read = search rules; write = search rules; no_keeper = search rules; source_steady = search rules; sink_steady = search rules }

pub returns-in-Err-clause-blamed : goal.returns-in-Err-clause-blamed
returns-in-Err-clause-blamed g c =
    record { read = search rules; write = search rules; no_keeper = search rules; source_steady = search rules; sink_steady = search rules }
