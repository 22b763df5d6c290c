use Rattle.office_base.specs.Limits.{most_bundle_bytes}
use Rattle.special_command.specs.Special.{special_answers}
use Rattle.command_answers.proofs.Ended.{left_failed, long_left}
use Rattle.special_command.proofs.SpecialEnds.{long_failed}
use Rattle.special_command.proofs.special.special_answer.Goals as goal

pub returns-in-Err-TooLong-clause-failure : goal.returns-in-Err-TooLong-clause-failure
returns-in-Err-TooLong-clause-failure g c =
    let long = long_left most_bundle_bytes _ _ (c.in-Err-TooLong.ensures.too_long (cc)) in
    left_failed (special_answers c.args.papers c.args.office.now.season c.args.office.now.state) long.0 _ _ c.too_long.result long.1 (long_failed c.args.papers c.args.office.now.season c.args.office.now.state long.0 c.too_long.result long.2 c.too_long.ensures)
