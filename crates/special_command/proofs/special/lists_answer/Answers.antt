use Rattle.special_command.proofs.SpecialEnds.{fault_failed}
use Rattle.special_command.proofs.special.lists_answer.Goals as goal

pub returns-in-Err-clause-failure : goal.returns-in-Err-clause-failure
returns-in-Err-clause-failure g c =
    fault_failed c.args.papers c.args.office.now.season c.args.office.now.state c.args.lists.now c.in-Err.fault c.lists_failure.result c.requires c.in-Err.ensures.fault c.lists_failure.ensures

pub papers_text-requires-clause-shown : goal.papers_text-requires-clause-shown
papers_text-requires-clause-shown g c = c.special_rounds_can_be_shown.ensures _ _ _ _ c.in-Ok.special c.says_what_is_sound.ensures c.in-Ok.ensures.special.2

pub papers_text-requires-clause-listed : goal.papers_text-requires-clause-listed
papers_text-requires-clause-listed g c = c.special_rounds_can_be_listed.ensures _ _ _ _ c.in-Ok.special c.says_what_is_sound.ensures c.in-Ok.ensures.special.2
