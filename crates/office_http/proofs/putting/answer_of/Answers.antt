use Rattle.std.proofs.Common.{subst}
use Rattle.office_moves.specs.Facts.{IsSound}
use Rattle.office_http.proofs.putting.answer_of.Goals as goal

pub body_of_reply-body-requires-clause-shown : goal.body_of_reply-body-requires-clause-shown
body_of_reply-body-requires-clause-shown g c =
    let office = c.args.office.now in
    let sound = subst IsSound c.season.ensures c.says_what_is_sound.ensures in
    let orderly = c.orderly.ensures office.season office.entries office.state sound c.entries-entries.ensures.history.reached in
    c.replies_can_be_shown.ensures office.season sound office.state c.args.reply.now orderly c.requires.came
