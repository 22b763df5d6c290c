use Rattle.std.proofs.Common.{◌≡◌, ◌∙◌, refl, inl, inr}
use Rattle.std.proofs.lemmas.List.{append-nil}
use Rattle.http_wire.specs.Told.{told_message}
use Rattle.http_sessions.specs.Exchange.{reply_to, refused_item, item_of, wired}
use Rattle.http_sessions.proofs.Statuses.{refused_status}
use Rattle.http_sessions.proofs.answering.answer_held.Goals as goal

pub refuse-requires : goal.refuse-requires
refuse-requires g c = refused_status c.args.held.now c.in-Refused.status c.in-Refused.ensures.exact

pub returns-in-Refused-clause-some : goal.returns-in-Refused-clause-some
unfolding reply_to
returns-in-Refused-clause-some g c =
    let s = c.in-Refused.status in (refused_item s, wired, (λ more. inr (s, c.in-Refused.ensures.stays more, refl, refl)), refl, (tt, refl), append-nil _ ∙ c.refuse.ensures)

pub returns-in-Whole-clause-some : goal.returns-in-Whole-clause-some
returns-in-Whole-clause-some g c =
    let m = c.in-Whole.message in
    let go = c.answer_message-body.ensures.goes in
    (item_of (told_message m), go.0, (λ more. inl (told_message m, c.in-Whole.ensures.stays more, refl)), c.closes.ensures, go.1, go.2)
