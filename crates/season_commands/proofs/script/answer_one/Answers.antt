use Rattle.std.proofs.Common.{◌≡◌, ap, subst, ◌∙◌}
use Rattle.office_base.specs.Outside.{Appends}
use Rattle.office_moves.specs.Facts.{SeasonFacts}
use Rattle.office_moves.specs.State.{State}
use Rattle.shown_replies.specs.Shown.{reply_bytes}
use Rattle.season_commands.proofs.Running.{answered_whole}
use Rattle.season_commands.proofs.script.answer_one.Goals as goal

pub returns-clause-done : goal.returns-clause-done
returns-clause-done g c =
    let state = c.next_reply.new.office.state in
    let reply = c.in_ok-reply.reply in
    let same = c.book.ensures.season ∙ c.in_ok-reply.ensures.kept.season in
    let text : c.as_slice.result.now ≡ reply_bytes c.args.office.now.season state reply =
    c.as_slice.ensures
    ∙ (c.in_ok-text.ensures ∙ (ap (λ (f : SeasonFacts). reply_bytes f c.book.result.now.state reply) same ∙ ap (λ (s : State). reply_bytes c.args.office.now.season s reply) c.book.ensures.state.1)) in
    answered_whole c.args.office.now.season c.args.request.now _ _ reply c.in_ok-reply.ensures.moves c.in_ok-reply.ensures.accepted
    (subst (λ xs. Appends xs (g.K.Sink.written c.args.sink.now) (g.K.Sink.written c.write_whole.new.sink)) text c.in_ok-write_whole.ensures.ok)
