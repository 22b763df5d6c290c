use Rattle.std.proofs.Common.{◌≡◌, ◌∙◌, sym, subst, ap, arith}
use Rattle.office_moves.specs.Decided.{decided}
use Rattle.office_moves.specs.declared.decide.Decision.TheVariants.{Finish, Lift, Publish}
use Rattle.proceedings.specs.Changes.{IsAnswerAt, IsAt}
use Rattle.proceedings.proofs.ChangeLemmas.{is_noted, noted_some}
use Rattle.round_cut.proofs.Asked.{asked_finish, asked_lift, asked_note, asked_publish}
use Rattle.round_cut.proofs.office.Office.handle.Goals as goal

pub accept_answer-answer-requires-clause-decided : goal.accept_answer-answer-requires-clause-decided
accept_answer-answer-requires-clause-decided g c =
    let book = c.self.inside.book in
    let here = subst (IsAt book.season c.decide-decision.result.1) c.decide-decision.ensures.0 c.decide-decision.ensures.1 in
    let is = asked_note book.season book.state c.args.request.now c.in-Note.row c.decide-decision.result.1 (sym c.decide-decision.ensures.0 ∙ c.in-Note.is) here in
    subst (λ o. IsAnswerAt o.season o.state c.in-Note.row c.decide-decision.result.1) c.self.view_is is

pub accept_raise-answer-requires-clause-decided : goal.accept_raise-answer-requires-clause-decided
accept_raise-answer-requires-clause-decided g c =
    let is = subst (λ o. decided o.season o.state c.args.request.now ≡ Lift c.in-Lift.row) c.self.view_is (sym c.decide-decision.ensures.0 ∙ c.in-Lift.is) in
    asked_lift c.args.self.now.season c.args.self.now.state c.args.request.now c.in-Lift.row is

pub publish_round-answer-requires-clause-decided : goal.publish_round-answer-requires-clause-decided
publish_round-answer-requires-clause-decided g c =
    let is = subst (λ o. decided o.season o.state c.args.request.now ≡ Publish) c.self.view_is (sym c.decide-decision.ensures.0 ∙ c.in-Publish.is) in
    asked_publish c.args.self.now.season c.args.self.now.state c.args.request.now is

pub finish_season-answer-requires-clause-decided : goal.finish_season-answer-requires-clause-decided
finish_season-answer-requires-clause-decided g c =
    let is = subst (λ o. decided o.season o.state c.args.request.now ≡ Finish) c.self.view_is (sym c.decide-decision.ensures.0 ∙ c.in-Finish.is) in
    asked_finish c.args.self.now.season c.args.self.now.state c.args.request.now is

pub accept_answer-answer-requires-clause-some : goal.accept_answer-answer-requires-clause-some
accept_answer-answer-requires-clause-some g c =
    let book = c.self.inside.book in
    let here = subst (IsAt book.season c.decide-decision.result.1) c.decide-decision.ensures.0 c.decide-decision.ensures.1 in
    let is = asked_note book.season book.state c.args.request.now c.in-Note.row c.decide-decision.result.1 (sym c.decide-decision.ensures.0 ∙ c.in-Note.is) here in
    let some = noted_some book.season book.state c.in-Note.row c.decide-decision.result.1 (is_noted book.season book.state c.in-Note.row c.decide-decision.result.1 is) in
    let still = ap (λ o. o.still) c.self.view_is in
    let count = c.still_in-still.ensures.count in
    omega (arith, some, still, count)
