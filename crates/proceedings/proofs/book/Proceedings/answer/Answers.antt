use Rattle.std.proofs.Common.{◌≡◌, false, true, sym, ap, ◌∙◌, subst}
use Rattle.std.specs.Prelude.{is_some}
use Rattle.office_moves.specs.Decided.{is_known}
use Rattle.office_moves.specs.declared.decide.Decision.TheVariants.{Tell}
use Rattle.office_moves.proofs.Decisions.{told_there}
use Rattle.proceedings.specs.Proceeding.{Proceeding}
use Rattle.proceedings.proofs.book.Proceedings.answer.Goals as goal

pub seat_reply-requires : goal.seat_reply-requires
seat_reply-requires c = told_there c.args.self.now.season c.args.self.now.state c.args.request.now _ (c.requires ∙ ap Tell c.in-Seat.is)

pub why_reply-requires : goal.why_reply-requires
why_reply-requires c =
    let there = told_there c.args.self.now.season c.args.self.now.state c.args.request.now _ (c.requires ∙ ap Tell c.in-Why.is) in
    record { known = there.0; programme = there.1; published = there.2 }

pub shown-requires : goal.shown-requires
shown-requires c =
    let there = told_there c.args.self.now.season c.args.self.now.state c.args.request.now _ (c.requires ∙ ap Tell c.in-List.is) in
    record { some = there.0; published = there.1; programme = there.2 }

pub cutoffs-requires : goal.cutoffs-requires
cutoffs-requires c =
    let there = told_there c.args.self.now.season c.args.self.now.state c.args.request.now _ (c.requires ∙ ap Tell c.in-Cutoffs.is) in
    record { some = there.0; published = there.1; programme = there.2 }

pub unreachable-requires : goal.unreachable-requires
unreachable-requires c =
    let P : Proceeding → Type 0 = λ p. is_known p.season c.in-Register.cand ≡ true in
    let known = subst P (sym c.self.view_is) (told_there c.args.self.now.season c.args.self.now.state c.args.request.now _ (c.requires ∙ ap Tell c.in-Register.is)) in
    let both : false ≡ true = ap is_some c.in_default.ensures ∙ known in
    cc

pub answer_list-requires : goal.answer_list-requires
answer_list-requires c = told_there c.args.self.now.season c.args.self.now.state c.args.request.now _ (c.requires ∙ ap Tell c.in-Answers.is)
