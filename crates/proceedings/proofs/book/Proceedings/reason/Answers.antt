use Rattle.std.proofs.Common.{refl, ap, ◌∙◌, length}
use Rattle.proceedings.proofs.Replies.{index_within, reason_at, shown_at}
use Rattle.proceedings.proofs.book.Proceedings.reason.Goals as goal

pub returns : goal.returns
returns c =
    let value = c.args.self.now in
    let round = c.args.round.now in
    let less = index_within c.args.prog.0 c.args.prog.0 _ (length round.programmes) refl c.requires.programme c.requires.last.programmes in
    reason_at value.season c.args.cand.0 c.args.prog c.args.at _ c.people.result.now c.season-season.result.now.matrix c.index-as_slice-from.result _ c.why.result
    (ap (λ facts. facts.matrix) c.season-season.ensures) (c.people.ensures.same ∙ ap (λ facts. facts.people) c.season-season.ensures)
    (shown_at _ round.programmes c.from.result c.args.prog.0 c.index-as_slice-from.result c.as_slice.ensures c.from.ensures c.index-as_slice-from.is less)
    c.requires.place c.requires.within c.why.ensures.reason
