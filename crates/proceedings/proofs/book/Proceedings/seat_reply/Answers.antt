use Rattle.std.proofs.Common.{◌≡◌, ℕ, Some, sym, subst}
use Rattle.rank_lists.specs.Register.{row_of}
use Rattle.office_moves.specs.State.{last_seat, standing_at, view_of}
use Rattle.proceedings.specs.Proceeding.{Proceeding}
use Rattle.proceedings.proofs.Judged.{told_of}
use Rattle.proceedings.proofs.Replies.{seat_reply_is}
use Rattle.proceedings.proofs.book.Proceedings.seat_reply.Goals as goal

pub returns : goal.returns
returns c =
    let value = c.args.self.now in
    let id = c.args.cand.0 in
    let at = c.in-Some.at in
    let P : Proceeding → Type 0 = λ p. row_of id p.season.people ≡ Some at in
    let place = subst P c.self.view_is (sym c.in-Some.ensures.row) in
    seat_reply_is value.season value.state c.args.cand c.published.result c.standing-standing.result c.last_seat.result c.told_seat.result c.published.ensures
    (told_of (λ (id : ℕ). standing_at value.season (view_of value.state id) id value.state.now) id value.season.people at c.standing-standing.result place c.standing-standing.ensures)
    (told_of (λ (id : ℕ). last_seat value.season value.state.rounds id) id value.season.people at c.last_seat.result place c.last_seat.ensures)
    c.told_seat.ensures
