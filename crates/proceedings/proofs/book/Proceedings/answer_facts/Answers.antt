use Rattle.std.proofs.Common.{ℕ, ap}
use Rattle.rank_lists.proofs.Known.{known}
use Rattle.office_moves.specs.State.{accepted, in_window, last_seat, last_turn, left_by, rows_of, standing_at, view_of}
use Rattle.proceedings.proofs.Judged.{answer_facts_are, told_of}
use Rattle.proceedings.proofs.book.Proceedings.answer_facts.Goals as goal

pub returns : goal.returns
returns c =
    let value = c.args.self.now in
    let id = c.args.row.cand.0 in
    let people = value.season.people in
    let at = c.args.at in
    let place = c.requires.place in
    answer_facts_are value.season value.state c.args.row c.accepted_choice.result _ _ c.last_turn.result c.standing_at_cut.result c.standing.result c.last_seat.result c.is_some.result (known id people at place)
    (told_of (λ (id : ℕ). accepted c.args.row.window c.args.row.turn (rows_of id value.state.answers)) id people at c.accepted_choice.result place c.accepted_choice.ensures)
    c.now.ensures.now (ap (λ facts. facts.rounds) c.season.ensures)
    (told_of (λ (id : ℕ). last_turn (in_window value.state.now (rows_of id value.state.answers))) id people at c.last_turn.result place c.last_turn.ensures)
    (told_of (λ (id : ℕ). left_by value.season (view_of value.state id) id value.state.now) id people at c.standing_at_cut.result place c.standing_at_cut.ensures)
    (told_of (λ (id : ℕ). standing_at value.season (view_of value.state id) id value.state.now) id people at c.standing.result place c.standing.ensures)
    (told_of (λ (id : ℕ). last_seat value.season value.state.rounds id) id people at c.last_seat.result place c.last_seat.ensures)
    c.is_some.ensures
