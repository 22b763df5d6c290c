use Rattle.std.proofs.Common.{Some, None, sym, ◌∙◌}
use Rattle.std.specs.Prelude.{slice_get}
use Rattle.office_base.specs.declared.person.Person.{Person}
use Rattle.office_moves.specs.State.{in_window, left_by, rows_of, standing_at, view_of}
use Rattle.answer_table.specs.Turns.{last_choice}
use Rattle.proceedings.specs.Proceeding.{choices_in}
use Rattle.proceedings.proofs.Positions.{both_follow, follow}
use Rattle.proceedings.proofs.Taken.{answered_is}
use Rattle.proceedings.proofs.book.Proceedings.standing.Goals as goal

pub returns-in-Some : goal.returns-in-Some
returns-in-Some c =
    let value = c.args.self.now in
    follow (λ (person : Person). last_choice (choices_in value.state value.state.now person.id.0)) (λ (person : Person). standing_at value.season (view_of value.state person.id.0) person.id.0 value.state.now)
    (slice_get value.season.people c.args.at) (Some c.in-Some.choice) c.standing_of.result c.in-Some.ensures
    (λ person last. answered_is (left_by value.season (view_of value.state person.id.0) person.id.0 value.state.now) (in_window value.state.now (rows_of person.id.0 value.state.answers)) (Some c.in-Some.choice) last
    ∙ sym c.standing_of.ensures)

pub returns-in-None : goal.returns-in-None
returns-in-None c =
    let value = c.args.self.now in
    both_follow (λ (person : Person). last_choice (choices_in value.state value.state.now person.id.0)) (λ (person : Person). left_by value.season (view_of value.state person.id.0) person.id.0 value.state.now)
    (λ (person : Person). standing_at value.season (view_of value.state person.id.0) person.id.0 value.state.now)
    (slice_get value.season.people c.args.at) None c.standing_at_cut.result c.standing_at_cut.result c.in-None.ensures c.standing_at_cut.ensures
    (λ person last left. answered_is (left_by value.season (view_of value.state person.id.0) person.id.0 value.state.now) (in_window value.state.now (rows_of person.id.0 value.state.answers)) None last ∙ left)
