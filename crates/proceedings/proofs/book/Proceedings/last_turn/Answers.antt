use Rattle.std.proofs.Common.{◌≡◌, ℕ, Some, length, ap, subst}
use Rattle.std.specs.Prelude.{option_map, slice_get}
use Rattle.office_base.specs.declared.choice.Choice.{Choice}
use Rattle.std.specs.Prelude.{List}
use Rattle.office_base.specs.declared.person.Person.{Person}
use Rattle.office_moves.specs.State.{in_window, last_turn, rows_of}
use Rattle.proceedings.specs.Proceeding.{choices_in}
use Rattle.proceedings.proofs.Positions.{everywhere, through}
use Rattle.proceedings.proofs.Taken.{last_turn_is, last_turn_none}
use Rattle.proceedings.proofs.book.Proceedings.last_turn.Goals as goal

pub returns-in-Some : goal.returns-in-Some
returns-in-Some c =
    let value = c.args.self.now in
    let Q : ℕ → Type 0 = λ window. option_map (λ (person : Person). last_turn (in_window window (rows_of person.id.0 value.state.answers))) (slice_get value.season.people c.args.at) ≡ Some c.taken.result in
    let now : c.self.inside.window ≡ value.state.now = ap (λ p. p.state.now) c.self.view_is in
    subst Q now (
    through (λ (person : Person). choices_in value.state c.self.inside.window person.id.0) (λ (choices : List Choice). length choices)
    (λ (person : Person). last_turn (in_window c.self.inside.window (rows_of person.id.0 value.state.answers))) value.season.people c.in-Some.table.now c.args.at c.taken.result c.in-Some.ensures.some
    (λ person. last_turn_is _ (c.table.ensures.turns person.id.0)) c.taken.ensures
    )

pub returns-in-None : goal.returns-in-None
returns-in-None c =
    let value = c.args.self.now in
    let Q : ℕ → Type 0 = λ window. option_map (λ (person : Person). last_turn (in_window window (rows_of person.id.0 value.state.answers))) (slice_get value.season.people c.args.at) ≡ Some 0 in
    let now : c.self.inside.window ≡ value.state.now = ap (λ p. p.state.now) c.self.view_is in
    subst Q now (
    everywhere (λ (person : Person). last_turn (in_window c.self.inside.window (rows_of person.id.0 value.state.answers))) value.season.people c.args.at 0 c.requires
    (λ person. last_turn_none _ (c.in-None.ensures.none person.id.0))
    )
