use Rattle.office_base.specs.declared.person.Person.{Person}
use Rattle.office_moves.specs.State.{accepted, rows_of}
use Rattle.answer_table.specs.Turns.{choice_at}
use Rattle.proceedings.specs.Proceeding.{choices_in}
use Rattle.proceedings.proofs.Positions.{everywhere, through}
use Rattle.proceedings.proofs.Taken.{accepted_is, accepted_none}
use Rattle.proceedings.proofs.book.Proceedings.accepted_choice.Goals as goal

pub returns-in-Some : goal.returns-in-Some
returns-in-Some c =
    let value = c.args.self.now in
    through (λ (person : Person). choices_in value.state c.args.window person.id.0) (λ choices. choice_at choices c.args.turn) (λ (person : Person). accepted c.args.window c.args.turn (rows_of person.id.0 value.state.answers))
    value.season.people c.in-Some.table.now c.args.at c.choice.result c.in-Some.ensures.some (λ person. accepted_is c.args.window c.args.turn _ (c.table.ensures.turns person.id.0)) c.choice.ensures

pub returns-in-None : goal.returns-in-None
returns-in-None c =
    let value = c.args.self.now in
    everywhere (λ (person : Person). accepted c.args.window c.args.turn (rows_of person.id.0 value.state.answers)) value.season.people c.args.at _ c.requires
    (λ person. accepted_none c.args.window c.args.turn _ (c.in-None.ensures.none person.id.0))
