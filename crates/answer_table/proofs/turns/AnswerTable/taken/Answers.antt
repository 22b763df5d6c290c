use Rattle.std.proofs.Common.{◌<◌, Some, ap, sym, arith, length, ◌∙◌}
use Rattle.std.proofs.lemmas.List.{length-map}
use Rattle.answer_table.specs.Turns.{choices_of}
use Rattle.answer_table.proofs.TurnLemmas.{taken_at}
use Rattle.answer_table.proofs.turns.AnswerTable.taken.Goals as goal

pub returns : goal.returns
returns c =
    let inside : c.args.at < length c.self.inside.slots.items = (let e = ap length c.self.view_is in omega (arith, c.requires, length-map c.self.inside.slots.items choices_of)) in
    taken_at c.self.inside.slots.items c.args.at c.index.result.now _ c.self.view_is inside c.index.ensures c.self.invariant ∙ ap Some (sym c.from.ensures)
