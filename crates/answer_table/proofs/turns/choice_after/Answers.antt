use Rattle.std.proofs.Common.{◌<◌, ◌/◌, arith, length, ◌∙◌}
use Rattle.std.specs.Prelude.{flat_map}
use Rattle.answer_table.specs.Turns.{four_of}
use Rattle.answer_table.proofs.Digits.{get_four, get_front}
use Rattle.answer_table.proofs.turns.choice_after.Goals as goal

pub returns : goal.returns
returns c =
    let turns = c.args.turns.now in
    let within : c.args.before / 4 < length turns.packed = omega (arith, c.requires.few, c.requires.kept.few, c.requires.kept.room) in
    get_front (flat_map four_of turns.packed) turns.count c.args.before c.requires.few ∙ (get_four turns.packed c.args.before within ∙ c.choice_in.ensures)
