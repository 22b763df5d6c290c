use Rattle.std.proofs.Common.{◌≡◌, map}
use Rattle.std.specs.Prelude.{All}
use Rattle.answer_table.specs.Turns.{no_turns, choices_of, IsTurns}
use Rattle.answer_table.proofs.turns.AnswerTable.new.Given as goal

abbrev pub invariant-slots : goal.invariant-slots
invariant-slots l = All IsTurns l.slots.items × (map choices_of l.slots.items ≡ no_turns l.counter)
