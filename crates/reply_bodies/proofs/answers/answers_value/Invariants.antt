use Rattle.std.proofs.Common.{◌≡◌, map, take}
use Rattle.serde_json.specs.View.{view}
use Rattle.reply_bodies.specs.Bodies.{answer_data}
use Rattle.reply_bodies.proofs.answers.answers_value.Given as goal

abbrev pub invariant-loop-row : goal.invariant-loop-row
invariant-loop-row l = map view l.answers.items ≡ map answer_data (take l.row-index l.rows)
