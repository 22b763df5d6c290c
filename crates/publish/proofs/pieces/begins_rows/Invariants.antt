use Rattle.std.proofs.Common.{◌↔◌, drop}
use Rattle.publish.specs.Pieces.{BeginsRows}
use Rattle.publish.proofs.pieces.begins_rows.Given as goal

abbrev pub invariant-loop-at : goal.invariant-loop-at
invariant-loop-at l = BeginsRows l.word l.matrix l.left l.people l.piece ↔ BeginsRows l.word l.matrix l.left (drop l.at l.people) l.piece
