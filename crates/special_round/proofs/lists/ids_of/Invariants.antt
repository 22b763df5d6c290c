use Rattle.std.proofs.Common.{◌≡◌, map, take}
use Rattle.special_round.proofs.lists.ids_of.Given as goal

abbrev pub invariant-loop-row : goal.invariant-loop-row
invariant-loop-row l = l.ids.items ≡ map (λ row. row.cand.0) (take l.row-index l.rows)
