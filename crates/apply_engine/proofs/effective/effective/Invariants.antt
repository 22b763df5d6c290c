use Rattle.std.proofs.Common.{◌≡◌, ◌++◌, drop}
use Rattle.apply_engine.specs.Engine.{lists_in}
use Rattle.apply_engine.specs.Made.{leaves_along}
use Rattle.apply_engine.proofs.effective.effective.Given as goal

-- with what the other seeks leave they are all
abbrev pub invariant-loop-at : goal.invariant-loop-at
invariant-loop-at l = l.lists ++ leaves_along l.matrix (drop l.at (lists_in l.choices)) (drop l.at l.seeks) ≡ leaves_along l.matrix (lists_in l.choices) l.seeks
