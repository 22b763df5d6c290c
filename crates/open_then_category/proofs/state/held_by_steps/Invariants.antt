use Rattle.std.proofs.Common.{◌≡◌, ◌+◌, ◌∷◌, length, map, take}
use Rattle.open_then_category.proofs.state.held_by_steps.Given as goal

abbrev pub invariant-loop-i : goal.invariant-loop-i
invariant-loop-i l = record {
  size : length l.held ≡ length l.categories + 1;
  filled : take (l.i + 1) l.held ≡ length l.open_step.held ∷ map (λ step. length step.held) (take l.i l.categories);
}
