use Rattle.std.proofs.Common.{◌≡◌, ◌+◌, ◌∷◌, length, map, take}
use Rattle.open_then_category.proofs.choice.empty_seats.Given as goal

abbrev pub invariant-loop-i : goal.invariant-loop-i
invariant-loop-i l = record {
  size : length l.held ≡ length l.lists + 1;
  filled : take (l.i + 1) l.held ≡ length l.first.admitted ∷ map (λ list. length list.admitted) (take l.i l.lists);
}
