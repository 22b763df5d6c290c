-- What a door over a listener shows of itself.
use Rattle.std.specs.Prelude.{ℕ}

-- the listener, how many connections the door still takes, how many are out, and its faults
pub record DoorCounts (L : Type 0) : Type 0 where
  pub listener : L
  pub left : ℕ
  pub out : ℕ
  pub faults : ℕ
