-- The numbers that the generator draws: a state of 64 bits, which each draw changes before it gives a number from its upper bits.
use Rattle.std.specs.Prelude.{ℕ, zero, suc, ◌+◌, ◌*◌, ◌/◌, ◌%◌, ◌^◌}

-- the state after a draw
unfoldable pub next : ℕ → ℕ
next state = (state * 6364136223846793005 + 1442695040888963407) % 2 ^ 64

-- the number below n that is drawn in this state
unfoldable pub drawn : ℕ → ℕ → ℕ
drawn n state = next state / 2 ^ 33 % n

-- the state after this many draws
unfoldable pub state_after : ℕ → ℕ → ℕ
state_after zero state = state
state_after (suc draws) state = next (state_after draws state)
