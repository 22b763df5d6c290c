-- A row of doors, each with a worker of one crew.
use Rattle.std.specs.Prelude.{◌≡◌, ℕ, ◌+◌, List, [], ◌∷◌}

module _ {D P : Type 0} (after_hire : P → P → P → Type 0) (after_work : ℕ → D → D → P → P → Type 0) (after_return : P → P → P → Type 0) where
  -- Every door, from this number on, has a worker with its number: who was split off the crew, served the door, and was taken in again after the
  -- workers of the later doors.
  abbrev pub AllServed : ℕ → List D → List D → P → P → Type 0
  AllServed number [] doors' crew crew' = (doors' ≡ []) × (crew' ≡ crew)
  AllServed number (door ∷ doors) doors' crew crew' = (door' : D) × (others : List D) × (left : P) × (worker : P) × (worker' : P) × (back : P)
      × (doors' ≡ door' ∷ others) × after_hire crew left worker × after_work number door door' worker worker'
      × AllServed (number + 1) doors others left back × after_return back worker' crew'
