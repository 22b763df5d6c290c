-- What is visible of a door's connections, and what a call does to the door.
use Rattle.std.specs.Prelude.{◌≡◌, ℕ, List, [], ◌∷◌, ◌++◌, Option, Some, None, length}

-- the connections still to come, and those given back, the first given back first
pub record Visits (C : Type 0) : Type 0 where
  pub coming : List C
  pub returned : List C

-- the first connection to come is given out, and those given back stay; hidden connections stay hidden
abbrev pub GivesFirst : {C : Type 0} → Option (Visits C) → C → Option (Visits C) → Type 0
GivesFirst None conn after = after ≡ None
GivesFirst (Some before) conn None = ⊥
GivesFirst (Some before) conn (Some after) = (before.coming ≡ conn ∷ after.coming) × (after.returned ≡ before.returned)

-- the connection is given back, after those that were given back before
abbrev pub TakesBack : {C : Type 0} → Option (Visits C) → C → Option (Visits C) → Type 0
TakesBack None conn after = after ≡ None
TakesBack (Some before) conn None = ⊥
TakesBack (Some before) conn (Some after) = (after.coming ≡ before.coming) × (after.returned ≡ before.returned ++ conn ∷ [])

-- if the connections are visible, this many are still to come
abbrev pub AreComing : {C : Type 0} → ℕ → Option (Visits C) → Type 0
AreComing n None = Unit {0}
AreComing n (Some visits) = n ≡ length visits.coming
