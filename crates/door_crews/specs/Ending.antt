-- How a row of doors ended.
use Rattle.std.specs.Prelude.{◌≡◌, ℕ, ◌⊎◌, List, [], ◌∷◌, map}
use Rattle.std.specs.List.{AllByRecursion}
use Rattle.office_base.specs.Outside.{Rose}

module _ {D : Type 0} (faults : D → ℕ) where
  -- one of the doors failed: its count rose
  abbrev pub SomeRose : List D → List D → Type 0
  SomeRose [] doors' = ⊥
  SomeRose (door ∷ doors) [] = ⊥
  SomeRose (door ∷ doors) (door' ∷ doors') = Rose (faults door) (faults door') ⊎ SomeRose doors doors'

  -- no count rose, and no connection is still to come
  abbrev pub AllEnded : (D → ℕ) → List D → List D → Type 0
  AllEnded to_come doors doors' = AllByRecursion (λ door. to_come door ≡ 0) doors' × (map faults doors' ≡ map faults doors)
