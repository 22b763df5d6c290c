-- Lists by their ranges in one vector.
use Rattle.std.specs.Prelude.{◌≤◌, ◌-◌, ℕ, List, drop, length, map, take}
use Rattle.std.specs.List.{AllByRecursion}

-- the items of a range, from its start to before its end
abbrev pub part : {T : Type 0} → List T → ℕ × ℕ → List T
part items range = take (range.1 - range.0) (drop range.0 items)

-- the lists of these ranges
abbrev pub lists_of : {T : Type 0} → List T → List (ℕ × ℕ) → List (List T)
lists_of items ranges = map (part items) ranges

-- the range lies within the items
abbrev pub IsWithin : {T : Type 0} → List T → ℕ × ℕ → Type 0
IsWithin items range = (range.0 ≤ range.1) × (range.1 ≤ length items)

-- each range lies within the items
abbrev pub AreWithin : {T : Type 0} → List T → List (ℕ × ℕ) → Type 0
AreWithin items ranges = AllByRecursion (IsWithin items) ranges
