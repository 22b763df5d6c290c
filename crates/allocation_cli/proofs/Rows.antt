-- Doors that are made one after another.
use Rattle.std.proofs.Common.{◌≡◌, ◌≤◌, ◌∙◌, ℕ, suc, zero, ◌+◌, Bool, true, false, List, [], ◌∷◌, ◌++◌, length, map, replicate, ap, arith, not, if◌then◌else◌}
use Rattle.std.specs.List.{AllByRecursion}
use Rattle.std.proofs.lemmas.List.{map_push, replicate_more}
use Rattle.office_base.specs.Limits.{most_connections}
use Rattle.system_edge.specs.Counts.{DoorCounts}

-- That many doors are made, each with this number of connections to come.
abbrev pub AreMade : {L : Type 0} → ℕ → ℕ → List (DoorCounts L) → Type 0
AreMade made conns doors = map (λ door. door.left) doors ≡ replicate made conns

-- the row of doors after a push that found memory
pushed : {L : Type 0} → (fine : Bool) (doors row : List (DoorCounts L)) (door : DoorCounts L) → fine ≡ not false → row ≡ (if fine then doors ++ door ∷ [] else doors) → row ≡ doors ++ door ∷ []
pushed {L} true doors row door found same = same
pushed {L} false doors row door found same = absurd (cc found)

-- No door is made yet.
pub none_made : {L : Type 0} → (conns : ℕ) (doors : List (DoorCounts L)) → doors ≡ [] → AreMade 0 conns doors
none_made {L} conns doors none = ap (λ (row : List (DoorCounts L)). map (λ door. door.left) row) none

-- One more is made.
pub one_more : {L : Type 0} → (listener : L) (made conns : ℕ) (fine : Bool) (doors row : List (DoorCounts L)) (door : DoorCounts L) → AreMade made conns doors
    → door ≡ record { listener = listener; left = conns; out = 0; faults = 0 } → fine ≡ not false → row ≡ (if fine then doors ++ door ∷ [] else doors) → AreMade (made + 1) conns row
one_more {L} listener made conns fine doors row door before same found is =
    let all = ap (λ (them : List (DoorCounts L)). map (λ door. door.left) them) (pushed fine doors row door found is) in
    let last = map_push (λ (door : DoorCounts L). door.left) doors door in
    let earlier = ap (λ (lefts : List ℕ). lefts ++ door.left ∷ []) before in
    let here = ap (λ (door : DoorCounts L). replicate made conns ++ door.left ∷ []) same in
    all ∙ (last ∙ (earlier ∙ (here ∙ replicate_more made conns)))

-- All of them are made.
pub all_made : {L : Type 0} → (made workers conns : ℕ) (doors : List (DoorCounts L)) → AreMade made conns doors → made ≤ workers → workers ≤ made → AreMade workers conns doors
all_made {L} made workers conns doors are low high =
    let same : made ≡ workers = omega (arith, low, high) in are ∙ ap (λ (n : ℕ). replicate n conns) same

-- No doors are few, and each has few connections to come.
pub none_suit : {L : Type 0} → (doors : List (DoorCounts L)) → map (λ door. door.left) doors ≡ [] → (length doors ≤ 64) × AllByRecursion (λ door. door.left ≤ most_connections) doors
none_suit {L} [] are = (omega arith, tt)
none_suit {L} (door ∷ doors) are = absurd (cc are)

-- Each has no more connections to come than that.
pub row_suits : {L : Type 0} → (workers conns : ℕ) (doors : List (DoorCounts L)) → AreMade workers conns doors → conns ≤ most_connections → AllByRecursion (λ door. door.left ≤ most_connections) doors
row_suits {L} workers conns [] are light = tt
row_suits {L} zero conns (door ∷ doors) are light = absurd (cc are)
row_suits {L} (suc n) conns (door ∷ doors) are light =
    let here : door.left ≡ conns = cc are in
    let rest : map (λ (door : DoorCounts L). door.left) doors ≡ replicate n conns = cc are in
    (omega (arith, here, light), row_suits n conns doors rest light)
