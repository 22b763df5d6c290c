-- How many connections came at a row of doors.
use Rattle.std.proofs.Common.{◌≡◌, ◌∙◌, ◌+◌, ◌*◌, ℕ, List, [], ◌∷◌, map, replicate, sum, refl, ap, arith}
use Rattle.std.specs.List.{AllByRecursion}
use Rattle.std.proofs.lemmas.List.Folds.{sum_by-replicate}
use Rattle.std.proofs.lemmas.List.Sums.{sum_by-cons}

-- no connection is still to come
none_come : {D : Type 0} (to_come : D → ℕ) (doors : List D) → AllByRecursion (λ door. to_come door ≡ 0) doors → sum (map to_come doors) ≡ 0
none_come to_come [] all = refl
none_come to_come (door ∷ doors) all =
    let one = sum_by-cons (λ (n : ℕ). n) (to_come door) (map to_come doors) in
    let rest = none_come to_come doors all.1 in
    let here = all.0 in
    omega (arith, one, rest, here)

-- If all connections came, their number is that of the workers times that of each worker.
pub all_come : {D : Type 0} (to_come : D → ℕ) (conns workers : ℕ) (doors doors' : List D) → AllByRecursion (λ door. to_come door ≡ 0) doors' → map to_come doors ≡ replicate workers conns
    → sum (map to_come doors) ≡ workers * conns + sum (map to_come doors')
all_come to_come conns workers doors doors' all are =
    let here = ap (λ (row : List ℕ). sum row) are ∙ sum_by-replicate (λ (n : ℕ). n) workers conns in
    let none = none_come to_come doors' all in
    omega (arith, here, none)
