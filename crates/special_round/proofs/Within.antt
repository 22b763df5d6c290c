-- What is left of protections is within the seats.
use Rattle.std.proofs.Common.{◌≡◌, ◌≤◌, ◌+◌, ◌-◌, ℕ, List, [], ◌∷◌, arith}
use Rattle.std.specs.Prelude.{min, sum}
use Rattle.std.specs.List.{fold}
use Rattle.office_base.specs.Placement.{placed_on}
use Rattle.office_base.specs.declared.step.Pair.{Pair}
use Rattle.special_round.specs.Remaining.{protections_left}

sum_from : (a : ℕ) (xs : List ℕ) → fold ◌+◌ a xs ≡ a + sum xs
sum_from a [] = omega arith
sum_from a (x ∷ xs) = omega (arith, sum_from (a + x) xs, sum_from (0 + x) xs)

fits : (n room rest all : ℕ) → rest ≤ room - min n room → all ≡ (0 + min n room) + rest → all ≤ room
fits n room rest all h e = omega (arith, h, e)

pub left_within : (trait room : ℕ) (counts : List ℕ) (pairs : List Pair) → sum (protections_left trait counts pairs room) ≤ room
left_within trait room [] pairs = omega arith
left_within trait room (count ∷ counts) pairs =
    let n : ℕ = count - placed_on trait pairs in
    let rest : List ℕ = protections_left (trait + 1) counts pairs (room - min n room) in
    fits n room (sum rest) (sum (min n room ∷ rest)) (left_within (trait + 1) (room - min n room) counts pairs) (sum_from (0 + min n room) rest)
