-- How large numbers are, and how long.
use Rattle.std.proofs.Common.{◌≤◌, ◌<◌, ◌*◌, ℕ, length, arith}
use Rattle.std.specs.Fmt.{decimal}
use Rattle.std.proofs.lemmas.Fmt.{length-decimal-le}

-- a number below a hundred million has at most eight digits
pub eight_at_most : (n : ℕ) → n < 100000000 → length (decimal n) ≤ 8
eight_at_most n small = length-decimal-le 8 n (omega arith) (omega (arith, small)) (omega (arith, small))

-- how far the last choice can be from the first
pub stride_bound : (place stride : ℕ) → place < 40 → stride ≤ 9 → place * stride ≤ 360
stride_bound place stride near small = grind arith
