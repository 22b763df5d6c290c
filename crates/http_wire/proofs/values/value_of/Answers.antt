use Rattle.std.proofs.Common.{◌<◌, ◌≤◌, ◌^◌, ℕ, arith, lit<}
use Rattle.std.proofs.Math.Nat.{pow-le-pow_right}
use Rattle.http_wire.proofs.values.value_of.Goals as goal

below : (value i : ℕ) → value < 10 ^ i → i ≤ 17 → value < 100000000000000000
below value i fits few = let most : 10 ^ i ≤ 10 ^ 17 = pow-le-pow_right (lit< tt) few in omega arith

pub overflow_mul-value : goal.overflow_mul-value
overflow_mul-value c =
    let small = below c.loop-digit.value c.loop-digit.digit-index c.loop-digit.invariant.fits (omega arith) in
    omega arith

pub overflow_add-value : goal.overflow_add-value
overflow_add-value c =
    let small = below c.loop-digit.value c.loop-digit.digit-index c.loop-digit.invariant.fits (omega arith) in
    omega arith
