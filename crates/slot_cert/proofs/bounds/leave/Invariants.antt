use Rattle.std.proofs.Common.{◌≡◌, ◌<◌, ◌≤◌, ◌+◌, ℕ, get_or, if◌then◌else◌}
use Rattle.placements.specs.Demand.{is_within}
use Rattle.slot_cert.proofs.bounds.leave.Given as goal

abbrev pub invariant-loop-n : goal.invariant-loop-n
invariant-loop-n l = record {
  done : (n : ℕ) → n < l.n → (if is_within l.traits (record { 0 = n }) then 0 else 1) + get_or l.bounds n 0 ≡ get_or l.initial.bounds n 0;
  left : (n : ℕ) → l.n ≤ n → get_or l.bounds n 0 ≡ get_or l.initial.bounds n 0;
}
