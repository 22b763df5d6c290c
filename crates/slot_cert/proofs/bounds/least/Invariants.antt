use Rattle.std.proofs.Common.{◌≡◌, ◌<◌, ◌≤◌, ℕ, get_or}
use Rattle.slot_cert.proofs.bounds.least.Given as goal

abbrev pub invariant-loop-bound : goal.invariant-loop-bound
invariant-loop-bound l = record {
  below : (n : ℕ) → n < l.bound-index → l.least ≤ get_or l.bounds n 0;
  met : (n : ℕ) × (n < 64) × (get_or l.bounds n 0 ≡ l.least);
}
