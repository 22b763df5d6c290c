use Rattle.std.proofs.Common.{◌≡◌, ◌<◌, ◌≤◌, ◌+◌, ℕ, get_or, if◌then◌else◌}
use Rattle.office_base.specs.Person.{has_trait}
use Rattle.slot_cert.proofs.bounds.take.Given as goal

abbrev pub invariant-loop-n : goal.invariant-loop-n
invariant-loop-n l = record {
  done : (n : ℕ) → n < l.n → (if has_trait (record { 0 = n }) l.t then 1 else 0) + get_or l.bounds n 0 ≡ get_or l.initial.bounds n 0;
  left : (n : ℕ) → l.n ≤ n → get_or l.bounds n 0 ≡ get_or l.initial.bounds n 0;
}
