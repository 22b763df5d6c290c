use Rattle.std.proofs.Common.{◌≡◌, ◌<◌, ◌≤◌, ℕ, true, get_or}
use Rattle.office_base.specs.Person.{has_trait}
use Rattle.slot_cert.proofs.bounds.keeps.Given as goal

abbrev pub invariant-loop-n : goal.invariant-loop-n
invariant-loop-n l = (n : ℕ) → n < l.n → has_trait (record { 0 = n }) l.t ≡ true → l.most ≤ get_or l.bounds n 0
