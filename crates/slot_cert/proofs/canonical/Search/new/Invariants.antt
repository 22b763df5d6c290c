use Rattle.std.proofs.Common.{◌≡◌, ◌<◌, ℕ, length, get_or}
use Rattle.slot_cert.specs.Bounds.{bound}
use Rattle.slot_cert.proofs.canonical.Search.new.Given as goal

abbrev pub invariant-loop-n : goal.invariant-loop-n
invariant-loop-n l = record {
  sixty_four : length l.bounds ≡ 64;
  told : (n : ℕ) → n < l.n → get_or l.bounds n 0 ≡ bound (record { 0 = n }) l.protections l.people;
}
