-- The traits of a person by their numbers.
use Rattle.std.proofs.Common.{◌≡◌, ℕ, ◌<◌, ◌≤◌, ◌^◌, ◌*◌, false, bit_and, ap, ◌∙◌, refl, arith}
use Rattle.std.proofs.lemmas.Nat.Bits.{and_pow, bit_at_above}
use Rattle.office_base.specs.Person.{has_trait}
use Rattle.office_base.specs.declared.person.TraitSet.{TraitSet}

-- a number below 64 has no bit from 6 on
and-high_bit : (n t : ℕ) → n < 64 → 6 ≤ t → bit_and n (2 ^ t) ≡ 0
and-high_bit n t small high = and_pow n t ∙ (ap (λ b. b * 2 ^ t) (bit_at_above n 6 t small high) ∙ omega arith)

-- a set of the six traits has no trait from 6 on
pub has_trait-high : (traits : TraitSet) (t : ℕ) → traits.0 < 64 → 6 ≤ t → has_trait traits t ≡ false
has_trait-high traits t small high = rw (and-high_bit traits.0 t small high) refl
