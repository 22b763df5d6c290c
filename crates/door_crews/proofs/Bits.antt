-- One of two, or none.
use Rattle.std.proofs.Common.{◌≡◌, ◌⊎◌, ◌||◌, inl, inr, Bool, true, false, refl}

pub some_is : (a b : Bool) → a || b ≡ true → (a ≡ true) ⊎ (b ≡ true)
some_is true b e = inl refl
some_is false b e = inr e

pub not_both : (a : Bool) → a ≡ true → a ≡ false → ⊥
not_both true e f = absurd cc
not_both false e f = absurd cc
