-- The versions of a season bundle.
use Rattle.std.specs.Prelude.{◌≡◌, ◌⊎◌, ℕ}

-- there are two versions: they differ in which unfilled seats are de-reserved
abbrev pub IsVersion : ℕ → Type 0
IsVersion version = (version ≡ 1) ⊎ (version ≡ 2)
