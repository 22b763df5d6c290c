-- A keeper over a database, as contracts see it.
use Rattle.std.specs.Prelude.{ℕ, refl}
use Rattle.std.specs.Coded.{Coded, code_by, coded×, coded_ℕ}
use Rattle.sqlite.specs.Held.{Held, held_code}

-- the connection, and the faults so far
pub record Stored (S : Type 0) : Type 0 where
  pub connection : Held S
  pub faults : ℕ

abbrev pub stored_code : {S : Type 0} → Coded S → Coded (Stored S)
stored_code {S} store =
    code_by (Held S × ℕ) (coded× (held_code store) coded_ℕ) (λ k. (k.connection, k.faults)) (λ p. record { connection = p.0; faults = p.1 }) (λ _. refl)
