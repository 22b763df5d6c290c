-- That rows give one register, which is sound, or have one fault.
use Rattle.std.specs.Prelude.{◌≡◌, ◌⊎◌, ℕ, List}
use Rattle.section_rows.specs.Rows.{Row}
use Rattle.section_rows.specs.declared.fault.TableFault.TheVariants.{Bad}
use Rattle.rank_lists.specs.Register.{AreRanks, IsFault, IsRead, Ranks}
use Rattle.rank_lists.specs.declared.fault.RankKind.{RankKind}

-- Rows give ranks, which are sound, or have a fault; never both, and never two that differ.
pub record HaveOneReading (rows : List Row) : Type 0 where
  pub some : ((ranks : Ranks) × IsRead rows ranks) ⊎ ((row : ℕ) × (kind : RankKind) × IsFault rows (Bad row kind))
  pub apart : (ranks : Ranks) (row : ℕ) (kind : RankKind) → IsRead rows ranks → IsFault rows (Bad row kind) → ⊥
  pub sound : (ranks : Ranks) → IsRead rows ranks → AreRanks ranks
  pub one_value : (ranks other : Ranks) → IsRead rows ranks → IsRead rows other → ranks ≡ other
  pub one_fault : (row other : ℕ) (kind next : RankKind) → IsFault rows (Bad row kind) → IsFault rows (Bad other next) → (row ≡ other) × (kind ≡ next)
