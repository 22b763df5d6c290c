-- The tables before a command, if the tables after it are visible.
use Rattle.std.proofs.Common.{◌≡◌, Bool, false, refl, sym, subst}
use Rattle.kept_rows.specs.Tables.{Tables, Untold, NoSeason, Records, AreTold, IsFound, IsTold, still}
use Rattle.season_commands.specs.Run.{TellsSeason}

-- if nothing changed, these are the visible tables after it
pub still_same : (before after : Tables) → AreTold before after → still before after ≡ after
still_same before Untold told = refl
still_same before NoSeason told = told
still_same before (Records kept) told = told

pub still_from : (P : Tables → Type 0) (before after : Tables) → AreTold before after → P after → P (still before after)
still_from P before after told holds = subst P (sym (still_same before after told)) holds

pub still_to : (P : Tables → Type 0) (before after : Tables) → AreTold before after → P (still before after) → P after
still_to P before after told holds = subst P (still_same before after told) holds

-- what held of the tables at first holds at the end too, if the last tables are hidden or the same ones were visible
pub still_later : (P : Tables → Type 0) (before mid after : Tables) → (IsTold after → IsTold mid) → P Untold → P (still before mid) → P (still before after)
still_later P before mid Untold was none holds = none
still_later P before Untold NoSeason was none holds = absurd (was tt)
still_later P before NoSeason NoSeason was none holds = holds
still_later P before (Records kept) NoSeason was none holds = holds
still_later P before Untold (Records last) was none holds = absurd (was tt)
still_later P before NoSeason (Records last) was none holds = holds
still_later P before (Records kept) (Records last) was none holds = holds

pub still_none : (before mid after : Tables) → (IsTold after → IsTold mid) → IsFound false (still before mid) → IsFound false (still before after)
still_none before mid after was holds = still_later (λ t. IsFound false t) before mid after was tt holds

-- a season and none are apart
pub some_apart : (tables : Tables) → IsFound false tables → TellsSeason tables → ⊥
some_apart Untold found tells = tells
some_apart NoSeason found tells = tells
some_apart (Records kept) found tells = absurd (cc found)
