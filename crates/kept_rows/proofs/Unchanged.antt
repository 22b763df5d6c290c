-- Tables that are unchanged.
use Rattle.std.proofs.Common.{refl}
use Rattle.kept_rows.specs.Tables.{Tables, AreTold, Untold, NoSeason, Records}

-- the tables are the tables, if they are visible
pub told_same : (tables : Tables) → AreTold tables tables
told_same Untold = tt
told_same NoSeason = refl
told_same (Records kept) = refl
