-- Tables with rows that wait.
use Rattle.std.proofs.Common.{◌≡◌, List, [], ◌∷◌, ◌++◌, refl, sym, subst}
use Rattle.kept_rows.specs.Tables.{Tables, Untold, NoSeason, Records, AreTold}
use Rattle.kept_rows.proofs.Unchanged.{told_same}
use Rattle.keeper_mem.proofs.BatchLemmas.{all_hidden}
use Rattle.keeper_mem.specs.Batch.{with_put, with_all}
use Rattle.keeper_mem.specs.declared.batch.Put.{Put}

-- one more row waits after the others
pub all_more : (rows : List Put) (row : Put) (tables : Tables) → with_all (rows ++ row ∷ []) tables ≡ with_put row (with_all rows tables)
all_more [] row tables = refl
all_more (first ∷ rows) row tables = all_more rows row (with_put first tables)

-- what is done to visible tables that are unchanged
pub told_by : (f : Tables → Tables) (before mid : Tables) → f Untold ≡ Untold → AreTold before mid → AreTold (f before) (f mid)
told_by f before Untold hidden same = subst (AreTold (f before)) (sym hidden) tt
told_by f before NoSeason hidden same = subst (λ (t : Tables). AreTold (f t) (f NoSeason)) (sym same) (told_same (f NoSeason))
told_by f before (Records kept) hidden same = subst (λ (t : Tables). AreTold (f t) (f (Records kept))) (sym same) (told_same (f (Records kept)))

pub told_all : (rows : List Put) (before mid : Tables) → AreTold before mid → AreTold (with_all rows before) (with_all rows mid)
told_all rows before mid same = told_by (with_all rows) before mid (all_hidden rows) same
