-- Rows that are put one after another.
use Rattle.std.proofs.Common.{◌≡◌, ◌<◌, ◌+◌, ◌∙◌, ℕ, List, [], ◌∷◌, length, drop, get_or, refl, ap, sym}
use Rattle.std.proofs.lemmas.List.{drop_more}
use Rattle.kept_rows.specs.Tables.{Tables, Untold}
use Rattle.keeper_mem.specs.Batch.{with_put, with_all}
use Rattle.keeper_mem.specs.declared.batch.Put.{Put}
use Rattle.keeper_mem.specs.declared.batch.Put.TheVariants.{Answer, Raise}

-- once one more row was put, those that are left make the same of the tables
pub put_next : (rows : List Put) (i : ℕ) (d : Put) (before after all : Tables) → i < length rows → after ≡ with_put (get_or rows i d) before → with_all (drop i rows) before ≡ all → with_all (drop (i + 1) rows) after ≡ all
put_next rows i d before after all within one rest =
    ap (with_all (drop (i + 1) rows)) one ∙ (sym (ap (λ (l : List Put). with_all l before) (drop_more rows i d within)) ∙ rest)

put_hidden : (row : Put) → with_put row Untold ≡ Untold
put_hidden (Answer row) = refl
put_hidden (Raise row) = refl

-- rows show no hidden tables
pub all_hidden : (rows : List Put) → with_all rows Untold ≡ Untold
all_hidden [] = refl
all_hidden (row ∷ rows) = ap (with_all rows) (put_hidden row) ∙ all_hidden rows
