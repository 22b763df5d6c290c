-- Answers and raises that are put together.
use Rattle.std.proofs.Common.{◌≡◌, ◌+◌, ◌<◌, ◌∙◌, ℕ, Bool, true, List, [], ◌∷◌, ◌++◌, Result, Ok, Err, OnOk, take, get_or, length, refl, sym, ap, subst}
use Rattle.std.proofs.lemmas.List.{take_more}
use Rattle.std.specs.List.{AllByRecursion}
use Rattle.std.specs.Borrow.{Bor, MutBor}
use Rattle.sqlite.specs.Store.{Ghosts}
use Rattle.sqlite.specs.State.{HasCleanDisk}
use Rattle.sqlite.specs.Held.{Held, state}
use Rattle.kept_rows.specs.Tables.{Tables, Untold, NoSeason, Records, IsFound}
use Rattle.sqlite.specs.Order.{Row}
use Rattle.keeper_mem.proofs.BatchLemmas.{all_hidden}
use Rattle.keeper_mem.specs.Batch.{with_put, with_all}
use Rattle.keeper_mem.specs.declared.batch.Put.{Put}
use Rattle.keeper_mem.specs.declared.batch.Put.TheVariants.{Answer, Raise}
use Rattle.stored_tables.specs.Layout.{stored}
use Rattle.stored_tables.specs.Told.{told, tables_in}
use Rattle.stored_tables.proofs.SchemaLemmas.{answer_text-puts, raise_text-puts}
use Rattle.keeper_sqlite.specs.Inside.{Acts, Performs}
use Rattle.keeper_sqlite.specs.Kept.{Ran, Did, DidAll, MakesRows, PutFits, put_call, put_calls}
use Rattle.keeper_sqlite.specs.Kept.Call.{Runs}
use Rattle.keeper_sqlite.specs.Stops.{StopsIn}
use Rattle.keeper_sqlite.specs.declared.halt.Halt.{Halt}
use Rattle.keeper_sqlite.specs.declared.transactions.Change.TheVariants as change
use Rattle.keeper_sqlite.proofs.KeeperLemmas.{Puts, begun}
use Rattle.keeper_sqlite.proofs.ToldLemmas.{KeepsCall, keeps_all, answer_made, raise_made}

-- ---- tables

-- a season with one more row is a season
found_more : (row : Put) (tables : Tables) → IsFound true tables → IsFound true (with_put row tables)
found_more (Answer row) Untold found = tt
found_more (Answer row) NoSeason found = found
found_more (Answer row) (Records kept) found = refl
found_more (Raise row) Untold found = tt
found_more (Raise row) NoSeason found = found
found_more (Raise row) (Records kept) found = refl

-- one more row fits
pub put_fits : (rows : List Put) (i : ℕ) (d : Put) → i < length rows → AllByRecursion PutFits (take i rows) → PutFits (get_or rows i d) → AllByRecursion PutFits (take (i + 1) rows)
put_fits rows i d within all one = subst (AllByRecursion PutFits) (sym (take_more rows i d within)) (push (take i rows) all)
  where
    push : (some : List Put) → AllByRecursion PutFits some → AllByRecursion PutFits (some ++ get_or rows i d ∷ [])
    push [] h = (one, tt)
    push (row ∷ some) h = (h.0, push some h.1)

-- ---- calls

module _ {S : Type 0} (g : Ghosts S) where
  keep_rows : (rows : List Put) → AllByRecursion (KeepsCall g) (put_calls rows)
  keep_rows [] = tt
  keep_rows (Answer row ∷ rows) = (answer_text-puts, keep_rows rows)
  keep_rows (Raise row ∷ rows) = (raise_text-puts, keep_rows rows)

  one_made : (strict : Bool) (row : Put) (old mid : Held S) → PutFits row → (state g old).now.schema ≡ stored strict → Did g (put_call row) old mid → IsFound true (tables_in (state g old).now.trees)
      → tables_in (state g mid).now.trees ≡ with_put row (tables_in (state g old).now.trees)
  one_made strict (Answer row) old mid fits has did found = answer_made g strict row old mid fits has did found
  one_made strict (Raise row) old mid fits has did found = raise_made g strict row old mid fits has did found

  rows_made : (strict : Bool) (rows : List Put) (old last : Held S) → AllByRecursion PutFits rows → (state g old).now.schema ≡ stored strict → DidAll g (put_calls rows) old last → IsFound true (tables_in (state g old).now.trees)
      → tables_in (state g last).now.trees ≡ with_all rows (tables_in (state g old).now.trees)
  rows_made strict [] old last fit has did found = ap (λ (h : Held S). tables_in (state g h).now.trees) (sym did)
  rows_made strict (row ∷ rows) old last fit has did found =
      let one = one_made strict row old did.0 fit.0 has did.1 found in
      let keeps = keeps_all g (put_call row ∷ []) old did.0 (keep_rows (row ∷ [])) (did.0, did.1, refl) in
      rows_made strict rows did.0 last fit.1 (keeps.0 ∙ has) did.2 (subst (IsFound true) (sym one) (found_more row (tables_in (state g old).now.trees) found)) ∙ ap (with_all rows) one

  -- what the rows make of the visible tables
  pub rows_put : (rows : Bor (List Put)) (old : Held S) → IsFound true (told (state g old)) → Puts g (change.Rows rows) (with_all rows.now) old
  rows_put rows old found = record {
    hidden = all_hidden rows.now;
    keeps = λ last made. keeps_all g (put_calls rows.now) (begun g old) last (keep_rows rows.now) made.done;
    makes = λ strict last has before made. rows_made strict rows.now (begun g old) last made.fit has made.done (subst (IsFound true) before found);
  }

  -- a statement that was run is one call
  pub did_alone : (text : List ℕ) (values : Row) (old new : MutBor (Held S)) (r : Result (Unit {0}) Halt) → Acts g (λ _. Ran g text values) (StopsIn g (Runs text values ∷ [])) old new r → Performs g (Runs text values ∷ []) old new r
  did_alone text values old new (Ok none) acts = record { done = λ clean. (new.now, acts.done clean, refl); lost = acts.lost }
  did_alone text values old new (Err halt) acts = record { done = acts.done; lost = acts.lost }

  -- the rows were put, and each of them fits
  pub rows_done : (rows : List Put) (old new : MutBor (Held S)) (r : Result (Unit {0}) Halt) → Performs g (put_calls rows) old new r → OnOk r (AllByRecursion PutFits rows) → Acts g (λ _. MakesRows g rows) (StopsIn g (put_calls rows)) old new r
  rows_done rows old new (Ok none) acts fit = record { done = λ clean. record { done = acts.done clean; fit = fit }; lost = acts.lost }
  rows_done rows old new (Err halt) acts fit = record { done = acts.done; lost = acts.lost }
