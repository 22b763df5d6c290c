-- What is visible of a keeper after a call that ended well.
use Rattle.std.proofs.Common.{◌≡◌, inl, inr, ℕ, cond, Bool, true, false, IsTrue, List, [], ◌∷◌, Option, Some, None, Result, Ok, Err, OnOk, OnErr, ◌&&◌, true≢false, refl, sym, ap, subst, ◌∙◌}
use Rattle.std.specs.List.{AllByRecursion}
use Rattle.sqlite.specs.Store.{Ghosts}
use Rattle.sqlite.specs.Tree.{Trees}
use Rattle.sqlite.specs.Effect.{Database}
use Rattle.sqlite.specs.Effect.{IsDatabase}
use Rattle.sqlite.specs.State.{HasCleanDisk, IsLive, Survives}
use Rattle.sqlite_catalog.specs.Listing.{Lists}
use Rattle.sqlite_catalog.proofs.ReadLemmas.{lists_once}
use Rattle.sqlite_trees.proofs.Doubt.{no_doubt}
use Rattle.sqlite_trees.specs.Objects.{catalog_tree}
use Rattle.keeper_sqlite.specs.Commits.{CommitsNothing}
use Rattle.sqlite.specs.Held.{Held, state}
use Rattle.sqlite.proofs.StateLemmas.{survives_weaker}
use Rattle.std.specs.Borrow.{Bor}
use Rattle.std.proofs.lemmas.Bool.{cases_Bool}
use Rattle.kept_rows.specs.Tables.{Tables, Untold, NoSeason, Records, AreTold, IsTold, IsFound, with_answer, with_raise, with_season, with_cut}
use Rattle.keeper_mem.specs.declared.keeper.KeepFault.{KeepFault}
use Rattle.kept_rows.specs.declared.rows.AnswerRow.{AnswerRow}
use Rattle.kept_rows.specs.declared.rows.AllotRow.{AllotRow}
use Rattle.kept_rows.specs.declared.rows.RaiseRow.{RaiseRow}
use Rattle.stored_tables.specs.Fits.{AnswerFits, RaiseFits}
use Rattle.stored_tables.specs.Layout.{stored, first_four, no_schema, has_tables}
use Rattle.stored_tables.proofs.CreateLemmas.{RunsEach, all_made, fifth_made, all_stand}
use Rattle.stored_tables.specs.Leaves.{LeavesTables}
use Rattle.stored_tables.proofs.LeaveLemmas.{all_leave}
use Rattle.stored_tables.specs.Told.{told, told_if, is_bare, records_of, tables_with, tables_in, without_raises}
use Rattle.stored_tables.specs.Rows.{cuts_of}
use Rattle.stored_tables.proofs.TellLemmas.{text_same, answers_same, raises_same, allots_same}
use Rattle.stored_tables.proofs.LayoutLemmas.{layout}
use Rattle.keeper_sqlite.specs.Kept.{DidAll, plain_calls, table_texts, Keeps, Makes, MadeBy, PutsText, season_calls}
use Rattle.keeper_sqlite.specs.declared.transactions.Change.{Change}
use Rattle.keeper_sqlite.specs.declared.transactions.Change.TheVariants as change
use Rattle.keeper_sqlite.proofs.ToldLemmas.{KeepsIf, put_told, answer_made, raise_made, season_made, cut_made_told, answer_keeps, raise_keeps, season_keeps, cut_keeps}

pub are_told : (x t : Tables) → t ≡ x → AreTold x t
are_told x Untold is = tt
are_told x NoSeason is = sym is
are_told x (Records kept) is = sym is

module _ {S : Type 0} (g : Ghosts S) where
  abbrev pub begun : Held S → Held S
  begun old = record old { in_transaction = true }

  -- a store that is not clean is shut, and hides its tables
  pub dirty_told : (h : Held S) → ((g.view h.store).is_clean ≡ false → (g.view h.store).is_open ≡ false) → (x : Tables) → (HasCleanDisk (state g h) → told (state g h) ≡ x) → AreTold x (told (state g h))
  dirty_told h shut x clean = elim (cases_Bool (g.view h.store).is_clean) [
    | inl holds ↦ are_told x (told (state g h)) (clean (no_doubt (g.view h.store).is_clean holds))
    | inr fails ↦ (
        let none : told (state g h) ≡ Untold = ap (λ b. told_if (b && has_tables h.schema) (tables_in (state g h).now.trees)) (shut fails) in
        subst (AreTold x) (sym none) tt
        )
  ]

  -- a store that is shut hides its tables
  pub open_told : (h : Held S) → ((g.view h.store).is_clean ≡ false → (g.view h.store).is_open ≡ false) → (x : Tables) → (HasCleanDisk (state g h) → IsTrue (state g h).is_open → told (state g h) ≡ x) → AreTold x (told (state g h))
  open_told h shut x clean = elim (cases_Bool (g.view h.store).is_open) [
    | inl holds ↦ dirty_told h shut x (λ sound. clean sound holds)
    | inr fails ↦ (
        let none : told (state g h) ≡ Untold = ap (λ b. told_if (b && has_tables h.schema) (tables_in (state g h).now.trees)) fails in
        subst (AreTold x) (sym none) tt
        )
  ]

  pub ok_told : (h : Held S) → ((g.view h.store).is_clean ≡ false → (g.view h.store).is_open ≡ false) → (x : Tables) (r : Result (Unit {0}) KeepFault) → (HasCleanDisk (state g h) → OnOk r (told (state g h) ≡ x)) → OnOk r (AreTold x (told (state g h)))
  ok_told h shut x (Err fault) clean = tt
  ok_told h shut x (Ok none) clean = dirty_told h shut x clean

  -- the same of a call that failed, which may also have shut the store
  pub err_told : (h : Held S) → ((g.view h.store).is_clean ≡ false → (g.view h.store).is_open ≡ false) → (x : Tables) (r : Result (Unit {0}) KeepFault)
      → (HasCleanDisk (state g h) → IsTrue (state g h).is_open → OnErr r (told (state g h) ≡ x)) → OnErr r (AreTold x (told (state g h)))
  err_told h shut x (Ok none) clean = tt
  err_told h shut x (Err fault) clean = open_told h shut x clean

  -- ---- what each change makes of the visible tables

  -- a store with visible tables has its tables
  pub told_has : (h : Held S) → IsTold (told (state g h)) → (strict : Bool) × ((state g h).now.schema ≡ stored strict) × (told (state g h) ≡ tables_in (state g h).now.trees)
  told_has h it = elim (cases_Bool ((state g h).is_open && has_tables h.schema)) [
    | inl holds ↦ (
        let has : has_tables h.schema ≡ true = second (state g h).is_open (has_tables h.schema) holds in
        let l = layout.0 h.schema has in
        (l.0, l.1, ap (λ b. told_if b (tables_in (state g h).now.trees)) holds)
        )
    | inr fails ↦ absurd (subst (λ b. IsTold (told_if b (tables_in (state g h).now.trees))) fails it)
  ]
    where
      second : (a b : Bool) → (a && b) ≡ true → b ≡ true
      second true b h = h
      second false b h = absurd (true≢false (sym h))

  -- It hides none and keeps the schema. What it makes of stored tables is this.
  pub record Puts (change : Change) (f : Tables → Tables) (old : Held S) : Type 0 where
    pub hidden : f Untold ≡ Untold
    pub keeps : (last : Held S) → Makes g change (begun old) last → KeepsIf g (begun old) last
    pub makes : (strict : Bool) (last : Held S) → (state g old).now.schema ≡ stored strict → told (state g old) ≡ tables_in (state g old).now.trees → Makes g change (begun old) last
        → tables_in (state g last).now.trees ≡ f (tables_in (state g old).now.trees)

  pub answer_puts : (row : AnswerRow) (old : Held S) → AnswerFits row → IsFound true (told (state g old)) → Puts (change.Answer row) (with_answer row) old
  answer_puts row old fits found = record {
    hidden = refl;
    keeps = λ last ran. answer_keeps g row (begun old) last ran;
    makes = λ strict last has before ran. answer_made g strict row (begun old) last fits has ran (subst (IsFound true) before found);
  }

  pub raise_puts : (row : RaiseRow) (old : Held S) → RaiseFits row → IsFound true (told (state g old)) → Puts (change.Raise row) (with_raise row) old
  raise_puts row old fits found = record {
    hidden = refl;
    keeps = λ last ran. raise_keeps g row (begun old) last ran;
    makes = λ strict last has before ran. raise_made g strict row (begun old) last fits has ran (subst (IsFound true) before found);
  }

  pub season_puts : (text : Bor (List ℕ)) (old : Held S) → Puts (change.Season text) (with_season text.now) old
  season_puts text old = record {
    hidden = refl;
    keeps = λ last put. season_keeps g text.now (begun old) last put;
    makes = λ strict last has before put. let it = season_made g strict text.now (begun old) last has put in it.after ∙ ap (with_season text.now) (sym it.before);
  }

  pub cut_puts : (rows : Bor (List AllotRow)) (old : Held S) → Puts (change.Cut rows) (with_cut rows.now) old
  cut_puts rows old = record {
    hidden = refl;
    keeps = λ last put. cut_keeps g rows.now (begun old) last put;
    makes = λ strict last has before put. cut_made_told g strict rows.now (begun old) last has put;
  }

  -- a season is put if none of the five tables has a row
  pub season_empty : (strict : Bool) (text : List ℕ) (old new : Held S) (r : Result (Unit {0}) KeepFault) → (HasCleanDisk (state g new) → OnOk r (Keeps g (PutsText g season_calls text) old new))
      → HasCleanDisk (state g new) → old.schema ≡ stored strict → OnOk r (AllByRecursion (λ t. (state g old).now.trees t ≡ []) (0 ∷ 1 ∷ 3 ∷ 5 ∷ 6 ∷ []))
  season_empty strict text old new (Err fault) kept clean has = tt
  season_empty strict text old new (Ok none) kept clean has = let k = kept clean in (season_made g strict text (begun old) k.last has k.done).none

  -- ---- what is visible after a put, and after a crash

  told_is : (h : Held S) (t : Tables) → told (state g h) ≡ t → IsTold t → tables_in (state g h).now.trees ≡ t
  told_is h t is it = sym (told_has h (subst IsTold (sym is) it)).2 ∙ is

  pub record PutShows (change : Change) (f : Tables → Tables) (old new : Held S) (r : Result (Unit {0}) KeepFault) : Type 0 where
    pub stays : Puts change f old → HasCleanDisk (state g new) → OnOk r (told (state g new) ≡ f (told (state g old)))
    pub ok : Puts change f old → OnOk r (AreTold (f (told (state g old))) (told (state g new)))
    pub err : OnErr r (AreTold (told (state g old)) (told (state g new)))
    pub crash : Puts change f old → IsTold (told (state g old)) → Survives (state g old) (state g new) (λ db. tables_in db ≡ f (told (state g old)))
    pub alone : HasCleanDisk (state g new) → OnOk r (IsTold (told (state g new)) → (db : Trees) → (state g new).may_leave db → tables_in db ≡ told (state g new))

  puts_stays : (change : Change) (f : Tables → Tables) (old new : Held S) (r : Result (Unit {0}) KeepFault) → (HasCleanDisk (state g new) → OnOk r (Keeps g (Makes g change) old new)) → Puts change f old
      → HasCleanDisk (state g new) → OnOk r (told (state g new) ≡ f (told (state g old)))
  puts_stays change f old new (Err fault) kept puts clean = tt
  puts_stays change f old new (Ok none) kept puts clean = put_told g f (Makes g change) old new puts.hidden puts.keeps puts.makes (kept clean)

  alone_kept : (Done : Held S → Held S → Type 0) (old new : Held S) (r : Result (Unit {0}) KeepFault) → ((db : Trees) → IsTrue (g.view new.store).is_open → g.recovers new.store db → db ≡ (g.view new.store).committed)
      → (HasCleanDisk (state g new) → OnOk r (Keeps g Done old new)) → HasCleanDisk (state g new)
      → OnOk r (IsTold (told (state g new)) → (db : Trees) → (state g new).may_leave db → tables_in db ≡ told (state g new))
  alone_kept Done old new (Err fault) settled kept clean = tt
  alone_kept Done old new (Ok none) settled kept clean = λ it db leaves.
      let k = kept clean in
      ap tables_in (settled db k.is_open leaves ∙ ap (λ (d : Database). d.trees) (k.committed ∙ sym k.shown)) ∙ told_is new (told (state g new)) refl it

  pub put_shows : (change : Change) (f : Tables → Tables) (old new : Held S) (r : Result (Unit {0}) KeepFault) → ((g.view new.store).is_clean ≡ false → (g.view new.store).is_open ≡ false)
      → ((db : Trees) → IsTrue (g.view new.store).is_open → g.recovers new.store db → db ≡ (g.view new.store).committed)
      → (HasCleanDisk (state g new) → IsTrue (state g new).is_open → OnErr r (told (state g new) ≡ told (state g old))) → Survives (state g old) (state g new) (MadeBy g change old)
      → (HasCleanDisk (state g new) → OnOk r (Keeps g (Makes g change) old new)) → PutShows change f old new r
  put_shows change f old new r shut settled stays_err made kept = record {
    stays = puts_stays change f old new r kept;
    ok = λ puts. ok_told new shut (f (told (state g old))) r (puts_stays change f old new r kept puts);
    err = err_told new shut (told (state g old)) r stays_err;
    crash = λ puts it.
        let h = told_has old it in
        survives_weaker (state g old) (state g new) _ _ (λ clean db by. ap tables_in by.is ∙ (puts.makes h.0 by.last h.1 h.2 by.done ∙ ap f (sym h.2))) made;
    alone = alone_kept (Makes g change) old new r settled kept;
  }

  -- ---- what is visible after a call that committed nothing

  same_database : (a b : Database) → IsDatabase a → IsDatabase b → b.trees ≡ a.trees → b ≡ a
  same_database a b one two same =
      let schema : b.schema ≡ a.schema = lists_once (a.trees catalog_tree) b.schema a.schema (subst (λ (t : Trees). Lists (t catalog_tree) b.schema) same two.lists) one.lists in
      λ i. record { schema = schema i; trees = same i }

  -- A transaction began, committed nothing, and its end left the last commit: what is shown is what was shown.
  pub back_told : (old first mid last : Held S) → first ≡ begun old → ((db : Trees) → IsTrue (g.view old.store).is_open → g.recovers old.store db → db ≡ (g.view old.store).committed)
      → (IsTrue (g.view mid.store).is_open → g.recovers mid.store (g.view mid.store).committed) → IsLive (state g old) → IsLive (state g last) → CommitsNothing (state g first) (state g mid)
      → (IsTrue (state g old).is_open → (state g old).now ≡ (state g old).committed) → (IsTrue (state g last).is_open → (state g last).now ≡ (state g last).committed)
      → HasCleanDisk (state g mid) → IsTrue (state g mid).is_open → (state g last).committed ≡ (state g mid).committed → IsTrue (state g last).is_open → told (state g last) ≡ told (state g old)
  back_told old first mid last is settled stays was_live is_live nothing before after clean mid_open kept is_so =
      let inside : CommitsNothing (state g (begun old)) (state g mid) = subst (λ (h : Held S). CommitsNothing (state g h) (state g mid)) is nothing in
      let opened : IsTrue (state g old).is_open = inside.was_open clean mid_open in
      let left : g.recovers old.store (g.view mid.store).committed = elim (inside.survives.crash clean (g.view mid.store).committed (stays mid_open)) [ inl may ↦ may | inr none ↦ absurd none ] in
      let trees : (state g last).committed.trees ≡ (state g old).committed.trees = ap (λ (d : Database). d.trees) kept ∙ settled (g.view mid.store).committed opened left in
      let same : (state g last).committed ≡ (state g old).committed = same_database (state g old).committed (state g last).committed (was_live opened).1 (is_live is_so).1 trees in
      let now : (state g last).now ≡ (state g old).now = after is_so ∙ (same ∙ sym (before opened)) in
      let both : (state g last).is_open ≡ (state g old).is_open = is_so ∙ sym opened in
      λ i. told_if (both i && has_tables (now i).schema) (tables_in (now i).trees)

  pub put_back : {T : Type 0} {E : Type 0} (old first mid last : Held S) (r : Result T E) → first ≡ begun old → ((db : Trees) → IsTrue (g.view old.store).is_open → g.recovers old.store db → db ≡ (g.view old.store).committed)
      → (IsTrue (g.view mid.store).is_open → g.recovers mid.store (g.view mid.store).committed) → IsLive (state g old) → IsLive (state g last) → CommitsNothing (state g first) (state g mid)
      → (IsTrue (state g old).is_open → (state g old).now ≡ (state g old).committed) → (IsTrue (state g last).is_open → (state g last).now ≡ (state g last).committed)
      → (HasCleanDisk (state g last) → HasCleanDisk (state g mid)) → (HasCleanDisk (state g last) → IsTrue (state g last).is_open → OnErr r (IsTrue (state g mid).is_open × ((state g last).committed ≡ (state g mid).committed)))
      → HasCleanDisk (state g last) → IsTrue (state g last).is_open → OnErr r (told (state g last) ≡ told (state g old))
  put_back old first mid last (Ok value) is settled stays was_live is_live nothing before after clean back sound is_so = tt
  put_back old first mid last (Err why) is settled stays was_live is_live nothing before after clean back sound is_so =
      let b = back sound is_so in back_told old first mid last is settled stays was_live is_live nothing before after (clean sound) b.0 b.1 is_so

  -- ---- what is visible once the tables were made

  pub runs_each : (texts : List (List ℕ)) (old last : Held S) → DidAll g (plain_calls texts) old last → RunsEach texts (state g old) (state g last)
  runs_each [] old last d = ap (state g) d
  runs_each (text ∷ texts) old last d = (state g d.0, d.1.count, d.1.ran, runs_each texts d.0 last d.2)

  -- the tables that were there stay, with their rows
  pub tables_left : (old new : Held S) (r : Result (Unit {0}) KeepFault) → (HasCleanDisk (state g new) → OnOk r (Keeps g (DidAll g (plain_calls table_texts)) old new)) → HasCleanDisk (state g new)
      → OnOk r (LeavesTables (state g old).now (state g new).now)
  tables_left old new (Err fault) kept clean = tt
  tables_left old new (Ok none) kept clean =
      let k = kept clean in
      subst (λ (d : Database). LeavesTables (state g old).now d) (sym k.shown) (all_leave (state g (begun old)) (state g k.last) (runs_each table_texts (begun old) k.last k.done))

  -- the tables of an open store that has them are visible
  told_open_is : (h : Held S) (strict : Bool) → IsTrue (state g h).is_open → (state g h).now.schema ≡ stored strict → told (state g h) ≡ tables_in (state g h).now.trees
  told_open_is h strict is_so has = ap (λ b. told_if b (tables_in (state g h).now.trees)) (ap (λ b. b && has_tables h.schema) is_so ∙ (ap has_tables has ∙ layout.1 strict))

  pub fresh_told : (old new : Held S) (r : Result (Unit {0}) KeepFault) → (HasCleanDisk (state g new) → OnOk r (Keeps g (DidAll g (plain_calls table_texts)) old new)) → HasCleanDisk (state g new) → old.schema ≡ no_schema
      → OnOk r (told (state g new) ≡ NoSeason)
  fresh_told old new (Err fault) kept clean has = tt
  fresh_told old new (Ok none) kept clean has =
      let k = kept clean in
      let it = all_made (state g (begun old)) (state g k.last) has (runs_each table_texts (begun old) k.last k.done) in
      told_open_is new true k.is_open (ap (λ (d : Database). d.schema) k.shown ∙ it.0) ∙ (ap (λ (d : Database). tables_in d.trees) k.shown ∙ it.1)

  -- the same trees, if the one of the raises has no row
  same_with : (p : Option (Option ℕ)) (old new : Trees) → new 0 ≡ old 0 → new 1 ≡ old 1 → new 3 ≡ old 3 → new 6 ≡ old 6 → tables_with p new ≡ tables_with p old
  same_with None old new season answers allots raises = refl
  same_with (Some None) old new season answers allots raises = λ i. cond (is_bare (season i) && (is_bare (answers i) && (is_bare (allots i) && is_bare (raises i)))) NoSeason Untold
  same_with (Some (Some n)) old new season answers allots raises = λ i. records_of n (text_same old new season i) (answers_same old new answers i) (raises_same old new raises i) (allots_same old new allots i)

  bare_raises : (old new : Trees) → new 0 ≡ old 0 → new 1 ≡ old 1 → new 3 ≡ old 3 → new 5 ≡ old 5 → new 6 ≡ [] → tables_in new ≡ tables_in (without_raises old)
  bare_raises old new season answers allots phase raises =
      ap (λ rows. tables_with (cuts_of rows) new) phase ∙ same_with (cuts_of (old 5)) (without_raises old) new season answers allots raises

  pub older_told : (old new : Held S) (strict : Bool) (r : Result (Unit {0}) KeepFault) → (HasCleanDisk (state g new) → OnOk r (Keeps g (DidAll g (plain_calls table_texts)) old new)) → HasCleanDisk (state g new) → old.schema ≡ first_four strict
      → OnOk r (told (state g new) ≡ tables_in (without_raises (state g old).now.trees))
  older_told old new strict (Err fault) kept clean has = tt
  older_told old new strict (Ok none) kept clean has =
      let k = kept clean in
      let made = fifth_made strict (state g (begun old)) (state g k.last) has (runs_each table_texts (begun old) k.last k.done) in
      let it = made.1 in
      told_open_is new strict k.is_open (ap (λ (d : Database). d.schema) k.shown ∙ made.0)
      ∙ (ap (λ (d : Database). tables_in d.trees) k.shown ∙ bare_raises (state g old).now.trees (state g k.last).now.trees it.others.0 it.others.1.0 it.others.1.1.0 it.others.1.1.1.0 it.empty)

  pub whole_told : (old new : Held S) (strict : Bool) (r : Result (Unit {0}) KeepFault) → (HasCleanDisk (state g new) → OnOk r (Keeps g (DidAll g (plain_calls table_texts)) old new)) → HasCleanDisk (state g new) → old.schema ≡ stored strict
      → OnOk r (told (state g new) ≡ tables_in (state g old).now.trees)
  whole_told old new strict (Err fault) kept clean has = tt
  whole_told old new strict (Ok none) kept clean has =
      let k = kept clean in
      let it : (state g k.last).now ≡ (state g old).now = all_stand strict (state g (begun old)) (state g k.last) has (runs_each table_texts (begun old) k.last k.done) in
      let now : (state g new).now ≡ (state g old).now = k.shown ∙ it in
      told_open_is new strict k.is_open (ap (λ (d : Database). d.schema) now ∙ has) ∙ ap (λ (d : Database). tables_in d.trees) now
