-- What was found and loaded is what is visible of the store.
use Rattle.std.proofs.Common.{◌≡◌, inl, inr, ℕ, Bool, true, false, ◌&&◌, cond, is_some, IsTrue, List, Option, Some, None, Result, Ok, Err, IfOk, MatchOption, refl, sym, ap, subst, ◌∙◌, true≢false}
use Rattle.std.specs.List.{concat}
use Rattle.std.proofs.lemmas.Bool.{cases_Bool}
use Rattle.sqlite.specs.Store.{Ghosts}
use Rattle.sqlite.specs.Tree.{Trees}
use Rattle.sqlite.specs.Effect.{Database}
use Rattle.sqlite.specs.State.{HasCleanDisk}
use Rattle.sqlite.specs.Held.{Held, state}
use Rattle.kept_rows.specs.Tables.{Tables, Untold, NoSeason, Records, IsFound, IsLoaded, IsTold}
use Rattle.keeper_mem.specs.declared.keeper.KeepFault.{KeepFault}
use Rattle.kept_rows.specs.declared.rows.AnswerRow.{AnswerRow}
use Rattle.kept_rows.specs.declared.rows.AllotRow.{AllotRow}
use Rattle.kept_rows.specs.declared.rows.RaiseRow.{RaiseRow}
use Rattle.kept_rows.specs.declared.rows.Kept.{Kept}
use Rattle.stored_tables.specs.Layout.{stored, has_tables}
use Rattle.stored_tables.specs.Rising.{are_rising}
use Rattle.stored_tables.specs.Rows.{rows_from, part_of, allot_of, answers_in, raises_in, allots_in, text_in, rising_alone, cuts_of}
use Rattle.stored_tables.specs.Told.{told, told_if, tables_in, tables_with, records_of, are_bare}
use Rattle.stored_tables.proofs.StandLemmas.{one_list, one_answer, one_raise, one_allot, one_part, then_some, map_some}
use Rattle.stored_tables.proofs.ShowLemmas.{query_same, shows_phase, shows_parts, shows_answers, shows_raises, shows_allots}
use Rattle.stored_tables.proofs.TextLemmas.{phase_query-is, text_query-is, answers_query-is, raises_query-is}
use Rattle.keeper_sqlite.specs.Columns.{IsAnswerRow, IsRaiseRow, IsAllotRow, IsPartRow}
use Rattle.keeper_sqlite.specs.Inside.{AreRecords}
use Rattle.keeper_sqlite.specs.Kept.{Looks, TellsSeason, TellsPhaseOf, TellsKept, TellsTables, phase_query, text_query, answers_query, raises_query}
use Rattle.sqlite_trees.proofs.Doubt.{no_doubt}
use Rattle.keeper_sqlite.proofs.KeeperLemmas.{told_has}
use Rattle.keeper_sqlite.proofs.ToldLemmas.{shown_of}

-- ---- whether a season is there

found_with : (cuts : Option ℕ) (db : Trees) → IsFound (is_some cuts) (tables_with (Some cuts) db)
found_with None db = go (are_bare db)
  where
    go : (b : Bool) → IsFound false (cond b NoSeason Untold)
    go true = refl
    go false = tt
found_with (Some n) db = go (text_in db) (answers_in db) (raises_in db) (allots_in db)
  where
    go : (t : Option (List ℕ)) (a : Option (List AnswerRow)) (r : Option (List RaiseRow)) (s : Option (List AllotRow)) → IsFound true (records_of n t a r s)
    go (Some t) (Some a) (Some r) (Some s) = refl
    go (Some t) (Some a) (Some r) None = tt
    go (Some t) (Some a) None s = tt
    go (Some t) None r s = tt
    go None a r s = tt

-- ---- what is loaded

loaded_with : (n : ℕ) (db : Trees) (kept : Kept) → n ≡ kept.cuts → AreRecords db kept → IsLoaded (records_of n (text_in db) (answers_in db) (raises_in db) (allots_in db)) kept
loaded_with n db kept cuts are = go (text_in db) (answers_in db) (raises_in db) (allots_in db) are.season are.answers are.raises are.allots
  where
    go : (t : Option (List ℕ)) (a : Option (List AnswerRow)) (r : Option (List RaiseRow)) (s : Option (List AllotRow)) → ((text : List ℕ) → t ≡ Some text → text ≡ kept.season) → ((all : List AnswerRow) → a ≡ Some all → all ≡ kept.answers)
        → ((all : List RaiseRow) → r ≡ Some all → all ≡ kept.raises) → ((all : List AllotRow) → s ≡ Some all → all ≡ kept.allots) → IsLoaded (records_of n t a r s) kept
    go (Some t) (Some a) (Some r) (Some s) text answers raises allots =
        let t_is = text t refl in let a_is = answers a refl in let r_is = raises r refl in let s_is = allots s refl in
        λ i. record { season = t_is i; answers = a_is i; raises = r_is i; allots = s_is i; cuts = cuts i }
    go (Some t) (Some a) (Some r) None text answers raises allots = tt
    go (Some t) (Some a) None s text answers raises allots = tt
    go (Some t) None r s text answers raises allots = tt
    go None a r s text answers raises allots = tt

pub rising_is : (all some : List AllotRow) → rising_alone all ≡ Some some → (are_rising all ≡ true) × (all ≡ some)
rising_is all some h = elim (cases_Bool (are_rising all)) [
  | inl rise ↦ (rise, let e = rw rise at h in cc)
  | inr falls ↦ absurd (let e = rw falls at h in cc)
]

module _ {S : Type 0} (g : Ghosts S) where
  phase_is : (strict : Bool) (found : Option ℕ) (old new : Held S) → (state g old).now.schema ≡ stored strict → TellsPhaseOf g found old new → (cuts_of ((state g old).now.trees 5) ≡ Some found) × ((state g new).now ≡ (state g old).now)
  phase_is strict found old new has it =
      let asked = shown_of g phase_query it.rows old new it.asked in
      (shows_phase strict (state g old) (state g new) it.rows has asked found it.tells, query_same phase_query _ _ _ _ phase_query-is strict (state g old) (state g new) it.rows has asked)

  -- the loaded records are those of the tables
  pub tables_loaded : (strict : Bool) (kept : Kept) (db : Database) (old new : Held S) → (state g old).now ≡ db → db.schema ≡ stored strict → TellsTables g kept old new → AreRecords db.trees kept
  tables_loaded strict kept db old new same has t =
      let on = λ (d : Database). d.schema in
      let has0 : old.schema ≡ stored strict = ap on same ∙ has in
      let asked1 = shown_of g _ _ old t.one t.season.told.asked in
      let same1 : (state g t.one).now ≡ db = query_same text_query _ _ _ _ text_query-is strict (state g old) (state g t.one) _ has0 asked1 ∙ same in
      let has1 : t.one.schema ≡ stored strict = ap on same1 ∙ has in
      let asked2 = shown_of g _ _ t.one t.two t.answers.asked in
      let same2 : (state g t.two).now ≡ db = query_same answers_query _ _ _ _ answers_query-is strict (state g t.one) (state g t.two) _ has1 asked2 ∙ same1 in
      let has2 : t.two.schema ≡ stored strict = ap on same2 ∙ has in
      let asked3 = shown_of g _ _ t.two t.three t.raises.asked in
      let same3 : (state g t.three).now ≡ db = query_same raises_query _ _ _ _ raises_query-is strict (state g t.two) (state g t.three) _ has2 asked3 ∙ same2 in
      let has3 : t.three.schema ≡ stored strict = ap on same3 ∙ has in
      let asked4 = shown_of g _ _ t.three new t.allots.asked in
      record {
        season = λ text is.
            let p = map_some (rows_from part_of 0 (db.trees 0)) concat text is in
            let stand = shows_parts strict (state g old) (state g t.one) _ has0 asked1 p.0 (ap (λ (d : Database). rows_from part_of 0 (d.trees 0)) same ∙ p.1) in
            sym p.2 ∙ (ap concat (one_list IsPartRow one_part _ p.0 t.season.parts stand t.season.told.stand) ∙ t.season.joined);
        answers = λ all is. one_list IsAnswerRow one_answer _ all kept.answers (shows_answers strict (state g t.one) (state g t.two) _ has1 asked2 all (ap (λ (d : Database). answers_in d.trees) same1 ∙ is)) t.answers.stand;
        raises = λ all is. one_list IsRaiseRow one_raise _ all kept.raises (shows_raises strict (state g t.two) (state g t.three) _ has2 asked3 all (ap (λ (d : Database). raises_in d.trees) same2 ∙ is)) t.raises.stand;
        allots = λ all is.
            let p = then_some (rows_from allot_of 1 (db.trees 3)) rising_alone all is in
            let rise = rising_is p.0 all p.2 in
            let stand = shows_allots strict (state g t.three) (state g new) _ has3 asked4 p.0 (ap (λ (d : Database). rows_from allot_of 1 (d.trees 3)) same3 ∙ p.1) rise.0 in
            sym rise.1 ∙ one_list IsAllotRow one_allot _ p.0 kept.allots stand t.allots.stand;
      }

  -- tables that are visible after were visible before, or nothing is visible after
  told_by : (P : Tables → Type 0) (old new : Held S) → P Untold → (IsTold (told (state g new)) → P (told (state g new))) → P (told (state g new))
  told_by P old new none some = go (told (state g new)) refl
    where
      go : (t : Tables) → told (state g new) ≡ t → P (told (state g new))
      go Untold is = subst P (sym is) none
      go NoSeason is = some (subst IsTold (sym is) tt)
      go (Records kept) is = some (subst IsTold (sym is) tt)

  pub season_found : (found : Bool) (old new : Held S) → (IsTold (told (state g new)) → told (state g new) ≡ told (state g old)) → (IsTold (told (state g new)) → Looks g (TellsSeason g found) old new) → IsFound found (told (state g new))
  season_found found old new stays looks = told_by (IsFound found) old new tt (λ it.
      let same = stays it in
      let h = told_has g old (subst IsTold same it) in
      let l = looks it in
      let p = phase_is h.0 l.done.cuts (record old { in_transaction = true }) l.last h.1 l.done.told in
      let is : told (state g new) ≡ tables_with (Some l.done.cuts) (state g old).now.trees = same ∙ (h.2 ∙ ap (λ q. tables_with q (state g old).now.trees) p.0) in
      subst (IsFound found) (sym is) (subst (λ b. IsFound b (tables_with (Some l.done.cuts) (state g old).now.trees)) (sym l.done.is) (found_with l.done.cuts (state g old).now.trees)))

  pub season_loaded : (found : Option Kept) (old new : Held S) → (IsTold (told (state g new)) → told (state g new) ≡ told (state g old)) → (IsTold (told (state g new)) → Looks g (TellsKept g found) old new)
      → MatchOption found (IsFound false (told (state g new))) (IsLoaded (told (state g new)))
  season_loaded None old new stays looks = told_by (IsFound false) old new tt (λ it.
      let same = stays it in
      let h = told_has g old (subst IsTold same it) in
      let l = looks it in
      let p = phase_is h.0 None (record old { in_transaction = true }) l.last h.1 l.done in
      subst (IsFound false) (sym (same ∙ (h.2 ∙ ap (λ q. tables_with q (state g old).now.trees) p.0))) (found_with None (state g old).now.trees))
  season_loaded (Some kept) old new stays looks = told_by (λ t. IsLoaded t kept) old new tt (λ it.
      let same = stays it in
      let h = told_has g old (subst IsTold same it) in
      let l = looks it in
      let p = phase_is h.0 (Some kept.cuts) (record old { in_transaction = true }) l.done.0 h.1 l.done.1 in
      subst (λ t. IsLoaded t kept) (sym (same ∙ (h.2 ∙ ap (λ q. tables_with q (state g old).now.trees) p.0)))
      (loaded_with kept.cuts (state g old).now.trees kept refl (tables_loaded h.0 kept (state g old).now l.done.0 l.last p.1 h.1 l.done.2)))

  -- a store with visible tables is open and clean
  told_open : (h : Held S) → IsTold (told (state g h)) → IsTrue (state g h).is_open
  told_open h it = elim (cases_Bool (state g h).is_open) [
    | inl holds ↦ holds
    | inr fails ↦ absurd (subst (λ b. IsTold (told_if (b && has_tables h.schema) (tables_in (state g h).now.trees))) fails it)
  ]

  told_clean : (h : Held S) → ((g.view h.store).is_clean ≡ false → (g.view h.store).is_open ≡ false) → IsTold (told (state g h)) → HasCleanDisk (state g h)
  told_clean h shut it = elim (cases_Bool (g.view h.store).is_clean) [
    | inl holds ↦ no_doubt (g.view h.store).is_clean holds
    | inr fails ↦ absurd (true≢false (sym (told_open h it) ∙ shut fails))
  ]

  -- the same of calls, if they ended well
  pub found_if : (old new : Held S) (r : Result Bool KeepFault) → ((g.view new.store).is_clean ≡ false → (g.view new.store).is_open ≡ false) → (HasCleanDisk (state g new) → IsTrue (state g new).is_open → told (state g new) ≡ told (state g old))
      → (HasCleanDisk (state g new) → IfOk r (λ found. Looks g (TellsSeason g found) old new)) → IfOk r (λ found. IsFound found (told (state g new)))
  found_if old new (Err fault) shut stays looks = tt
  found_if old new (Ok found) shut stays looks = season_found found old new (λ it. stays (told_clean new shut it) (told_open new it)) (λ it. looks (told_clean new shut it))

  pub loaded_if : (old new : Held S) (r : Result (Option Kept) KeepFault) → ((g.view new.store).is_clean ≡ false → (g.view new.store).is_open ≡ false) → (HasCleanDisk (state g new) → IsTrue (state g new).is_open → told (state g new) ≡ told (state g old))
      → (HasCleanDisk (state g new) → IfOk r (λ found. Looks g (TellsKept g found) old new)) → IfOk r (λ found. MatchOption found (IsFound false (told (state g new))) (IsLoaded (told (state g new))))
  loaded_if old new (Err fault) shut stays looks = tt
  loaded_if old new (Ok found) shut stays looks = season_loaded found old new (λ it. stays (told_clean new shut it) (told_open new it)) (λ it. looks (told_clean new shut it))
