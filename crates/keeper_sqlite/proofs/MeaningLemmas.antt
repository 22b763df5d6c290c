-- What the text of each function does to its one table, and what it shows of it.
use Rattle.std.proofs.Common.{◌≡◌, ◌+◌, ◌<◌, ◌^◌, ◌∙◌, ℕ, pos, Bool, true, List, [], ◌∷◌, ◌++◌, Option, Some, None, Result, Ok, Err, IfOk, OnOk, slice_get, ap, sym, subst, refl}
use Rattle.std.specs.List.{AllByRecursion, concat}
use Rattle.sqlite.specs.Store.{Ghosts}
use Rattle.sqlite.specs.Order.{Row, column}
use Rattle.sqlite.specs.Effect.{Database}
use Rattle.sqlite.specs.State.{HasCleanDisk, Executes}
use Rattle.sqlite.specs.Held.{Held, state}
use Rattle.sqlite.specs.declared.types.Value.TheVariants.{Int}
use Rattle.kept_rows.specs.declared.rows.AnswerRow.{AnswerRow}
use Rattle.kept_rows.specs.declared.rows.AllotRow.{AllotRow}
use Rattle.kept_rows.specs.declared.rows.RaiseRow.{RaiseRow}
use Rattle.keeper_mem.specs.declared.keeper.KeepFault.{KeepFault}
use Rattle.kept_rows.specs.declared.rows.Kept.{Kept}
use Rattle.kept_rows.specs.Tables.{Tables, Records, IsTold, with_cut}
use Rattle.stored_tables.specs.Fits.{AnswerFits, RaiseFits, AllotFits}
use Rattle.stored_tables.specs.Layout.{stored}
use Rattle.stored_tables.specs.Rising.{are_rising as rise}
use Rattle.stored_tables.specs.Rows.{allots_in, text_in, cuts_of, rows_from, part_of, allot_of, rising_alone}
use Rattle.stored_tables.specs.Puts.{PutsAnswer, PutsRaise, PutsAllot, PutsPart, PutsCuts, OpensPhase}
use Rattle.stored_tables.specs.Told.{told}
use Rattle.stored_tables.proofs.StandLemmas.{one_list, one_part, then_some, map_some, same_number}
use Rattle.stored_tables.proofs.OrderLemmas.{last_of}
use Rattle.stored_tables.proofs.SeatLemmas.{seats_rise}
use Rattle.stored_tables.proofs.TableLemmas.{puts_answer, puts_raise, puts_allot, puts_part}
use Rattle.stored_tables.proofs.PhaseLemmas.{puts_cuts, opens_phase}
use Rattle.stored_tables.proofs.ShowLemmas.{IsLastKey, shows_phase, shows_key, shows_parts, phase_stands}
use Rattle.stored_tables.proofs.CreateLemmas.{all_stand}
use Rattle.keeper_sqlite.specs.Columns.{IsPartRow, TellsKey}
use Rattle.keeper_sqlite.specs.Rising.{key_after, key_of}
use Rattle.keeper_sqlite.specs.declared.halt.Halt.{Halt}
use Rattle.keeper_sqlite.specs.declared.rising.Key.{Key}
use Rattle.keeper_sqlite.specs.Kept.{Ran, DidAll, plain_calls, table_texts, unanswered_calls, any_row_queries, TellsText, TellsPhaseOf, answer_text, answer_values, raise_text, raise_values, allot_text, allot_values, part_text, part_values, cuts_text, cuts_values, opening_text, opening_values, phase_query, key_query, text_query}
use Rattle.keeper_sqlite.specs.Kept.Call.{Runs, Places, Asks}
use Rattle.keeper_sqlite.proofs.LookLemmas.{rising_is}
use Rattle.keeper_sqlite.proofs.KeeperLemmas.{told_has, runs_each}
use Rattle.keeper_sqlite.proofs.ToldLemmas.{shown_of, any_asked, none_asked}

module _ {S : Type 0} (g : Ghosts S) where
  pub ran_once : (text : List ℕ) (values : Row) (old new : Held S) → DidAll g (Runs text values ∷ []) old new → Ran g text values old new
  ran_once text values old new did = subst (λ (h : Held S). Ran g text values old h) did.2 did.1

  pub ran_alone : (text : List ℕ) (values : Row) (old new : Held S) (r : Result (Unit {0}) Halt) → (HasCleanDisk (state g new) → OnOk r (DidAll g (Runs text values ∷ []) old new)) → HasCleanDisk (state g new) → OnOk r (Ran g text values old new)
  ran_alone text values old new (Err halt) ran clean = tt
  ran_alone text values old new (Ok none) ran clean = ran_once text values old new (ran clean)

  -- what a statement that was run does
  pub put_by : (text : List ℕ) (values : Row) (P : Database → Database → Type 0) (old new : Held S) (r : Result (Unit {0}) Halt) → ((count : ℕ) → Executes text values (state g old) (state g new) (Ok count) → P (state g old).now (state g new).now)
      → (HasCleanDisk (state g new) → OnOk r (DidAll g (Runs text values ∷ []) old new)) → HasCleanDisk (state g new) → OnOk r (P (state g old).now (state g new).now)
  put_by text values P old new (Err halt) makes ran clean = tt
  put_by text values P old new (Ok none) makes ran clean = let it = ran_once text values old new (ran clean) in makes it.count it.ran

  pub answer_put : (strict : Bool) (row : AnswerRow) (old new : Held S) (r : Result (Unit {0}) Halt) → AnswerFits row → old.schema ≡ stored strict → (HasCleanDisk (state g new) → OnOk r (DidAll g (Runs answer_text (answer_values row) ∷ []) old new))
      → HasCleanDisk (state g new) → OnOk r (PutsAnswer row (state g old).now (state g new).now)
  answer_put strict row old new r fits has = put_by answer_text (answer_values row) (PutsAnswer row) old new r (λ count ran. puts_answer strict (state g old) (state g new) row count fits has ran)

  pub raise_put : (strict : Bool) (row : RaiseRow) (old new : Held S) (r : Result (Unit {0}) Halt) → RaiseFits row → old.schema ≡ stored strict → (HasCleanDisk (state g new) → OnOk r (DidAll g (Runs raise_text (raise_values row) ∷ []) old new))
      → HasCleanDisk (state g new) → OnOk r (PutsRaise row (state g old).now (state g new).now)
  raise_put strict row old new r fits has = put_by raise_text (raise_values row) (PutsRaise row) old new r (λ count ran. puts_raise strict (state g old) (state g new) row count fits has ran)

  pub allot_put : (strict : Bool) (text : List ℕ) (row : AllotRow) (old new : Held S) (r : Result (Unit {0}) Halt) → text ≡ allot_text → AllotFits row → old.schema ≡ stored strict
      → (HasCleanDisk (state g new) → OnOk r (DidAll g (Runs text (allot_values row) ∷ []) old new)) → HasCleanDisk (state g new) → OnOk r (PutsAllot row (state g old).now (state g new).now)
  allot_put strict text row old new r is fits has =
      put_by text (allot_values row) (PutsAllot row) old new r (λ count ran. puts_allot strict (state g old) (state g new) row count fits has (subst (λ (t : List ℕ). Executes t (allot_values row) (state g old) (state g new) (Ok count)) is ran))

  pub part_put_in : (strict : Bool) (text : List ℕ) (number : ℕ) (part : List ℕ) (old new : Held S) (r : Result (Unit {0}) Halt) → text ≡ part_text → old.schema ≡ stored strict
      → (HasCleanDisk (state g new) → OnOk r (DidAll g (Runs text (part_values number part) ∷ []) old new)) → HasCleanDisk (state g new) → OnOk r (PutsPart number part (state g old).now (state g new).now)
  part_put_in strict text number part old new r is has =
      put_by text (part_values number part) (PutsPart number part) old new r
      (λ count ran. puts_part strict (state g old) (state g new) number part count has (subst (λ (t : List ℕ). Executes t (part_values number part) (state g old) (state g new) (Ok count)) is ran))

  pub cuts_put : (strict : Bool) (n cuts : ℕ) (old new : Held S) (r : Result (Unit {0}) Halt) → cuts < 2 ^ 16 → old.schema ≡ stored strict → cuts_of ((state g old).now.trees 5) ≡ Some (Some n)
      → (HasCleanDisk (state g new) → OnOk r (DidAll g (Runs cuts_text (cuts_values cuts) ∷ []) old new)) → HasCleanDisk (state g new) → OnOk r (PutsCuts cuts (state g old).now (state g new).now)
  cuts_put strict n cuts old new r low has stood =
      let was = phase_stands ((state g old).now.trees 5) n stood in
      put_by cuts_text (cuts_values cuts) (PutsCuts cuts) old new r (λ count ran. puts_cuts strict (state g old) (state g new) was.0 cuts count low has was.1 ran)

  pub phase_opened : (strict : Bool) (old new : Held S) (r : Result (Unit {0}) Halt) → old.schema ≡ stored strict → (HasCleanDisk (state g new) → OnOk r (DidAll g (Places opening_text opening_values ∷ []) old new))
      → HasCleanDisk (state g new) → OnOk r (OpensPhase (state g old).now (state g new).now)
  phase_opened strict old new (Err halt) has ran clean = tt
  phase_opened strict old new (Ok none) has ran clean =
      let did = ran clean in opens_phase strict (state g old) (state g new) has (subst (λ (h : Held S). Executes opening_text opening_values (state g old) (state g h) (Ok 1)) did.2 did.1)

  -- ---- what is visible

  -- tables that exist are not made
  pub tables_stand : (strict : Bool) (old new : Held S) (r : Result (Unit {0}) Halt) → old.schema ≡ stored strict → (HasCleanDisk (state g new) → OnOk r (DidAll g (plain_calls table_texts) old new)) → HasCleanDisk (state g new)
      → OnOk r ((state g new).now ≡ (state g old).now)
  tables_stand strict old new (Err halt) has ran clean = tt
  tables_stand strict old new (Ok none) has ran clean = all_stand strict (state g old) (state g new) has (runs_each g table_texts old new (ran clean))

  pub none_stand : (strict : Bool) (old new : Held S) (r : Result (Unit {0}) Halt) → old.schema ≡ stored strict → (HasCleanDisk (state g new) → OnOk r (DidAll g (unanswered_calls any_row_queries) old new)) → HasCleanDisk (state g new)
      → OnOk r (AllByRecursion (λ t. (state g old).now.trees t ≡ []) (0 ∷ 1 ∷ 6 ∷ 3 ∷ []))
  none_stand strict old new (Err halt) has asked clean = tt
  none_stand strict old new (Ok none) has asked clean = (none_asked g strict any_row_queries (0 ∷ 1 ∷ 6 ∷ 3 ∷ []) [] old new (any_asked g) has (asked clean)).2

  pub text_stands : (strict : Bool) (old new : Held S) (r : Result (List ℕ) Halt) → old.schema ≡ stored strict → (HasCleanDisk (state g new) → IfOk r (λ text. TellsText g text old new))
      → HasCleanDisk (state g new) → IfOk r (λ text. (all : List ℕ) → text_in (state g old).now.trees ≡ Some all → all ≡ text)
  text_stands strict old new (Err halt) has told clean = tt
  text_stands strict old new (Ok text) has told clean = λ all is.
      let t = told clean in
      let p = map_some (rows_from part_of 0 ((state g old).now.trees 0)) concat all is in
      sym p.2 ∙ (ap concat (one_list IsPartRow one_part t.told.rows p.0 t.parts (shows_parts strict (state g old) (state g new) t.told.rows has (shown_of g text_query t.told.rows old new t.told.asked) p.0 p.1) t.told.stand) ∙ t.joined)

  pub cuts_stand : (strict : Bool) (old new : Held S) (r : Result (Option ℕ) Halt) → old.schema ≡ stored strict → (HasCleanDisk (state g new) → IfOk r (λ found. TellsPhaseOf g found old new))
      → HasCleanDisk (state g new) → IfOk r (λ found. cuts_of ((state g old).now.trees 5) ≡ Some found)
  cuts_stand strict old new (Err halt) has told clean = tt
  cuts_stand strict old new (Ok found) has told clean = let t = told clean in shows_phase strict (state g old) (state g new) t.rows has (shown_of g phase_query t.rows old new t.asked) found t.tells

  -- ---- the last key

  no_key : (rows : List Row) (last : Option Key) → rows ≡ [] → TellsKey rows last → last ≡ None
  no_key rows None is tells = refl
  no_key rows (Some key) is tells = absurd (let e = sym tells.1 ∙ ap (λ l. slice_get l 0) is in cc)

  one_key : (rows : List Row) (row : Row) (last : Option Key) (a : AllotRow) → rows ≡ row ∷ [] → column row 0 ≡ Int (pos a.round) → column row 1 ≡ Int (pos a.cand.0) → TellsKey rows last → last ≡ Some (key_of a)
  one_key rows row None a is r c tells = absurd (let e = sym is ∙ tells in cc)
  one_key rows row (Some key) a is r c tells =
      let same : tells.0 ≡ row = (let e = sym tells.1 ∙ ap (λ l. slice_get l 0) is in cc) in
      let round : key.round ≡ a.round = same_number (sym tells.2.round.1 ∙ (ap (λ (x : Row). column x 0) same ∙ r)) in
      let cand : key.cand.0 ≡ a.cand.0 = same_number (sym tells.2.cand.1 ∙ (ap (λ (x : Row). column x 1) same ∙ c)) in
      λ i. Some (record { round = round i; cand = record { 0 = cand i } })

  last_after : (last : Option Key) (a : AllotRow) (ones : List AllotRow) → key_after last (a ∷ ones) ≡ Some (key_of (last_of a ones))
  last_after last a [] = refl
  last_after last a (b ∷ bs) = last_after (Some (key_of a)) b bs

  key_is : (rows : List Row) (all : List AllotRow) (last : Option Key) → IsLastKey rows all → TellsKey rows last → last ≡ key_after None all
  key_is rows [] last is tells = no_key rows last is tells
  key_is rows (a ∷ ones) last is tells = one_key rows _ last (last_of a ones) is refl refl tells ∙ sym (last_after None a ones)

  pub key_stands : (strict : Bool) (old new : Held S) (r : Result (Option Key) Halt) → old.schema ≡ stored strict
      → (HasCleanDisk (state g new) → IfOk r (λ last. (rows : List Row) × TellsKey rows last × DidAll g (Asks key_query rows ∷ []) old new))
      → HasCleanDisk (state g new) → IfOk r (λ last. (all : List AllotRow) → allots_in (state g old).now.trees ≡ Some all → last ≡ key_after None all)
  key_stands strict old new (Err halt) has told clean = tt
  key_stands strict old new (Ok last) has told clean = λ all is.
      let t = told clean in
      let p = then_some (rows_from allot_of 1 ((state g old).now.trees 3)) rising_alone all is in
      let up = rising_is p.0 all p.2 in
      key_is t.0 all last (subst (IsLastKey t.0) up.1 (shows_key strict (state g old) (state g new) t.0 has (shown_of g key_query t.0 old new t.2) p.0 p.1 up.0)) t.1

  -- ---- a cut that is kept

  cut_of : (rows : List AllotRow) (kept : Kept) → with_cut rows (Records kept) ≡ Records (record kept { allots = kept.allots ++ rows; cuts = kept.cuts + 1 })
  cut_of rows kept = refl

  pub cut_rises : (rows : List AllotRow) (old new : Held S) (r : Result (Unit {0}) KeepFault) → (HasCleanDisk (state g new) → OnOk r (told (state g new) ≡ with_cut rows (told (state g old))))
      → (kept : Kept) → told (state g old) ≡ Records kept → HasCleanDisk (state g new) → OnOk r (rise (kept.allots ++ rows) ≡ true)
  cut_rises rows old new (Err fault) stays kept before clean = tt
  cut_rises rows old new (Ok none) stays kept before clean =
      let is : told (state g new) ≡ Records (record kept { allots = kept.allots ++ rows; cuts = kept.cuts + 1 }) = stays clean ∙ (ap (with_cut rows) before ∙ cut_of rows kept) in
      seats_rise (state g new).now.trees (record kept { allots = kept.allots ++ rows; cuts = kept.cuts + 1 }) (sym (told_has g new (subst (λ (t : Tables). IsTold t) (sym is) tt)).2 ∙ is)
