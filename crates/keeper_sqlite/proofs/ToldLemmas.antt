-- What is visible of a store once a change was made in a transaction.
use Rattle.std.proofs.Common.{◌≡◌, ◌+◌, inl, inr, ℕ, pos, Bool, true, ◌&&◌, IsTrue, List, [], ◌∷◌, ◌++◌, fold, append-nil, append_assoc, slice_get, Option, Some, None, option_map, option_and_then, refl, sym, ap, ap₂, subst, ◌∙◌}
use Rattle.std.specs.List.{AllByRecursion, AllZip}
use Rattle.std.proofs.lemmas.Bool.{cases_Bool}
use Rattle.sqlite.specs.declared.types.Value.TheVariants.{Int}
use Rattle.sqlite.specs.Store.{Ghosts}
use Rattle.sqlite.specs.Order.{Row, column}
use Rattle.sqlite.specs.Tree.{Trees}
use Rattle.sqlite.specs.Term.{Term}
use Rattle.sqlite.specs.Effect.{Database}
use Rattle.sqlite.specs.State.{State, Shown}
use Rattle.sqlite.specs.Held.{Held, state}
use Rattle.kept_rows.specs.Tables.{Tables, Untold, NoSeason, Records, with_answer, with_raise, with_cut, IsFound, opening_records}
use Rattle.kept_rows.specs.declared.rows.AnswerRow.{AnswerRow}
use Rattle.kept_rows.specs.declared.rows.AllotRow.{AllotRow}
use Rattle.kept_rows.specs.declared.rows.RaiseRow.{RaiseRow}
use Rattle.stored_tables.specs.Layout.{stored, has_tables}
use Rattle.stored_tables.specs.Fits.{AnswerFits, RaiseFits, AllotFits}
use Rattle.stored_tables.specs.Rising.{comes_after, rise_after}
use Rattle.stored_tables.specs.Rising.{are_rising as rise}
use Rattle.stored_tables.specs.Rows.{rows_from, allot_of, part_of, rising_alone, allots_in, cuts_of}
use Rattle.stored_tables.specs.Told.{told, told_if, tables_in}
use Rattle.stored_tables.specs.Puts.{HasParts, Stay}
use Rattle.stored_tables.proofs.LayoutLemmas.{layout}
use Rattle.stored_tables.proofs.RowLemmas.{after}
use Rattle.stored_tables.proofs.TextLemmas.{IsAsked, one_row, phase_query-is, key_query-is, any_part-is, any_answer-is, any_raise-is, any_allot-is}
use Rattle.stored_tables.proofs.TableLemmas.{puts_answer, puts_raise, puts_allot, puts_part}
use Rattle.stored_tables.proofs.PhaseLemmas.{puts_cuts, opens_phase}
use Rattle.stored_tables.proofs.OrderLemmas.{more_rise, rising_exactly}
use Rattle.stored_tables.proofs.SchemaLemmas.{Keeps, PutsRows, put_keeps, answer_text-puts, raise_text-puts, allot_text-puts, part_text-puts, opening_text-puts, cuts_text-puts, shown_keeps}
use Rattle.stored_tables.proofs.ShowLemmas.{IsLastKey, query_same, shows_phase, shows_key, shows_none, phase_stands}
use Rattle.stored_tables.proofs.TellLemmas.{answer_told, raise_told, cut_told, none_told, season_told}
use Rattle.stored_tables.proofs.StandLemmas.{same_number}
use Rattle.keeper_sqlite.specs.Columns.{TellsKey}
use Rattle.keeper_sqlite.specs.Rising.{rise_after_key, key_of}
use Rattle.keeper_sqlite.specs.declared.rising.Key.{Key}
use Rattle.keeper_sqlite.specs.Kept.{Call, Ran, Did, DidAll, PutsText, MakesCut, AreAbove, ToldPhase, IsReady, answer_text, answer_values, raise_text, raise_values, allot_text, allot_calls, part_text, part_calls, text_calls, seat_calls, season_calls, unanswered_calls, any_row_queries, opening_text, opening_values, cuts_text, cuts_values, key_query, phase_query}
use Rattle.keeper_sqlite.specs.Kept as Kept
use Rattle.keeper_sqlite.specs.Kept.Call.{Runs, Places, Asks, Readies}

-- ---- what is visible before and after

true_and : (a b : Bool) → a ≡ true → (a && b) ≡ b
true_and a b h = ap (λ c. c && b) h

-- If the schema stays and the tables change in this way, so do the visible tables.
pub told_after : (s t : State) (f : Tables → Tables) → f Untold ≡ Untold → IsTrue s.is_open → IsTrue t.is_open → t.now.schema ≡ s.now.schema
    → ((strict : Bool) → s.now.schema ≡ stored strict → told s ≡ tables_in s.now.trees → tables_in t.now.trees ≡ f (tables_in s.now.trees)) → told t ≡ f (told s)
told_after s t f none was is same after = elim (cases_Bool (has_tables s.now.schema)) [
  | inl has ↦ (
      let before : told s ≡ tables_in s.now.trees = ap (λ b. told_if b (tables_in s.now.trees)) (true_and s.is_open (has_tables s.now.schema) was ∙ has) in
      let l = layout.0 s.now.schema has in
      let now : told t ≡ tables_in t.now.trees = ap (λ b. told_if b (tables_in t.now.trees)) (true_and t.is_open (has_tables t.now.schema) is ∙ (ap has_tables same ∙ has)) in
      now ∙ (after l.0 l.1 before ∙ ap f (sym before))
      )
  | inr lacks ↦ (
      let before : told s ≡ Untold = ap (λ b. told_if b (tables_in s.now.trees)) (true_and s.is_open (has_tables s.now.schema) was ∙ lacks) in
      let now : told t ≡ Untold = ap (λ b. told_if b (tables_in t.now.trees)) (true_and t.is_open (has_tables t.now.schema) is ∙ (ap has_tables same ∙ lacks)) in
      now ∙ (sym none ∙ ap f (sym before))
      )
]

module _ {S : Type 0} (g : Ghosts S) where
  -- ---- one text alone

  pub answer_made : (strict : Bool) (row : AnswerRow) (old last : Held S) → AnswerFits row → (state g old).now.schema ≡ stored strict → Ran g answer_text (answer_values row) old last
      → IsFound true (tables_in (state g old).now.trees) → tables_in (state g last).now.trees ≡ with_answer row (tables_in (state g old).now.trees)
  answer_made strict row old last fits has ran found = answer_told row (state g old).now (state g last).now (puts_answer strict (state g old) (state g last) row ran.count fits has ran.ran) found

  pub raise_made : (strict : Bool) (row : RaiseRow) (old last : Held S) → RaiseFits row → (state g old).now.schema ≡ stored strict → Ran g raise_text (raise_values row) old last
      → IsFound true (tables_in (state g old).now.trees) → tables_in (state g last).now.trees ≡ with_raise row (tables_in (state g old).now.trees)
  raise_made strict row old last fits has ran found = raise_told row (state g old).now (state g last).now (puts_raise strict (state g old) (state g last) row ran.count fits has ran.ran) found

  -- ---- the schema stays, and the connection was open

  abbrev pub KeepsCall : Call → Type 0
  KeepsCall (Runs text values) = PutsRows text
  KeepsCall (Places text values) = PutsRows text
  KeepsCall (Asks text rows) = Unit {0}
  KeepsCall (Readies text) = Unit {0}

  keeps_one : (call : Call) (old new : Held S) → KeepsCall call → Did g call old new → Keeps (state g old) (state g new)
  keeps_one (Runs text values) old new keep did = put_keeps text keep values (state g old) (state g new) did.count did.ran
  keeps_one (Places text values) old new keep did = put_keeps text keep values (state g old) (state g new) 1 did
  keeps_one (Asks text rows) old new keep did = shown_keeps text [] (state g old) (state g new) rows did
  keeps_one (Readies text) old new keep did = (ap (λ (d : Database). d.schema) did.same.0.now_is, did.same.0.was_open)

  -- if the last is open, the first was
  abbrev pub KeepsIf : Held S → Held S → Type 0
  KeepsIf old new = (new.schema ≡ old.schema) × (IsTrue (state g new).is_open → IsTrue (state g old).is_open)

  pub keeps_all : (calls : List Call) (old new : Held S) → AllByRecursion KeepsCall calls → DidAll g calls old new → KeepsIf old new
  keeps_all [] old new keep did = (ap (λ (h : Held S). h.schema) (sym did), λ is_so. subst (λ (h : Held S). IsTrue (state g h).is_open) (sym did) is_so)
  keeps_all (call ∷ calls) old new keep did =
      let more = keeps_all calls did.0 new keep.1 did.2 in
      let one = keeps_one call old did.0 keep.0 did.1 in
      (more.0 ∙ one.0, λ is_so. one.1)

  keep_parts : (n : ℕ) (parts : List (List ℕ)) → AllByRecursion KeepsCall (part_calls part_text n parts ++ Places opening_text opening_values ∷ [])
  keep_parts n [] = (opening_text-puts, tt)
  keep_parts n (part ∷ parts) = (part_text-puts, keep_parts (n + 1) parts)

  keep_seats : (made : ℕ) (rows : List AllotRow) → AllByRecursion KeepsCall (allot_calls allot_text rows ++ Runs cuts_text (cuts_values (made + 1)) ∷ [])
  keep_seats made [] = (cuts_text-puts, tt)
  keep_seats made (row ∷ rows) = (allot_text-puts, keep_seats made rows)

  pub answer_keeps : (row : AnswerRow) (old last : Held S) → Ran g answer_text (answer_values row) old last → KeepsIf old last
  answer_keeps row old last ran = let it = put_keeps answer_text answer_text-puts (answer_values row) (state g old) (state g last) ran.count ran.ran in (it.0, λ is_so. it.1)

  pub raise_keeps : (row : RaiseRow) (old last : Held S) → Ran g raise_text (raise_values row) old last → KeepsIf old last
  raise_keeps row old last ran = let it = put_keeps raise_text raise_text-puts (raise_values row) (state g old) (state g last) ran.count ran.ran in (it.0, λ is_so. it.1)

  pub season_keeps : (text : List ℕ) (old last : Held S) → PutsText g season_calls text old last → KeepsIf old last
  season_keeps text old last put = keeps_all (season_calls put.parts) old last (tt, (tt, (tt, (tt, (tt, keep_parts 0 put.parts))))) put.done

  pub cut_keeps : (rows : List AllotRow) (old last : Held S) → MakesCut g rows old last → KeepsIf old last
  cut_keeps rows old last m =
      let seats = keeps_all (seat_calls m.made rows) m.tested last (tt, keep_seats m.made rows) m.put in
      let above = keeps_all (Asks key_query m.above.told ∷ []) m.asked m.tested (tt, tt) m.above.asked in
      let phase = keeps_all (Asks phase_query (m.phase.row ∷ []) ∷ []) old m.asked (tt, tt) m.phase.asked in
      (seats.0 ∙ (above.0 ∙ phase.0), λ is_so. phase.1 (above.1 (seats.1 is_so)))

  -- ---- published seats, one after another

  joined : (o : Option (List AllotRow)) (row : AllotRow) (rows : List AllotRow) → option_map (λ all. all ++ rows) (option_map (λ all. all ++ row ∷ []) o) ≡ option_map (λ all. all ++ row ∷ rows) o
  joined None row rows = refl
  joined (Some all) row rows = ap Some (append_assoc all (row ∷ []) rows)

  whole : (o : Option (List AllotRow)) → option_map (λ all. all ++ []) o ≡ o
  whole None = refl
  whole (Some all) = ap Some (append-nil all)

  record SeatsPut (rows : List AllotRow) (old new : Held S) : Type 0 where
    schema_is : new.schema ≡ old.schema
    allots : rows_from allot_of 1 ((state g new).now.trees 3) ≡ option_map (λ all. all ++ rows) (rows_from allot_of 1 ((state g old).now.trees 3))
    others : Stay (0 ∷ 1 ∷ 5 ∷ 6 ∷ []) (state g old).now.trees (state g new).now.trees

  seats_put : (strict : Bool) (rows : List AllotRow) (rest : List Call) (old last : Held S) → AllByRecursion AllotFits rows → old.schema ≡ stored strict → DidAll g (allot_calls allot_text rows ++ rest) old last
      → (mid : Held S) × SeatsPut rows old mid × DidAll g rest mid last
  seats_put strict [] rest old last fits has did = (old, record { schema_is = refl; allots = sym (whole (rows_from allot_of 1 ((state g old).now.trees 3))); others = (refl, (refl, (refl, (refl, tt)))) }, did)
  seats_put strict (row ∷ rows) rest old last fits has did =
      let p = puts_allot strict (state g old) (state g did.0) row did.1.count fits.0 has did.1.ran in
      let more = seats_put strict rows rest did.0 last fits.1 (p.schema_is ∙ has) did.2 in (
        more.0,
        record {
          schema_is = more.1.schema_is ∙ p.schema_is;
          allots = more.1.allots ∙ (ap (option_map (λ all. all ++ rows)) p.allots ∙ joined (rows_from allot_of 1 ((state g old).now.trees 3)) row rows);
          others = (more.1.others.0 ∙ p.others.0, (more.1.others.1.0 ∙ p.others.1.0, (more.1.others.1.1.0 ∙ p.others.1.1.0, (more.1.others.1.1.1.0 ∙ p.others.1.1.1.0, tt))));
        },
        more.2,
      )

  -- rows that rise above this key
  rise_key : (key : Key) (rows : List AllotRow) → rise_after_key (Some key) rows ≡ rise_after key.round key.cand.0 rows
  rise_key key [] = refl
  rise_key key (row ∷ rows) = ap (λ b. comes_after key.round key.cand.0 row && b) (rise_key (key_of row) rows)

  rise_none : (rows : List AllotRow) → rise_after_key None rows ≡ true → rise rows ≡ true
  rise_none [] h = refl
  rise_none (row ∷ rows) h = sym (rise_key (key_of row) rows) ∙ h

  no_key : (told : List Row) (last : Option Key) → told ≡ [] → TellsKey told last → last ≡ None
  no_key told None is tells = refl
  no_key told (Some key) is tells = absurd (let e = sym tells.1 ∙ ap (λ l. slice_get l 0) is in cc)

  one_key : (told : List Row) (row : Row) (last : Option Key) (rows : List AllotRow) (round cand : ℕ) → told ≡ row ∷ [] → column row 0 ≡ Int (pos round) → column row 1 ≡ Int (pos cand) → TellsKey told last → rise_after_key last rows ≡ true
      → rise_after round cand rows ≡ true
  one_key told row None rows round cand is a b tells h = absurd (let e = sym is ∙ tells in cc)
  one_key told row (Some key) rows round cand is a b tells h =
      let same : tells.0 ≡ row = (let e = sym tells.1 ∙ ap (λ l. slice_get l 0) is in cc) in
      let r : key.round ≡ round = same_number (sym tells.2.round.1 ∙ (ap (λ (x : Row). column x 0) same ∙ a)) in
      let c : key.cand.0 ≡ cand = same_number (sym tells.2.cand.1 ∙ (ap (λ (x : Row). column x 1) same ∙ b)) in
      ap₂ (λ m n. rise_after m n rows) (sym r) (sym c) ∙ (sym (rise_key key rows) ∙ h)

  above_last : (all rows : List AllotRow) (told : List Row) (last : Option Key) → IsLastKey told all → TellsKey told last → rise_after_key last rows ≡ true → more_rise all rows
  above_last [] rows told last is tells h = rise_none rows (ap (λ k. rise_after_key k rows) (sym (no_key told last is tells)) ∙ h)
  above_last (a ∷ ones) rows told last is tells h = one_key told _ last rows _ _ is refl refl tells h

  allots_made : (o p : Option (List AllotRow)) (rows : List AllotRow) → p ≡ option_map (λ all. all ++ rows) o → ((all : List AllotRow) → o ≡ Some all → rise all ≡ true → more_rise all rows)
      → option_and_then rising_alone p ≡ option_map (λ all. all ++ rows) (option_and_then rising_alone o)
  allots_made None p rows is above = ap (option_and_then rising_alone) is
  allots_made (Some all) p rows is above = ap (option_and_then rising_alone) is ∙ rising_exactly all rows (above all refl)

  -- what was asked returned these rows
  pub shown_of : (text : List ℕ) (rows : List Row) (old new : Held S) → DidAll g (Asks text rows ∷ []) old new → Shown text [] (state g old) (state g new) rows
  shown_of text rows old new did = subst (λ (h : Held S). Shown text [] (state g old) (state g h) rows) did.2 did.1

  pub cut_made_told : (strict : Bool) (rows : List AllotRow) (old last : Held S) → (state g old).now.schema ≡ stored strict → MakesCut g rows old last → tables_in (state g last).now.trees ≡ with_cut rows (tables_in (state g old).now.trees)
  cut_made_told strict rows old last has m =
      let phase = shown_of _ _ old m.asked m.phase.asked in
      let cuts : cuts_of ((state g old).now.trees 5) ≡ Some (Some m.made) = shows_phase strict (state g old) (state g m.asked) _ has phase (Some m.made) (m.phase.row, refl, m.phase.is) in
      let one : (state g m.asked).now ≡ (state g old).now = query_same phase_query _ _ _ _ phase_query-is strict (state g old) (state g m.asked) _ has phase in
      let has_one : m.asked.schema ≡ stored strict = ap (λ (d : Database). d.schema) one ∙ has in
      let key = shown_of _ _ m.asked m.tested m.above.asked in
      let two : (state g m.tested).now ≡ (state g old).now = query_same key_query _ _ _ _ key_query-is strict (state g m.asked) (state g m.tested) _ has_one key ∙ one in
      let ready : (state g m.put.0).now ≡ (state g old).now = m.put.1.same.0.now_is ∙ two in
      let trees : (state g m.put.0).now.trees ≡ (state g old).now.trees = ap (λ (d : Database). d.trees) ready in
      let seats = seats_put strict rows _ m.put.0 last m.fit (ap (λ (d : Database). d.schema) ready ∙ has) m.put.2 in
      let has_seats : seats.0.schema ≡ stored strict = seats.1.schema_is ∙ (ap (λ (d : Database). d.schema) ready ∙ has) in
      let was = phase_stands ((state g old).now.trees 5) m.made cuts in
      let stood : (state g seats.0).now.trees 5 ≡ (Int (pos 1) ∷ was.0) ∷ [] = seats.1.others.1.1.0 ∙ (ap (λ (t : Trees). t 5) trees ∙ was.1) in
      let put = puts_cuts strict (state g seats.0) (state g seats.2.0) was.0 (m.made + 1) seats.2.1.count m.room has_seats stood seats.2.1.ran in
      let end : (state g last).now.trees ≡ (state g seats.2.0).now.trees = ap (λ (h : Held S). (state g h).now.trees) (sym seats.2.2) in
      let told_one : (all : List AllotRow) → rows_from allot_of 1 ((state g m.asked).now.trees 3) ≡ Some all → rise all ≡ true → more_rise all rows =
      λ all is up. above_last all rows m.above.told m.above.last (shows_key strict (state g m.asked) (state g m.tested) _ has_one key all is up) m.above.is m.above.rising in
      let before : (state g m.asked).now.trees ≡ (state g m.put.0).now.trees = ap (λ (d : Database). d.trees) (one ∙ sym ready) in
      let allots : allots_in (state g seats.2.0).now.trees ≡ option_map (λ all. all ++ rows) (allots_in (state g m.put.0).now.trees) =
      allots_made (rows_from allot_of 1 ((state g m.put.0).now.trees 3)) (rows_from allot_of 1 ((state g seats.2.0).now.trees 3)) rows
      (ap (rows_from allot_of 1) put.others.1.1.0 ∙ seats.1.allots)
      (λ all is up. told_one all (ap (λ (t : Trees). rows_from allot_of 1 (t 3)) before ∙ is) up) in
      let last_cuts : cuts_of ((state g seats.2.0).now.trees 5) ≡ Some (Some (m.made + 1)) = put.phase in
      ap tables_in end
      ∙ (cut_told m.made rows (state g m.put.0).now.trees (state g seats.2.0).now.trees (ap (λ (t : Trees). cuts_of (t 5)) trees ∙ cuts) last_cuts
      (put.others.0 ∙ seats.1.others.0, (put.others.1.0 ∙ seats.1.others.1.0, (put.others.1.1.1.0 ∙ seats.1.others.1.1.1.0, tt))) allots
      ∙ ap (λ (t : Trees). with_cut rows (tables_in t)) trees)

  -- ---- a season

  record PartsPut (next : ℕ) (before parts : List (List ℕ)) (old new : Held S) : Type 0 where
    schema_is : new.schema ≡ old.schema
    top : ℕ
    has : HasParts top (before ++ parts) (state g new).now.trees
    others : Stay (1 ∷ 3 ∷ 5 ∷ 6 ∷ []) (state g old).now.trees (state g new).now.trees

  parts_put : (strict : Bool) (n : ℕ) (before parts : List (List ℕ)) (rest : List Call) (old last : Held S) → old.schema ≡ stored strict → HasParts n before (state g old).now.trees → DidAll g (part_calls part_text n parts ++ rest) old last
      → (mid : Held S) × PartsPut n before parts old mid × DidAll g rest mid last
  parts_put strict n before [] rest old last has stood did =
      (old, record { schema_is = refl; top = n; has = subst (λ l. HasParts n l (state g old).now.trees) (sym (append-nil before)) stood; others = (refl, (refl, (refl, (refl, tt)))) }, did)
  parts_put strict n before (part ∷ parts) rest old last has stood did =
      let p = puts_part strict (state g old) (state g did.0) n part did.1.count has did.1.ran in
      let more = parts_put strict (n + 1) (before ++ part ∷ []) parts rest did.0 last (p.schema_is ∙ has) (p.parts before stood) did.2 in (
        more.0,
        record {
          schema_is = more.1.schema_is ∙ p.schema_is;
          top = more.1.top;
          has = subst (λ l. HasParts more.1.top l (state g more.0).now.trees) (append_assoc before (part ∷ []) parts) more.1.has;
          others = (more.1.others.0 ∙ p.others.0, (more.1.others.1.0 ∙ p.others.1.0, (more.1.others.1.1.0 ∙ p.others.1.1.0, (more.1.others.1.1.1.0 ∙ p.others.1.1.1.0, tt))));
        },
        more.2,
      )

  -- each text asks for one row of the table in its tree
  abbrev pub AreAsked : List (List ℕ) → List ℕ → Type 0
  AreAsked = AllZip (λ text t. (project : List Term) × IsAsked text t project [] one_row)

  pub any_asked : AreAsked any_row_queries (0 ∷ 1 ∷ 6 ∷ 3 ∷ [])
  any_asked = ((_, any_part-is), ((_, any_answer-is), ((_, any_raise-is), ((_, any_allot-is), tt))))

  -- if no text shows a row, none of these tables has one
  pub none_asked : (strict : Bool) (texts : List (List ℕ)) (trees : List ℕ) (rest : List Call) (old last : Held S) → AreAsked texts trees → old.schema ≡ stored strict → DidAll g (unanswered_calls texts ++ rest) old last
      → (mid : Held S) × ((state g mid).now ≡ (state g old).now) × AllByRecursion (λ t. (state g old).now.trees t ≡ []) trees × DidAll g rest mid last
  none_asked strict [] [] rest old last asked has did = (old, refl, tt, did)
  none_asked strict [] (t ∷ trees) rest old last asked has did = absurd asked
  none_asked strict (text ∷ texts) [] rest old last asked has did = absurd asked
  none_asked strict (text ∷ texts) (t ∷ trees) rest old last asked has did =
      let same = query_same text t asked.0.0 [] one_row asked.0.1 strict (state g old) (state g did.0) [] has did.1 in
      let bare = shows_none text t asked.0.0 asked.0.1 strict (state g old) (state g did.0) has did.1 in
      let more = none_asked strict texts trees rest did.0 last asked.1 (ap (λ (d : Database). d.schema) same ∙ has) did.2 in
      (more.0, more.1 ∙ same, (bare, subst (λ (d : Database). AllByRecursion (λ t. d.trees t ≡ []) trees) same more.2), more.3)

  -- none of the five tables has a row, and then a season is visible
  pub record SeasonMade (text : List ℕ) (old last : Held S) : Type 0 where
    pub before : tables_in (state g old).now.trees ≡ NoSeason
    pub after : tables_in (state g last).now.trees ≡ Records (opening_records text)
    pub none : AllByRecursion (λ t. (state g old).now.trees t ≡ []) (0 ∷ 1 ∷ 3 ∷ 5 ∷ 6 ∷ [])

  pub season_made : (strict : Bool) (text : List ℕ) (old last : Held S) → (state g old).now.schema ≡ stored strict → PutsText g season_calls text old last → SeasonMade text old last
  season_made strict text old last has put =
      let asked = none_asked strict any_row_queries (0 ∷ 1 ∷ 6 ∷ 3 ∷ []) (text_calls put.parts ++ Places opening_text opening_values ∷ []) old last any_asked has put.done in
      let n0 = asked.2.0 in
      let n1 = asked.2.1.0 in
      let n6 = asked.2.1.1.0 in
      let n3 = asked.2.1.1.1.0 in
      let d5 = asked.3 in
      let e5 : (state g d5.0).now ≡ (state g old).now = d5.1.same.0.now_is ∙ asked.1 in
      let has5 : d5.0.schema ≡ stored strict = ap (λ (b : Database). b.schema) e5 ∙ has in
      let bare : (state g d5.0).now.trees 0 ≡ [] = ap (λ (b : Database). b.trees 0) e5 ∙ n0 in
      let none : HasParts 0 [] (state g d5.0).now.trees = record { told = ap (rows_from part_of 0) bare; top = ap (fold after (pos 0)) bare } in
      let parts = parts_put strict 0 [] put.parts _ d5.0 last has5 none d5.2 in
      let opened = opens_phase strict (state g parts.0) (state g parts.2.0) (parts.1.schema_is ∙ has5) parts.2.1 in
      let stay = λ (t : ℕ) (e : (state g parts.0).now.trees t ≡ (state g d5.0).now.trees t). e ∙ ap (λ (b : Database). b.trees t) e5 in
      let n5 : (state g old).now.trees 5 ≡ [] = sym (stay 5 parts.1.others.1.1.0) ∙ opened.bare in
      let end : (state g last).now.trees ≡ (state g parts.2.0).now.trees = ap (λ (h : Held S). (state g h).now.trees) (sym parts.2.2) in
      record {
        before = none_told (state g old).now.trees n0 n1 n3 n5 n6;
        after = ap tables_in end
            ∙ (season_told put.parts (state g parts.2.0).now.trees (ap (rows_from part_of 0) opened.others.0 ∙ parts.1.has.told) (opened.others.1.0 ∙ (stay 1 parts.1.others.0 ∙ n1))
            (opened.others.1.1.0 ∙ (stay 3 parts.1.others.1.0 ∙ n3)) opened.phase (opened.others.1.1.1.0 ∙ (stay 6 parts.1.others.1.1.1.0 ∙ n6))
            ∙ ap (λ (t : List ℕ). Records (opening_records t)) put.joined);
        none = (n0, (n1, (n3, (n5, (n6, tt)))));
      }

-- ---- what is visible after a put that was committed

module _ {S : Type 0} (g : Ghosts S) where
  abbrev begun : Held S → Held S
  begun old = record old { in_transaction = true }

  -- a put that ended well is visible, or the tables were hidden before
  pub put_told : (f : Tables → Tables) (Done : Held S → Held S → Type 0) (old new : Held S) → f Untold ≡ Untold → ((last : Held S) → Done (begun old) last → KeepsIf g (begun old) last)
      → ((strict : Bool) (last : Held S) → (state g old).now.schema ≡ stored strict → told (state g old) ≡ tables_in (state g old).now.trees → Done (begun old) last → tables_in (state g last).now.trees ≡ f (tables_in (state g old).now.trees))
      → Kept.Keeps g Done old new → told (state g new) ≡ f (told (state g old))
  put_told f Done old new none keeps after kept =
      let it = keeps kept.last kept.done in
      told_after (state g old) (state g new) f none (it.1 kept.last_open) kept.is_open (ap (λ (d : Database). d.schema) kept.shown ∙ it.0)
      (λ strict has before. ap (λ (d : Database). tables_in d.trees) kept.shown ∙ after strict kept.last has before kept.done)
