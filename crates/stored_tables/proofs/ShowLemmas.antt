-- What each query of a keeper shows of what its table represents.
use Rattle.std.proofs.Common.{◌≡◌, ◌==◌, inl, inr, ℕ, pos, negsuc, List, [], ◌∷◌, map, length, take, reverse, cond, unwrap_or, Bool, true, false, Option, Some, None, option_map, refl, sym, ap, subst, ◌∙◌, arith, IsPermutation}
use Rattle.std.specs.List.{AllZip}
use Rattle.std.proofs.lemmas.List.Sorted.{length_permutation, IsPermutation-refl, IsPermutation-reverse, IsPermutation-sym}
use Rattle.std.proofs.lemmas.Bool.{cases_Bool, eqb-true}
use Rattle.sqlite.specs.declared.types.Value.TheVariants.{Null, Int, Real, Text, Blob}
use Rattle.sqlite.specs.Order.{Row, column}
use Rattle.sqlite.specs.Term.{Term}
use Rattle.sqlite.specs.Query.{Output}
use Rattle.sqlite.specs.Tree.{Trees}
use Rattle.sqlite.specs.Listing.{understood}
use Rattle.sqlite.specs.State.{State, Shown, ShowsRows}
use Rattle.sqlite.specs.Clock.{timed}
use Rattle.sqlite_schema.specs.declared.command.Returning.{Returning}
use Rattle.sqlite.proofs.Callers.{IsPlain, reads_as, one_permutation}
use Rattle.sqlite_keyed.proofs.ListLemmas.{ascending_weaker}
use Rattle.sqlite_value.specs.declared.keys.Key.{Key}
use Rattle.kept_rows.specs.declared.rows.AnswerRow.{AnswerRow}
use Rattle.kept_rows.specs.declared.rows.AllotRow.{AllotRow}
use Rattle.kept_rows.specs.declared.rows.RaiseRow.{RaiseRow}
use Rattle.stored_tables.specs.Layout.{stored}
use Rattle.stored_tables.specs.Texts.{phase_query, text_query, answers_query, raises_query, allots_query, key_query}
use Rattle.stored_tables.specs.Rising.{are_rising}
use Rattle.stored_tables.specs.Rows.{rows_from, answer_of, raise_of, allot_of, part_of, cuts_of}
use Rattle.stored_tables.specs.Columns.{IsAnswerRow, IsRaiseRow, IsAllotRow, IsPartRow, IsPhaseRow, TellsPhase}
use Rattle.stored_tables.proofs.TextLemmas.{two, five, by_first, by_key, all_rows, one_row, IsAsked, phase_query-is, text_query-is, answers_query-is, raises_query-is, allots_query-is, key_query-is}
use Rattle.stored_tables.proofs.RowLemmas.{rising, begins}
use Rattle.stored_tables.proofs.ColumnLemmas.{number_fits}
use Rattle.stored_tables.proofs.QueryLemmas.{shown, Asked, asked, in_order}
use Rattle.stored_tables.proofs.StandLemmas.{answer_shown, allot_shown, part_shown, answer_stands, raise_stands, allot_stands, part_stands, stand_from}
use Rattle.stored_tables.proofs.OrderLemmas.{KeyLess, keys_rise, last_row, last_of, reverse_first, ascending_reverse, last_stands}

-- a query that returns nothing of a write leaves what the database shows
shown_same : (text : List ℕ) (params : Row) (old new : State) (rows : List Row) → IsPlain (understood old.now.schema text) → Shown text params old new rows → new.now ≡ old.now
unfolding Shown
shown_same text params old new rows bare h = go h.0.returning (subst IsPlain h.1.is bare).0 h.2
  where
    go : (returning : Option Returning) → returning ≡ None → ShowsRows old new text h.0 (timed params h.0.formats h.1.now) rows returning → new.now ≡ old.now
    go None none it = it.3.0.now_is
    go (Some what) none it = absurd (let e = none in cc)

none_given : (b : Bool) (rows : List Row) → unwrap_or (cond {A = Option (List Row)} b None None) rows ≡ rows
none_given true rows = refl
none_given false rows = refl

module _ (text : List ℕ) (t : ℕ) (project : List Term) (order : List (Term × Key)) (limit : Term) (is : IsAsked text t project order limit) (strict : Bool) (old new : State) (rows : List Row) (has : old.now.schema ≡ stored strict) (h : Shown text [] old new rows) where
  -- a query of this text was asked of the table in this tree
  asked_of : Asked t project order limit old.now.trees rows
  asked_of =
      let means = is strict in
      let read = reads_as text [] old new (stored strict) has _ means.1 means.3 means.2 rows h in
      asked t project order limit old.now.trees rows (none_given _ _) (read.answer Null)

  -- and what the database shows stays
  pub query_same : new.now ≡ old.now
  query_same = shown_same text [] old new rows (subst (λ s. IsPlain (understood s text)) (sym has) (is strict).3) h

-- ---- answers, raises, parts

in_first_order : {R : Type 0} (of : Row → Option R) (t : ℕ) (project : List Term) (db : Trees) (rows : List Row) (least : ℕ) (all : List R) → rows_from of least (db t) ≡ Some all → Asked t project by_first all_rows db rows
    → rows ≡ map (shown t project by_first all_rows) (db t)
in_first_order of t project db rows least all told it =
    in_order t project by_first all_rows db rows (db t) (IsPermutation-refl (db t)) (ascending_weaker _ _ (λ x y less. rw less) (db t) (rising of (db t) least all told).1) it

pub shows_answers : (strict : Bool) (old new : State) (rows : List Row) → old.now.schema ≡ stored strict → Shown answers_query [] old new rows → (all : List AnswerRow) → rows_from answer_of 1 (old.now.trees 1) ≡ Some all → AllZip IsAnswerRow rows all
shows_answers strict old new rows has h all told =
    let is : rows ≡ map answer_shown (old.now.trees 1) = in_first_order answer_of 1 five old.now.trees rows 1 all told (asked_of answers_query 1 five by_first all_rows answers_query-is strict old new rows has h) in
    subst (λ rs. AllZip IsAnswerRow rs all) (sym is) (stand_from answer_of IsAnswerRow answer_shown 1 (λ row r n is id low. answer_stands row r n is id (omega (arith, low))) (old.now.trees 1) 1 all (omega arith) told)

pub shows_raises : (strict : Bool) (old new : State) (rows : List Row) → old.now.schema ≡ stored strict → Shown raises_query [] old new rows → (all : List RaiseRow) → rows_from raise_of 1 (old.now.trees 6) ≡ Some all → AllZip IsRaiseRow rows all
shows_raises strict old new rows has h all told =
    let is : rows ≡ map answer_shown (old.now.trees 6) = in_first_order raise_of 6 five old.now.trees rows 1 all told (asked_of raises_query 6 five by_first all_rows raises_query-is strict old new rows has h) in
    subst (λ rs. AllZip IsRaiseRow rs all) (sym is) (stand_from raise_of IsRaiseRow answer_shown 1 (λ row r n is id low. raise_stands row r n is id (omega (arith, low))) (old.now.trees 6) 1 all (omega arith) told)

pub shows_parts : (strict : Bool) (old new : State) (rows : List Row) → old.now.schema ≡ stored strict → Shown text_query [] old new rows → (all : List (List ℕ)) → rows_from part_of 0 (old.now.trees 0) ≡ Some all → AllZip IsPartRow rows all
shows_parts strict old new rows has h all told =
    let is : rows ≡ map part_shown (old.now.trees 0) = in_first_order part_of 0 two old.now.trees rows 0 all told (asked_of text_query 0 two by_first all_rows text_query-is strict old new rows has h) in
    subst (λ rs. AllZip IsPartRow rs all) (sym is) (stand_from part_of IsPartRow part_shown 0 (λ row r n is id low. part_stands row r n is id) (old.now.trees 0) 0 all (omega arith) told)

-- ---- published seats

pub shows_allots : (strict : Bool) (old new : State) (rows : List Row) → old.now.schema ≡ stored strict → Shown allots_query [] old new rows → (all : List AllotRow) → rows_from allot_of 1 (old.now.trees 3) ≡ Some all → are_rising all ≡ true
    → AllZip IsAllotRow rows all
shows_allots strict old new rows has h all told rise =
    let it = asked_of allots_query 3 _ (by_key false) all_rows allots_query-is strict old new rows has h in
    let is : rows ≡ map allot_shown (old.now.trees 3) = in_order 3 _ (by_key false) all_rows old.now.trees rows (old.now.trees 3) (IsPermutation-refl (old.now.trees 3)) (keys_rise (old.now.trees 3) 1 all told rise) it in
    subst (λ rs. AllZip IsAllotRow rs all) (sym is) (stand_from allot_of IsAllotRow allot_shown 1 (λ row r n is id low. allot_stands row r is) (old.now.trees 3) 1 all (omega arith) told)

-- the rows say that no seat is published, or which comes last
abbrev pub IsLastKey : List Row → List AllotRow → Type 0
IsLastKey rows [] = rows ≡ []
IsLastKey rows (a ∷ ones) = rows ≡ (Int (pos (last_of a ones).round) ∷ Int (pos (last_of a ones).cand.0) ∷ []) ∷ []

abbrev key_shown : Row → Row
key_shown row = column row 1 ∷ column row 2 ∷ []

first_key : (stood : List Row) (all : List AllotRow) (rows : List Row) → rows_from allot_of 1 stood ≡ Some all → rows ≡ take 1 (map key_shown (reverse stood)) → IsLastKey rows all
first_key [] all rows told is = subst (IsLastKey rows) (let none : [] ≡ all = (let e = told in cc) in none) is
first_key (x ∷ xs) all rows told is =
    let b = begins allot_of 1 x xs all told in
    let p = reverse_first x xs in
    let last = allot_stands (last_row x xs) (last_of b.first b.more) (last_stands x b.first xs _ b.more b.is b.rest) in
    let shown : key_shown (last_row x xs) ≡ Int (pos (last_of b.first b.more).round) ∷ Int (pos (last_of b.first b.more).cand.0) ∷ [] = λ i. last.round.1 i ∷ last.cand.1 i ∷ [] in
    subst (IsLastKey rows) (sym b.whole) (is ∙ (ap (λ l. take 1 (map key_shown l)) p.1 ∙ ap (λ (r : Row). r ∷ []) shown))

pub shows_key : (strict : Bool) (old new : State) (rows : List Row) → old.now.schema ≡ stored strict → Shown key_query [] old new rows → (all : List AllotRow) → rows_from allot_of 1 (old.now.trees 3) ≡ Some all → are_rising all ≡ true → IsLastKey rows all
shows_key strict old new rows has h all told rise =
    let stood = old.now.trees 3 in
    let it = asked_of key_query 3 _ (by_key true) one_row key_query-is strict old new rows has h in
    let is : rows ≡ take 1 (map key_shown (reverse stood)) = in_order 3 _ (by_key true) one_row old.now.trees rows (reverse stood) (IsPermutation-reverse stood) (ascending_reverse KeyLess stood (keys_rise stood 1 all told rise)) it in
    first_key stood all rows told is

-- ---- whether there is a row

none_before : {X : Type 0} (f : Row → X) (stood : List Row) (ordered : List X) → IsPermutation (map f stood) ordered → ordered ≡ [] → stood ≡ []
none_before f [] ordered same none = refl
none_before f (x ∷ xs) ordered same none = absurd (let e = length_permutation (map f (x ∷ xs)) ordered same in let z = ap length none in omega (arith, e, z))

none_taken : (ordered : List Output) → [] ≡ take 1 (map (λ (o : Output). o.1) ordered) → ordered ≡ []
none_taken [] h = refl
none_taken (o ∷ more) h = absurd (let e = h in cc)

none_asked : (t : ℕ) (project : List Term) (db : Trees) → Asked t project [] one_row db [] → db t ≡ []
none_asked t project db it = none_before _ (db t) it.ordered it.same (none_taken it.ordered it.shown_is)

-- a query for one row that shows none says that its table has none
pub shows_none : (text : List ℕ) (t : ℕ) (project : List Term) → IsAsked text t project [] one_row → (strict : Bool) (old new : State) → old.now.schema ≡ stored strict → Shown text [] old new [] → old.now.trees t ≡ []
shows_none text t project is strict old new has h = none_asked t project old.now.trees (asked_of text t project [] one_row is strict old new [] has h)

-- ---- the phase

one_before : (f : Row → Output) (stood : List Row) (ordered : List Output) (o : Output) → IsPermutation (map f stood) ordered → ordered ≡ o ∷ [] → (r : Row) × (stood ≡ r ∷ []) × (f r ≡ o)
one_before f stood ordered o same is = go stood (one_permutation o (map f stood) (IsPermutation-sym _ _ (subst (IsPermutation (map f stood)) is same)))
  where
    go : (rows : List Row) → map f rows ≡ o ∷ [] → (r : Row) × (rows ≡ r ∷ []) × (f r ≡ o)
    go [] h = absurd (let e = h in cc)
    go (r ∷ []) h = (r, refl, let e = h in cc)
    go (r ∷ s ∷ more) h = absurd (let e = ap length h in omega (arith, e))

one_shown : (row : Row) (ordered : List Output) → row ∷ [] ≡ map (λ (o : Output). o.1) ordered → (o : Output) × (ordered ≡ o ∷ []) × (row ≡ o.1)
one_shown row [] h = absurd (let e = h in cc)
one_shown row (o ∷ []) h = (o, refl, let e = h in cc)
one_shown row (o ∷ p ∷ more) h = absurd (let e = ap length h in omega (arith, e))

none_shown : (ordered : List Output) → [] ≡ map (λ (o : Output). o.1) ordered → ordered ≡ []
none_shown [] h = refl
none_shown (o ∷ more) h = absurd (let e = h in cc)

one_phase : (stood : List Row) (r : Row) (made : ℕ) → stood ≡ r ∷ [] → IsPhaseRow (part_shown r) made → cuts_of stood ≡ Some (Some made)
one_phase stood r made is stands =
    ap cuts_of is ∙ rw (stands.id, stands.cuts.1) (ap (option_map Some) (number_fits 16 made stands.cuts.0))

-- what the phase tells is what its rows stand for
pub shows_phase : (strict : Bool) (old new : State) (rows : List Row) → old.now.schema ≡ stored strict → Shown phase_query [] old new rows → (found : Option ℕ) → TellsPhase rows found → cuts_of (old.now.trees 5) ≡ Some found
shows_phase strict old new rows has h found tells = go found tells (asked_of phase_query 5 two by_first all_rows phase_query-is strict old new rows has h)
  where
    go : (found : Option ℕ) → TellsPhase rows found → Asked 5 two by_first all_rows old.now.trees rows → cuts_of (old.now.trees 5) ≡ Some found
    go None none it = ap cuts_of (none_before _ (old.now.trees 5) it.ordered it.same (none_shown it.ordered (sym none ∙ it.shown_is)))
    go (Some made) t it =
        let o = one_shown t.0 it.ordered (sym t.1 ∙ it.shown_is) in
        let r = one_before _ (old.now.trees 5) it.ordered o.0 it.same o.1 in
        one_phase (old.now.trees 5) r.0 made r.1 (subst (λ (x : Row). IsPhaseRow x made) (o.2 ∙ ap (λ (p : Output). p.1) (sym r.2)) t.2)

-- a phase that says how many cuts a season has is the one row with the number 1
pub phase_stands : (rows : List Row) (n : ℕ) → cuts_of rows ≡ Some (Some n) → (was : Row) × (rows ≡ (Int (pos 1) ∷ was) ∷ [])
phase_stands [] n h = absurd (let e = h in cc)
phase_stands (row ∷ a ∷ more) n h = absurd (let e = h in cc)
phase_stands ([] ∷ []) n h = absurd (let e = h in cc)
phase_stands ((Null ∷ was) ∷ []) n h = absurd (let e = h in cc)
phase_stands ((Real x ∷ was) ∷ []) n h = absurd (let e = h in cc)
phase_stands ((Text t ∷ was) ∷ []) n h = absurd (let e = h in cc)
phase_stands ((Blob b ∷ was) ∷ []) n h = absurd (let e = h in cc)
phase_stands ((Int (negsuc m) ∷ was) ∷ []) n h = absurd (let e = h in cc)
phase_stands ((Int (pos m) ∷ was) ∷ []) n h = elim (cases_Bool (m == 1)) [
  | inl same ↦ (was, ap (λ (k : ℕ). (Int (pos k) ∷ was) ∷ []) (eqb-true m 1 same))
  | inr other ↦ absurd (let e = rw other at h in cc)
]
