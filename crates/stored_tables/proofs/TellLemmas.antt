-- What the tables are read as, once something was put.
use Rattle.std.proofs.Common.{◌≡◌, ◌+◌, ℕ, List, [], ◌∷◌, ◌++◌, Bool, true, false, ◌&&◌, cond, Option, Some, None, option_map, option_and_then, refl, sym, ap, ◌∙◌, true≢false}
use Rattle.std.specs.List.{concat}
use Rattle.sqlite.specs.Tree.{Trees}
use Rattle.sqlite.specs.Effect.{Database}
use Rattle.std.proofs.lemmas.Bool.{and_right, and_left}
use Rattle.kept_rows.specs.Tables.{Untold, NoSeason, Records, with_answer, with_raise, with_cut, IsFound, opening_records}
use Rattle.kept_rows.specs.declared.rows.AnswerRow.{AnswerRow}
use Rattle.kept_rows.specs.declared.rows.AllotRow.{AllotRow}
use Rattle.kept_rows.specs.declared.rows.RaiseRow.{RaiseRow}
use Rattle.stored_tables.specs.Rows.{rows_from, part_of, answer_of, raise_of, allot_of, rising_alone, text_in, answers_in, raises_in, allots_in, cuts_of}
use Rattle.stored_tables.specs.Told.{is_bare, are_bare, records_of, tables_with, tables_in}
use Rattle.stored_tables.specs.Puts.{PutsAnswer, PutsRaise, Stay}

-- ---- there is no row

pub bare_1 : (db : Trees) → is_bare (db 1) ≡ false → are_bare db ≡ false
bare_1 db h = and_right (is_bare (db 0)) _ (and_left (is_bare (db 1)) _ h)

pub bare_6 : (db : Trees) → is_bare (db 6) ≡ false → are_bare db ≡ false
bare_6 db h = and_right (is_bare (db 0)) _ (and_right (is_bare (db 1)) _ (and_right (is_bare (db 3)) _ h))

if_bare : (b : Bool) → IsFound true (cond b NoSeason Untold) → cond b NoSeason Untold ≡ Untold
if_bare true h = absurd (true≢false h)
if_bare false h = refl

-- ---- records with one more

one_answer : (n : ℕ) (t : Option (List ℕ)) (a : Option (List AnswerRow)) (r : Option (List RaiseRow)) (s : Option (List AllotRow)) (row : AnswerRow)
    → records_of n t (option_map (λ all. all ++ row ∷ []) a) r s ≡ with_answer row (records_of n t a r s)
one_answer n (Some t) (Some a) (Some r) (Some s) row = refl
one_answer n (Some t) (Some a) (Some r) None row = refl
one_answer n (Some t) (Some a) None s row = refl
one_answer n (Some t) None r s row = refl
one_answer n None a r s row = refl

one_raise : (n : ℕ) (t : Option (List ℕ)) (a : Option (List AnswerRow)) (r : Option (List RaiseRow)) (s : Option (List AllotRow)) (row : RaiseRow)
    → records_of n t a (option_map (λ all. all ++ row ∷ []) r) s ≡ with_raise row (records_of n t a r s)
one_raise n (Some t) (Some a) (Some r) (Some s) row = refl
one_raise n (Some t) (Some a) (Some r) None row = refl
one_raise n (Some t) (Some a) None s row = refl
one_raise n (Some t) None r s row = refl
one_raise n None a r s row = refl

one_cut : (n : ℕ) (t : Option (List ℕ)) (a : Option (List AnswerRow)) (r : Option (List RaiseRow)) (s : Option (List AllotRow)) (rows : List AllotRow)
    → records_of (n + 1) t a r (option_map (λ all. all ++ rows) s) ≡ with_cut rows (records_of n t a r s)
one_cut n (Some t) (Some a) (Some r) (Some s) rows = refl
one_cut n (Some t) (Some a) (Some r) None rows = refl
one_cut n (Some t) (Some a) None s rows = refl
one_cut n (Some t) None r s rows = refl
one_cut n None a r s rows = refl

-- ---- what is visible

-- trees that are the same stand for the same
pub text_same : (old new : Trees) → new 0 ≡ old 0 → text_in new ≡ text_in old
text_same old new h = ap (λ rows. option_map concat (rows_from part_of 0 rows)) h

pub answers_same : (old new : Trees) → new 1 ≡ old 1 → answers_in new ≡ answers_in old
answers_same old new h = ap (rows_from answer_of 1) h

pub allots_same : (old new : Trees) → new 3 ≡ old 3 → allots_in new ≡ allots_in old
allots_same old new h = ap (λ rows. option_and_then rising_alone (rows_from allot_of 1 rows)) h

pub raises_same : (old new : Trees) → new 6 ≡ old 6 → raises_in new ≡ raises_in old
raises_same old new h = ap (rows_from raise_of 1) h

module _ (old new : Trees) where
  told_answer : (p : Option (Option ℕ)) (row : AnswerRow) → IsFound true (tables_with p old) → text_in new ≡ text_in old → answers_in new ≡ option_map (λ all. all ++ row ∷ []) (answers_in old) → raises_in new ≡ raises_in old
      → allots_in new ≡ allots_in old → are_bare new ≡ false → tables_with p new ≡ with_answer row (tables_with p old)
  told_answer None row found t a r s bare = refl
  told_answer (Some None) row found t a r s bare = ap (λ b. cond b NoSeason Untold) bare ∙ ap (with_answer row) (sym (if_bare (are_bare old) found))
  told_answer (Some (Some n)) row found t a r s bare = (λ i. records_of n (t i) (a i) (r i) (s i)) ∙ one_answer n (text_in old) (answers_in old) (raises_in old) (allots_in old) row

  told_raise : (p : Option (Option ℕ)) (row : RaiseRow) → IsFound true (tables_with p old) → text_in new ≡ text_in old → answers_in new ≡ answers_in old → raises_in new ≡ option_map (λ all. all ++ row ∷ []) (raises_in old)
      → allots_in new ≡ allots_in old → are_bare new ≡ false → tables_with p new ≡ with_raise row (tables_with p old)
  told_raise None row found t a r s bare = refl
  told_raise (Some None) row found t a r s bare = ap (λ b. cond b NoSeason Untold) bare ∙ ap (with_raise row) (sym (if_bare (are_bare old) found))
  told_raise (Some (Some n)) row found t a r s bare = (λ i. records_of n (t i) (a i) (r i) (s i)) ∙ one_raise n (text_in old) (answers_in old) (raises_in old) (allots_in old) row

-- after an answer
pub answer_told : (row : AnswerRow) (old new : Database) → PutsAnswer row old new → IsFound true (tables_in old.trees) → tables_in new.trees ≡ with_answer row (tables_in old.trees)
answer_told row old new put found =
    ap (λ rows. tables_with (cuts_of rows) new.trees) put.others.1.1.0
    ∙ told_answer old.trees new.trees (cuts_of (old.trees 5)) row found (text_same old.trees new.trees put.others.0) put.answers (raises_same old.trees new.trees put.others.1.1.1.0)
    (allots_same old.trees new.trees put.others.1.0) (bare_1 new.trees put.stands)

-- after a raise
pub raise_told : (row : RaiseRow) (old new : Database) → PutsRaise row old new → IsFound true (tables_in old.trees) → tables_in new.trees ≡ with_raise row (tables_in old.trees)
raise_told row old new put found =
    ap (λ rows. tables_with (cuts_of rows) new.trees) put.others.1.1.1.0
    ∙ told_raise old.trees new.trees (cuts_of (old.trees 5)) row found (text_same old.trees new.trees put.others.0) (answers_same old.trees new.trees put.others.1.0) put.raises
    (allots_same old.trees new.trees put.others.1.1.0) (bare_6 new.trees put.stands)

-- after a cut
pub cut_told : (n : ℕ) (rows : List AllotRow) (old new : Trees) → cuts_of (old 5) ≡ Some (Some n) → cuts_of (new 5) ≡ Some (Some (n + 1)) → Stay (0 ∷ 1 ∷ 6 ∷ []) old new
    → allots_in new ≡ option_map (λ all. all ++ rows) (allots_in old) → tables_in new ≡ with_cut rows (tables_in old)
cut_told n rows old new was is stay put =
    ap (λ p. tables_with p new) is ∙ ((λ i. records_of (n + 1) (text_same old new stay.0 i) (answers_same old new stay.1.0 i) (raises_same old new stay.1.1.0 i) (put i))
    ∙ (one_cut n (text_in old) (answers_in old) (raises_in old) (allots_in old) rows ∙ ap (λ p. with_cut rows (tables_with p old)) (sym was)))

-- before a season, where no table has a row
pub none_told : (db : Trees) → db 0 ≡ [] → db 1 ≡ [] → db 3 ≡ [] → db 5 ≡ [] → db 6 ≡ [] → tables_in db ≡ NoSeason
none_told db a b c d e =
    ap (λ rows. tables_with (cuts_of rows) db) d ∙ ap (λ x. cond x NoSeason Untold) (λ i. is_bare (a i) && (is_bare (b i) && (is_bare (c i) && is_bare (e i))))

-- after a season
pub season_told : (parts : List (List ℕ)) (db : Trees) → rows_from part_of 0 (db 0) ≡ Some parts → db 1 ≡ [] → db 3 ≡ [] → cuts_of (db 5) ≡ Some (Some 0) → db 6 ≡ [] → tables_in db ≡ Records (opening_records (concat parts))
season_told parts db t a s p r =
    ap (λ q. tables_with q db) p ∙ (λ i. records_of 0 (option_map concat (t i)) (rows_from answer_of 1 (a i)) (rows_from raise_of 1 (r i))
    (option_and_then rising_alone (rows_from allot_of 1 (s i))))
