-- What each INSERT of a keeper does to its table.
use Rattle.std.proofs.Common.{◌≡◌, ◌≢◌, ℕ, ℤ, pos, List, [], ◌∷◌, fold, Bool, true, false, ◌==◌, if◌then◌else◌, Ok, refl, sym, ap, ◌∙◌, arith, Ordering, Less, Equal, Greater}
use Rattle.std.specs.Ordering.{match_ordering}
use Rattle.std.proofs.lemmas.Bool.{eqb-false}
use Rattle.sqlite.specs.declared.types.Value.TheVariants.{Null, Int, Blob as Bytes}
use Rattle.sqlite.specs.Order.{Row, value_cmp}
use Rattle.sqlite.specs.Kind.TheVariants.{Blob, Any}
use Rattle.sqlite.specs.Cast.{cast, cast_row}
use Rattle.sqlite.specs.Source.TheVariants.{Values}
use Rattle.sqlite.specs.Edit.{next_rowid, with_rowid}
use Rattle.sqlite.specs.Rowids.TheVariants.{Chosen}
use Rattle.sqlite.specs.Tree.{rowid, put_row}
use Rattle.sqlite.specs.State.{State, Executes}
use Rattle.sqlite.specs.Term.{lit, col}
use Rattle.kept_rows.specs.declared.rows.AnswerRow.{AnswerRow}
use Rattle.kept_rows.specs.declared.rows.AllotRow.{AllotRow}
use Rattle.kept_rows.specs.declared.rows.RaiseRow.{RaiseRow}
use Rattle.office_base.specs.SeatKinds.{seat_kind_number}
use Rattle.office_base.specs.StepNumbers.{step_number}
use Rattle.stored_tables.specs.Numbers.{choice_number}
use Rattle.stored_tables.specs.Layout.{season, answer, allot, lift, stored}
use Rattle.stored_tables.specs.Texts.{answer_text, answer_values, raise_text, raise_values, allot_text, allot_values, part_text, part_values}
use Rattle.stored_tables.specs.Rows.{rows_from, answer_of, raise_of, allot_of, part_of}
use Rattle.stored_tables.specs.Told.{is_bare}
use Rattle.stored_tables.specs.Puts.{PutsAnswer, PutsRaise, PutsAllot, PutsPart}
use Rattle.stored_tables.proofs.TextLemmas.{answer_text-is, raise_text-is, allot_text-is, part_text-is}
use Rattle.stored_tables.proofs.RowLemmas.{after, told_exactly, told_next, top_next}
use Rattle.stored_tables.specs.Fits.{AnswerFits, RaiseFits, AllotFits}
use Rattle.stored_tables.proofs.ColumnLemmas.{answer_stored, raise_stored, allot_stored}
use Rattle.stored_tables.proofs.PutLemmas.{cast_null, cast_whole, plain, puts, puts_row}

pub apart : (m n : ℕ) → (m == n) ≡ false → m ≢ n
apart m n h = eqb-false m n h

-- a table into which a row was put has a row
pub bare_put : (new : Row) (rows : List Row) → is_bare (put_row new rows) ≡ false
bare_put new [] = refl
bare_put new (row ∷ rows) = go (value_cmp (rowid row) (rowid new))
  where
    go : (o : Ordering) → is_bare (match_ordering o (row ∷ put_row new rows) (new ∷ rows) (new ∷ row ∷ rows)) ≡ false
    go Less = refl
    go Equal = refl
    go Greater = refl

cast_answer : (strict : Bool) (a b c d : ℤ) → cast_row (plain (answer strict)) (Null ∷ Null ∷ Int a ∷ Int b ∷ Int c ∷ Int d ∷ []) ≡ Null ∷ Null ∷ Int a ∷ Int b ∷ Int c ∷ Int d ∷ []
cast_answer strict a b c d = λ i. cast_null i ∷ cast_null i ∷ cast_whole a i ∷ cast_whole b i ∷ cast_whole c i ∷ cast_whole d i ∷ []

cast_raise : (a b c d : ℤ) → cast_row (plain lift) (Null ∷ Null ∷ Int a ∷ Int b ∷ Int c ∷ Int d ∷ []) ≡ Null ∷ Null ∷ Int a ∷ Int b ∷ Int c ∷ Int d ∷ []
cast_raise a b c d = λ i. cast_null i ∷ cast_null i ∷ cast_whole a i ∷ cast_whole b i ∷ cast_whole c i ∷ cast_whole d i ∷ []

cast_allot : (strict : Bool) (a b c d : ℤ) → cast_row (plain (allot strict)) (Null ∷ Int a ∷ Int b ∷ Int c ∷ Int d ∷ []) ≡ Null ∷ Int a ∷ Int b ∷ Int c ∷ Int d ∷ []
cast_allot strict a b c d = λ i. cast_null i ∷ cast_whole a i ∷ cast_whole b i ∷ cast_whole c i ∷ cast_whole d i ∷ []

cast_bytes : (strict : Bool) (bytes : List ℕ) → cast (if strict then Blob else Any) (Bytes bytes) ≡ Bytes bytes
cast_bytes true bytes = refl
cast_bytes false bytes = refl

cast_part : (strict : Bool) (n : ℤ) (bytes : List ℕ) → cast_row (plain (season strict)) (Int n ∷ Null ∷ Bytes bytes ∷ []) ≡ Int n ∷ Null ∷ Bytes bytes ∷ []
cast_part strict n bytes = λ i. cast_whole n i ∷ cast_null i ∷ cast_bytes strict bytes i ∷ []

pub puts_answer : (strict : Bool) (old new : State) (row : AnswerRow) (count : ℕ) → AnswerFits row → old.now.schema ≡ stored strict → Executes answer_text (answer_values row) old new (Ok count) → PutsAnswer row old.now new.now
puts_answer strict old new row count fits has h =
    let params = answer_values row in
    let from = Values (lit Null ∷ lit Null ∷ col 0 0 ∷ col 0 1 ∷ col 0 2 ∷ col 0 3 ∷ []) 6 in
    let it = puts (stored strict) 1 (answer strict) from answer_text params old new count refl has (answer_text-is strict).0 (answer_text-is strict).1 h in
    let id = next_rowid (old.now.trees 1) in
    let row_is : Row = Int id ∷ Null ∷ params in
    let p = puts_row (stored strict) 1 (answer strict) from answer_text params old new count (Null ∷ Null ∷ params) row_is it.0 (λ rows s. s.1)
    (ap (with_rowid Chosen (old.now.trees 1)) (cast_answer strict (pos row.window) (pos row.cand.0) (pos row.turn) (pos (choice_number row.choice)))) (λ keys olds news. refl) in
    record {
      schema_is = p.schema_is ∙ sym has;
      answers = ap (rows_from answer_of 1) p.rows ∙ told_exactly answer_of row_is row (old.now.trees 1) 1 (λ top is. (top, omega arith, answer_stored row id top fits is)) p.fresh;
      stands = ap is_bare p.rows ∙ bare_put row_is (old.now.trees 1);
      others = (p.others.0 (apart 0 1 refl), (p.others.1.1.0 (apart 3 1 refl), (p.others.1.1.1.0 (apart 5 1 refl), (p.others.1.1.1.1.0 (apart 6 1 refl), tt))));
    }

pub puts_raise : (strict : Bool) (old new : State) (row : RaiseRow) (count : ℕ) → RaiseFits row → old.now.schema ≡ stored strict → Executes raise_text (raise_values row) old new (Ok count) → PutsRaise row old.now new.now
puts_raise strict old new row count fits has h =
    let params = raise_values row in
    let from = Values (lit Null ∷ lit Null ∷ col 0 0 ∷ col 0 1 ∷ col 0 2 ∷ col 0 3 ∷ []) 6 in
    let it = puts (stored strict) 4 lift from raise_text params old new count refl has (raise_text-is strict).0 (raise_text-is strict).1 h in
    let id = next_rowid (old.now.trees 6) in
    let row_is : Row = Int id ∷ Null ∷ params in
    let p = puts_row (stored strict) 4 lift from raise_text params old new count (Null ∷ Null ∷ params) row_is it.0 (λ rows s. s.1)
    (ap (with_rowid Chosen (old.now.trees 6)) (cast_raise (pos row.window) (pos row.prog.0) (pos (step_number row.step)) (pos row.seats))) (λ keys olds news. refl) in
    record {
      schema_is = p.schema_is ∙ sym has;
      raises = ap (rows_from raise_of 1) p.rows ∙ told_exactly raise_of row_is row (old.now.trees 6) 1 (λ top is. (top, omega arith, raise_stored row id top fits is)) p.fresh;
      stands = ap is_bare p.rows ∙ bare_put row_is (old.now.trees 6);
      others = (p.others.0 (apart 0 6 refl), (p.others.1.0 (apart 1 6 refl), (p.others.1.1.0 (apart 3 6 refl), (p.others.1.1.1.0 (apart 5 6 refl), tt))));
    }

pub puts_allot : (strict : Bool) (old new : State) (row : AllotRow) (count : ℕ) → AllotFits row → old.now.schema ≡ stored strict → Executes allot_text (allot_values row) old new (Ok count) → PutsAllot row old.now new.now
puts_allot strict old new row count fits has h =
    let params = allot_values row in
    let from = Values (lit Null ∷ col 0 0 ∷ col 0 1 ∷ col 0 2 ∷ col 0 3 ∷ []) 5 in
    let it = puts (stored strict) 2 (allot strict) from allot_text params old new count refl has (allot_text-is strict).0 (allot_text-is strict).1 h in
    let id = next_rowid (old.now.trees 3) in
    let row_is : Row = Int id ∷ params in
    let p = puts_row (stored strict) 2 (allot strict) from allot_text params old new count (Null ∷ params) row_is it.0 (λ rows s. s.1)
    (ap (with_rowid Chosen (old.now.trees 3)) (cast_allot strict (pos row.round) (pos row.cand.0) (pos row.prog.0) (pos (seat_kind_number row.step)))) (λ keys olds news. refl) in
    record {
      schema_is = p.schema_is ∙ sym has;
      allots = ap (rows_from allot_of 1) p.rows ∙ told_exactly allot_of row_is row (old.now.trees 3) 1 (λ top is. (top, omega arith, allot_stored row id top fits is)) p.fresh;
      stands = ap is_bare p.rows ∙ bare_put row_is (old.now.trees 3);
      others = (p.others.0 (apart 0 3 refl), (p.others.1.0 (apart 1 3 refl), (p.others.1.1.1.0 (apart 5 3 refl), (p.others.1.1.1.1.0 (apart 6 3 refl), tt))));
    }

pub puts_part : (strict : Bool) (old new : State) (part : ℕ) (bytes : List ℕ) (count : ℕ) → old.now.schema ≡ stored strict → Executes part_text (part_values part bytes) old new (Ok count) → PutsPart part bytes old.now new.now
puts_part strict old new part bytes count has h =
    let params = part_values part bytes in
    let from = Values (col 0 0 ∷ lit Null ∷ col 0 1 ∷ []) 3 in
    let it = puts (stored strict) 0 (season strict) from part_text params old new count refl has (part_text-is strict).0 (part_text-is strict).1 h in
    let row_is : Row = Int (pos part) ∷ Null ∷ Bytes bytes ∷ [] in
    let p = puts_row (stored strict) 0 (season strict) from part_text params old new count row_is row_is it.0 (λ rows s. s.1)
    (ap (with_rowid Chosen (old.now.trees 0)) (cast_part strict (pos part) bytes)) (λ keys olds news. refl) in
    record {
      schema_is = p.schema_is ∙ sym has;
      parts = λ before stood. record {
        told = ap (rows_from part_of 0) p.rows ∙ told_next part_of row_is bytes (old.now.trees 0) 0 part part before stood.told stood.top (omega arith) (record { id = refl; is = refl });
        top = ap (fold after (pos 0)) p.rows ∙ top_next part_of row_is part (old.now.trees 0) 0 before stood.told stood.top refl;
      };
      others = (p.others.1.0 (apart 1 0 refl), (p.others.1.1.0 (apart 3 0 refl), (p.others.1.1.1.0 (apart 5 0 refl), (p.others.1.1.1.1.0 (apart 6 0 refl), tt))));
    }
