-- What is put into the table of the phase: the row of a season, and the number of cuts in the place of another.
use Rattle.std.proofs.Common.{◌≡◌, ◌<◌, ◌^◌, ◌⊎◌, inl, inr, ℕ, pos, ℤ, List, [], ◌∷◌, map, length, min, Bool, true, false, Option, Some, None, option_map, Ok, refl, sym, ap, subst, ◌∙◌, arith, IsPermutation, is_eq}
use Rattle.std.specs.List.{flat_map}
use Rattle.std.proofs.Math.Nat.{min-eq_left}
use Rattle.std.proofs.lemmas.List.Sorted.{length_permutation}
use Rattle.std.proofs.lemmas.Cmp.{tied_itself}
use Rattle.sqlite.specs.declared.types.Value.TheVariants.{Null, Int}
use Rattle.sqlite.specs.Order.{Row, value_cmp}
use Rattle.sqlite.specs.Term.{Term, lit, col}
use Rattle.sqlite.specs.Ops.{unary, binary, is_true}
use Rattle.sqlite.specs.Source.TheVariants as source
use Rattle.sqlite.specs.Command.TheVariants.{InsertOr}
use Rattle.sqlite.specs.Edit.{edit_of, with_rowid, put_all, without_all, left_by}
use Rattle.sqlite.specs.Cast.{cast_row}
use Rattle.sqlite.specs.Rowids.TheVariants.{Chosen, Given}
use Rattle.sqlite.specs.Does.{Tally, Does}
use Rattle.sqlite.specs.Rows.{Written, Task, nothing, joined, count_of, Tries, TriesEach, Judged, Upserts, Meets, Updates}
use Rattle.sqlite.specs.Tree.{Trees, rowid, put_row}
use Rattle.sqlite.specs.Query.{IsAnswer, Output, output, page}
use Rattle.sqlite.specs.Program.{overlay}
use Rattle.sqlite.specs.Listing.{understood}
use Rattle.sqlite.specs.Effect.{Database}
use Rattle.sqlite.specs.State.{State, mode_of, Executes}
use Rattle.sqlite_rules.specs.Keys.{AreConflicts}
use Rattle.sqlite_schema.specs.declared.schema.Index.{Index}
use Rattle.sqlite_rules.specs.Calls.{ids_of}
use Rattle.sqlite_schema.specs.declared.schema.Keys.TheVariants.{Enforced}
use Rattle.sqlite_rules.specs.declared.error.Refusal.{Refusal}
use Rattle.sqlite_schema.specs.declared.command.Conflict.TheVariants.{Abort}
use Rattle.sqlite_schema.specs.declared.command.Upsert.{Upsert}
use Rattle.sqlite_sql.specs.declared.ops.BinaryOp.TheVariants.{Compare}
use Rattle.sqlite_sql.specs.declared.ops.UnaryOp.TheVariants.{Not}
use Rattle.sqlite_sql.specs.declared.ops.CompareOp.TheVariants.{Eq}
use Rattle.sqlite.specs.Collation.TheVariants.{Binary}
use Rattle.sqlite_typed.proofs.TestLemmas.{at_ints}
use Rattle.sqlite_value.specs.Keys.{first_key}
use Rattle.sqlite_value.proofs.OrderLemmas.{value_cmp_total}
use Rattle.sqlite.proofs.Callers.{statement_of, runs_as, one_step, one_permutation}
use Rattle.stored_tables.specs.Layout.{phase, stored}
use Rattle.stored_tables.specs.Texts.{cuts_text, cuts_values, opening_text, opening_values}
use Rattle.stored_tables.specs.Rows.{cuts_of}
use Rattle.stored_tables.specs.Puts.{PutsCuts, OpensPhase}
use Rattle.stored_tables.proofs.TextLemmas.{mends, cuts_text-is, opens, opening_text-is}
use Rattle.stored_tables.proofs.ColumnLemmas.{number_fits}
use Rattle.stored_tables.proofs.PutLemmas.{cast_null, cast_whole, went, same_value, plain, Puts, puts, puts_one}
use Rattle.stored_tables.proofs.TableLemmas.{apart}

abbrev pub phase_row : ℕ → Row
phase_row n = Int (pos 1) ∷ Null ∷ Int (pos n) ∷ []

-- the phase has so many cuts, and the other tables stay
pub record Replaces (n : ℕ) (old new : Trees) : Type 0 where
  pub phase : new 5 ≡ phase_row n ∷ []
  pub season : new 0 ≡ old 0
  pub answers : new 1 ≡ old 1
  pub allots : new 3 ≡ old 3
  pub raises : new 6 ≡ old 6

abbrev terms : List Term
terms = col 0 0 ∷ lit Null ∷ col 0 1 ∷ []

abbrev clause : Upsert
clause = record { target = Some (0 ∷ []); update = Some (record { lets = []; body = mends }) }

cast_phase : (strict : Bool) (n : ℕ) → cast_row (phase strict) (phase_row n) ≡ phase_row n
cast_phase strict n = λ i. cast_whole (pos 1) i ∷ cast_null i ∷ cast_whole (pos n) i ∷ []

same_id : is_true (binary (Compare Eq Binary) (Int (pos 1)) (Int (pos 1))) ≡ true
same_id = at_ints false Eq (pos 1) (pos 1)

module _ (task : Task) (new : Row) (db : Trees) (one : Written) where
  judged : (verdict : Option Refusal) → Judged task Abort (clause ∷ []) new db verdict (Ok one) → Upserts task Abort new db (clause ∷ []) (Ok one)
  judged None h = h
  judged (Some why) h = absurd (let e = h in cc)

  tried : Tries task Abort (clause ∷ []) new db (Ok one) → Upserts task Abort new db (clause ∷ []) (Ok one)
  tried (inl over) = absurd (let e = over.1 in cc)
  tried (inr put) = judged put.0 put.2

-- the row that is there is the one that is met
met : (strict : Bool) (indexes : List Index) (was : Row) (n : ℕ) (found : List Row) → AreConflicts (Some (0 ∷ [])) indexes (phase strict) ((Int (pos 1) ∷ was) ∷ []) (phase_row n) found
    → (more : List Row) × (found ≡ (Int (pos 1) ∷ []) ∷ more)
unfolding binary first_key
met strict indexes was n [] h = absurd (h.complete (Int (pos 1) ∷ was) (inl refl) (rw same_id))
met strict indexes was n (there ∷ more) h =
    let it = h.sound there (inl refl) in
    let row : it.0 ≡ (Int (pos 1) ∷ was) = (elim it.1 [ inl same ↦ same | inr none ↦ absurd none ]) in
    (more, ap (λ (r : Row). r ∷ more) (it.3 ∙ ap (λ (r : Row). rowid r ∷ []) row))

-- what is before the row that is there, for the update
abbrev given : ℕ → Row
given n = Int (pos 1) ∷ Int (pos n) ∷ Int (pos 1) ∷ Int (pos 1) ∷ Int (pos 1) ∷ Int (pos n) ∷ []

-- the row that the update asks for
asked : (db : Trees) (was : Row) (n : ℕ) (rows : List Row) → db 5 ≡ (Int (pos 1) ∷ was) ∷ [] → IsAnswer mends (overlay db []) (given n) rows → rows ≡ (Int (pos 1) ∷ phase_row n) ∷ []
asked db was n rows has a =
    let staged : a.staged ≡ (given n ∷ (Int (pos 1) ∷ was) ∷ []) ∷ [] = a.grouped ∙ rw (has, same_id) in
    let o : Output = ([], Int (pos 1) ∷ phase_row n) in
    let kept : a.kept ≡ o ∷ [] = a.distinct ∙ ap (map (output mends)) staged in
    let ordered = one_permutation o a.ordered (subst (λ k. IsPermutation k a.ordered) kept a.same) in
    a.shown ∙ ap (λ xs. page mends (given n) (map (λ (p : Output). p.1) xs)) ordered

tied : is_eq (value_cmp (Int (pos 1)) (Int (pos 1))) ≡ true
tied = ap is_eq (tied_itself value_cmp_total (Int (pos 1)))

-- the row is replaced, and the other tables stay
replaced : (strict : Bool) (limit : Option ℕ) (params : Row) (db : Trees) (was : Row) (n : ℕ) (one : Written) → db 5 ≡ (Int (pos 1) ∷ was) ∷ []
    → Updates (record { limit = limit; keys = Enforced; schema = stored strict; table = phase strict; params = params }) (record { lets = []; body = mends }) (given n) db (Ok one)
    → Replaces n db one.trees
replaced strict limit params db was n one has h =
    let first = went h in
    let rows = asked db was n first.0 has (first.1.answer Null) in
    let written = went first.2 in
    let table = phase strict in
    let e = λ (all : List Row). edit_of db table (ids_of all) Given 1 all in
    let step = one_step (stored strict) Enforced db written.0 (e first.0) refl written.1 in
    let trees : one.trees ≡ written.0 = ap (λ (w : Written). w.trees) (same_value written.2) in
    let news : (e first.0).news ≡ phase_row n ∷ [] = ap (λ all. (e all).news) rows ∙ ap (λ (r : Row). r ∷ []) (cast_phase strict n) in
    let left : left_by db (e first.0) ≡ [] = ap (λ all. left_by db (e all)) rows ∙ (ap (λ (all : List Row). without_all all (pos 1 ∷ [])) has ∙ rw tied) in
    let set : written.0 5 ≡ phase_row n ∷ [] = step.rows ∙ (ap (λ (l : List Row). put_all l (e first.0).news) left ∙ ap (put_all []) news) in
    record {
      phase = ap (λ (t : Trees). t 5) trees ∙ set;
      season = ap (λ (t : Trees). t 0) trees ∙ step.tables.0 (apart 0 5 refl);
      answers = ap (λ (t : Trees). t 1) trees ∙ step.tables.1.0 (apart 1 5 refl);
      allots = ap (λ (t : Trees). t 3) trees ∙ step.tables.1.1.0 (apart 3 5 refl);
      raises = ap (λ (t : Trees). t 6) trees ∙ step.tables.1.1.1.1.0 (apart 6 5 refl);
    }

abbrev task_of : Bool → Option ℕ → Row → Task
task_of strict limit params = record { limit = limit; keys = Enforced; schema = stored strict; table = phase strict; params = params }

-- the row that was to be put meets the one that is there
resolved : (strict : Bool) (limit : Option ℕ) (db : Trees) (was : Row) (n : ℕ) (one : Written) → db 5 ≡ (Int (pos 1) ∷ was) ∷ []
    → Upserts (task_of strict limit (Int (pos 1) ∷ Int (pos n) ∷ [])) Abort (phase_row n) db (clause ∷ []) (Ok one) → Replaces n db one.trees
resolved strict limit db was n one has h =
    let task = task_of strict limit (Int (pos 1) ∷ Int (pos n) ∷ []) in
    let found = subst (λ (rows : List Row). AreConflicts (Some (0 ∷ [])) (stored strict).indexes (phase strict) rows (phase_row n) h.0) has h.1 in
    let there = met strict (stored strict).indexes was n h.0 found in
    let meets = subst (λ (rows : List Row). Meets task (Upserts task Abort (phase_row n) db []) (phase_row n) db clause rows (Ok one)) there.1 h.2 in
    replaced strict limit (Int (pos 1) ∷ Int (pos n) ∷ []) db was n one has meets

replaced_by : (strict : Bool) (old new : State) (was : Row) (n count : ℕ) → old.now.schema ≡ stored strict → old.now.trees 5 ≡ (Int (pos 1) ∷ was) ∷ [] → Executes cuts_text (Int (pos 1) ∷ Int (pos n) ∷ []) old new (Ok count)
    → (new.now.schema ≡ stored strict) × Replaces n old.now.trees new.now.trees
replaced_by strict old new was n count has one h =
    let params : Row = Int (pos 1) ∷ Int (pos n) ∷ [] in
    let db = old.now.trees in
    let command = InsertOr 3 Abort (source.Values terms 3) (clause ∷ []) in
    let task = task_of strict old.step_limit params in
    let w = runs_as cuts_text params old new (stored strict) has command (cuts_text-is strict).0 (cuts_text-is strict).1 count h in
    let text = statement_of cuts_text (understood (stored strict) cuts_text) in
    let done = went (subst (λ s. Does old.step_limit (mode_of old) params (record old.now { schema = s }) text None command (Ok (w.tally, new.now))) has w.changed) in
    let now = ap (λ (p : Tally × Database). p.1) (same_value (went (went done.2).2).2) in
    let rows = went done.1 in
    let counter = went rows.2 in
    let tries = went counter.2 in
    let counts = went tries.2 in
    let one_row = subst (λ (all : List Row). TriesEach task Abort (clause ∷ []) all (count_of counter.0) (nothing db) (Ok tries.0)) rows.1.1 tries.1 in
    let put = went one_row in
    let puts = tried task _ db put.0 put.1 in
    let plain = subst (λ (r : Row). Upserts task Abort (with_rowid Chosen (db 5) r) db (clause ∷ []) (Ok put.0)) (cast_phase strict n) puts in
    let kept = resolved strict old.step_limit db was n put.0 one plain in
    let last : tries.0 ≡ (joined (nothing db) put.0, _) = same_value put.2 in
    let trees : new.now.trees ≡ put.0.trees = ap (λ (d : Database). d.trees) now
    ∙ (ap (λ (it : Written). it.trees) (same_value counts.2) ∙ (same_value counts.1 ∙ ap (λ (p : Written × ℤ). p.0.trees) last)) in
    (ap (λ (d : Database). d.schema) now, subst (Replaces n db) (sym trees) kept)

one_cut : (n : ℕ) (rows : List Row) → n < 2 ^ 16 → rows ≡ phase_row n ∷ [] → cuts_of rows ≡ Some (Some n)
one_cut n rows fits is = ap cuts_of is ∙ ap (option_map Some) (number_fits 16 n fits)

pub puts_cuts : (strict : Bool) (old new : State) (was : Row) (n count : ℕ) → n < 2 ^ 16 → old.now.schema ≡ stored strict → old.now.trees 5 ≡ (Int (pos 1) ∷ was) ∷ [] → Executes cuts_text (cuts_values n) old new (Ok count) → PutsCuts n old.now new.now
puts_cuts strict old new was n count fits has one h =
    let it = replaced_by strict old new was n count has one h in
    record {
      schema_is = it.0 ∙ sym has;
      phase = one_cut n (new.now.trees 5) fits it.1.phase;
      others = (it.1.season, (it.1.answers, (it.1.allots, (it.1.raises, tt))));
    }

-- ---- the row of a season

not_none : is_true (unary Not (Int (pos 0))) ≡ true
unfolding unary
not_none = refl

not_one : is_true (unary Not (Int (pos 1))) ≡ false
unfolding unary
not_one = refl

one_least : {X : Type 0} (x : X) (xs : List X) → min 1 (length (x ∷ xs)) ≡ 1
one_least x xs = min-eq_left (omega arith)

-- what the row is made of: one row where the table is empty, and else none
opened_by : (db : Trees) (rows : List Row) → IsAnswer opens (overlay db []) (Int (pos 1) ∷ []) rows → (stood : List Row) → db 5 ≡ stood → ((stood ≡ []) × (rows ≡ phase_row 0 ∷ [])) ⊎ (rows ≡ [])
opened_by db rows a [] has =
    let env = (Int (pos 1) ∷ []) ∷ (Int (pos 0) ∷ []) ∷ [] in
    let staged : a.staged ≡ env ∷ [] = a.grouped ∙ rw (has, not_none) in
    let o : Output = ([], phase_row 0) in
    let kept : a.kept ≡ o ∷ [] = a.distinct ∙ ap (map (output opens)) staged in
    let ordered = one_permutation o a.ordered (subst (λ k. IsPermutation k a.ordered) kept a.same) in
    inl (refl, a.shown ∙ ap (λ xs. page opens (Int (pos 1) ∷ []) (map (λ (p : Output). p.1) xs)) ordered)
opened_by db rows a (row ∷ more) has =
    let one = one_least ((Int (pos 1) ∷ []) ∷ row ∷ []) (flat_map (λ (r : Row). ((Int (pos 1) ∷ []) ∷ r ∷ []) ∷ []) more) in
    let staged : a.staged ≡ [] = a.grouped ∙ rw (has, one, not_one) in
    let kept : a.kept ≡ [] = a.distinct ∙ ap (map (output opens)) staged in
    let ordered : a.ordered ≡ [] = no_row a.ordered (length_permutation [] a.ordered (subst (λ k. IsPermutation k a.ordered) kept a.same)) in
    inr (a.shown ∙ ap (λ xs. page opens (Int (pos 1) ∷ []) (map (λ (p : Output). p.1) xs)) ordered)
  where
    no_row : (xs : List Output) → length xs ≡ 0 → xs ≡ []
    no_row [] h = refl
    no_row (x ∷ xs) h = absurd (omega (arith, h))

pub opens_phase : (strict : Bool) (old new : State) → old.now.schema ≡ stored strict → Executes opening_text opening_values old new (Ok 1) → OpensPhase old.now new.now
opens_phase strict old new has h =
    let db = old.now.trees in
    let from = source.Query (record { lets = []; body = opens }) in
    let it = puts (stored strict) 3 (phase strict) from opening_text opening_values old new 1 refl has (opening_text-is strict).0 (opening_text-is strict).1 h in
    let a : IsAnswer opens (overlay db []) (Int (pos 1) ∷ []) it.0.rows = it.0.source.answer Null in
    elim (opened_by db it.0.rows a (db 5) refl) [
      | inl one ↦ opened one.0 it.0 one.1
      | inr none ↦ absurd (let zero : it.0.count ≡ 0 = it.0.counted ∙ ap (λ all. length (edit_of db (plain (phase strict)) [] Chosen 0 all).news) none in omega (arith, it.1, zero))
    ]
  where
    opened : old.now.trees 5 ≡ [] → (it : Puts (stored strict) (phase strict) (source.Query (record { lets = []; body = opens })) opening_values old.now new.now) → it.rows ≡ phase_row 0 ∷ [] → OpensPhase old.now new.now
    opened bare it one =
        let p = puts_one (stored strict) 3 (phase strict) (source.Query (record { lets = []; body = opens })) opening_text opening_values old new 1 (phase_row 0) (phase_row 0) it one
        (ap (with_rowid Chosen (old.now.trees 5)) (cast_phase strict 0)) (λ keys olds news. refl) in
        record {
          schema_is = p.schema_is ∙ sym has;
          bare = bare;
          phase = one_cut 0 (new.now.trees 5) (omega arith) (p.rows ∙ ap (put_row (phase_row 0)) bare);
          others = (p.others.0 (apart 0 5 refl), (p.others.1.0 (apart 1 5 refl), (p.others.1.1.0 (apart 3 5 refl), (p.others.1.1.1.1.0 (apart 6 5 refl), tt))));
        }
