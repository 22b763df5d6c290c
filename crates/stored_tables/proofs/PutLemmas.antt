-- What an INSERT of one row does to its table, whatever the table.
use Rattle.std.proofs.Common.{◌≡◌, ◌≢◌, ◌⊎◌, inl, inr, ℕ, ℤ, List, [], ◌∷◌, ◌++◌, length, unwrap_or, drop, slice_get, Bool, true, false, not, ◌&&◌, cond, Option, Some, None, Ok, Err, Result, refl, sym, ap, subst, ◌∙◌, true≢false}
use Rattle.std.specs.List.{AllByRecursion}
use Rattle.sqlite.specs.declared.types.Value.{Value}
use Rattle.sqlite.specs.declared.types.Value.TheVariants.{Null, Int}
use Rattle.sqlite.specs.Order.{Row}
use Rattle.sqlite.specs.Ops.{unary}
use Rattle.sqlite.specs.Kind.TheVariants.{Integer}
use Rattle.sqlite.specs.Cast.{cast, cast_row}
use Rattle.sqlite.specs.Table.{Table}
use Rattle.sqlite.specs.Schema.{Schema}
use Rattle.sqlite.specs.Source.{Source}
use Rattle.sqlite.specs.Command.TheVariants.{Insert}
use Rattle.sqlite.specs.Edit.{edit_of, with_rowid, are_fresh, is_taken, put_all, taken_by}
use Rattle.sqlite.specs.Rowids.TheVariants.{Chosen}
use Rattle.sqlite.specs.Does.{Tally, OnRows, AtPlace}
use Rattle.sqlite.specs.Rows.{Written, Task}
use Rattle.sqlite.specs.Tree.{Trees, put_row}
use Rattle.sqlite.specs.Listing.{understood}
use Rattle.sqlite.specs.Effect.{Database, IsSource}
use Rattle.sqlite.specs.State.{State, mode_of, Executes}
use Rattle.sqlite_rules.specs.Action.{works, Writes}
use Rattle.sqlite_schema.specs.declared.schema.Keys.{Keys}
use Rattle.sqlite.proofs.Callers.{IsPlain, command_of, runs_as, one_step}

either : (b : Bool) (x : Value) → cond b x x ≡ x
either true x = refl
either false x = refl

pub cast_null : cast Integer Null ≡ Null
unfolding unary
cast_null = either _ Null

pub cast_whole : (n : ℤ) → cast Integer (Int n) ≡ Int n
unfolding unary
cast_whole n = either _ (Int n)

-- a part that gave a value did not stop on the way
pub went : {B E R : Type 0} {b : B} {Stops : E → Type 0} → ((stop : E) × Stops stop × (Ok b ≡ Err stop)) ⊎ R → R
went (inl stopped) = absurd (let e = stopped.2 in cc)
went (inr on) = on

pub same_value : {B E : Type 0} {a b : B} → ◌≡◌ {A = Result B E} (Ok a) (Ok b) → a ≡ b
same_value e = cc

not_taken : (b : Bool) → (not b && true) ≡ true → b ≡ false
not_taken true h = absurd (true≢false (sym h))
not_taken false h = refl

-- a table that nothing counts for, and no default of which reads the time
abbrev pub plain : Table → Table
plain t = record t { stamps = record { places = []; terms = []; formats = [] }; is_counted = false }

-- One row was put into the table of this tree, the other tables of the schema stay, and so does the schema.
pub record PutsRow (schema : Schema) (tree : ℕ) (row : Row) (old new : Database) : Type 0 where
  pub schema_is : new.schema ≡ schema
  pub rows : new.trees tree ≡ put_row row (old.trees tree)
  pub fresh : is_taken (old.trees tree) row ≡ false
  pub others : AllByRecursion (λ t. t.tree ≢ tree → new.trees t.tree ≡ old.trees t.tree) schema.tables

-- what was put in, in one edit
pub record Puts (schema : Schema) (t : Table) (from : Source) (params : Row) (old new : Database) : Type 0 where
  pub rows : List Row
  pub source : IsSource (record { schema = schema; trees = old.trees }) (params ++ []) from rows
  pub keys : Keys
  pub next : Trees
  pub edited : Writes schema keys old.trees (edit_of old.trees (plain t) [] Chosen 0 rows) (Ok next)
  pub is : new ≡ record { schema = schema; trees = next }
  pub count : ℕ
  pub counted : count ≡ length (edit_of old.trees (plain t) [] Chosen 0 rows).news

module _ (schema : Schema) (at : ℕ) (t : Table) (from : Source) (text : List ℕ) (params : Row) (old new : State) (count : ℕ) where
  done_by : (task : Task) → task.schema ≡ schema → (done : Tally × Database) → task.table ≡ plain t → task.params ≡ params → OnRows task (mode_of old) None (Insert at from) old.now.trees (Ok done)
      → (it : Puts schema t from params old.now done.1) × (it.count ≡ unwrap_or done.0.rows 0)
  done_by task has done table given h = done_with task.limit task.keys done
      (subst (λ (it : Task). OnRows it (mode_of old) None (Insert at from) old.now.trees (Ok done)) (λ i. record { limit = task.limit; keys = task.keys; schema = has i; table = table i; params = given i }) h)
    where
      done_with : (limit : Option ℕ) (keys : Keys) (done : Tally × Database) → OnRows (record { limit = limit; keys = keys; schema = schema; table = plain t; params = params }) (mode_of old) None (Insert at from) old.now.trees (Ok done)
          → (it : Puts schema t from params old.now done.1) × (it.count ≡ unwrap_or done.0.rows 0)
      done_with limit keys done h =
          let w = went h in
          let given = went w.1 in
          let counter = went given.2 in
          let none : counter.0 ≡ None = same_value counter.1 in
          let written = went counter.2 in
          let counted = went written.2 in
          let trees : w.0.trees ≡ written.0 = ap (λ (it : Written). it.trees) (same_value counted.2) ∙ same_value counted.1 in
          let concluded = went (went w.2).2 in
          let now = ap (λ (p : Tally × Database). p.1) (same_value concluded.2) in (
            record {
              rows = given.0;
              source = given.1;
              keys = keys;
              next = written.0;
              edited = written.1;
              is = now ∙ ap (λ (db : Trees). let d : Database = record { schema = schema; trees = db } in d) trees;
              count = unwrap_or done.0.rows 0;
              counted = ap (λ (p : Tally × Database). unwrap_or p.0.rows 0) (same_value concluded.2) ∙ ap (λ (it : Written). length it.rows) (same_value counted.2);
            },
            refl,
          )

  table_of : (db : Database) (found : Option Table) (done : Tally × Database) → db.schema ≡ schema → found ≡ Some (plain t)
      → AtPlace (λ table. OnRows (record { limit = old.step_limit; keys = (mode_of old).keys; schema = db.schema; table = table; params = params }) (mode_of old) None (Insert at from) old.now.trees) found (Ok done)
      → (it : Puts schema t from params old.now done.1) × (it.count ≡ unwrap_or done.0.rows 0)
  table_of db None done has there h = absurd (let e = there in cc)
  table_of db (Some table) done has there h = done_by (record { limit = old.step_limit; keys = (mode_of old).keys; schema = db.schema; table = table; params = params }) has done (let e = there in cc) refl h

  pub puts : slice_get schema.tables at ≡ Some (plain t) → old.now.schema ≡ schema → command_of (understood schema text) ≡ Insert at from → IsPlain (understood schema text) → Executes text params old new (Ok count)
      → (it : Puts schema t from params old.now new.now) × (count ≡ it.count)
  puts there has is bare h =
      let w = runs_as text params old new schema has (Insert at from) is bare count h in
      let it = table_of old.now (slice_get old.now.schema.tables at) (w.tally, new.now) has (ap (λ (s : Schema). slice_get s.tables at) has ∙ there) w.changed in
      (it.0, w.counted ∙ sym it.1)

  -- the rows that were to be put are one
  pub puts_one : (source row : Row) (it : Puts schema t from params old.now new.now) → it.rows ≡ source ∷ []
      → with_rowid Chosen (old.now.trees t.tree) (cast_row (plain t) (drop 0 source)) ≡ row
      → ((keys : Keys) (olds news : List Row) → works schema keys 0 t.tree olds news ≡ [])
      → PutsRow schema t.tree row old.now new.now
  puts_one source row it is stored none =
      let db = old.now.trees in
      let e = λ (all : List Row). edit_of db (plain t) [] Chosen 0 all in
      let step = one_step schema it.keys db it.next (e it.rows) (none it.keys (taken_by db (e it.rows)) (e it.rows).news) it.edited in
      let news : (e it.rows).news ≡ row ∷ [] = ap (λ all. (e all).news) is ∙ ap (λ (r : Row). r ∷ []) stored in
      let trees : new.now.trees ≡ it.next = ap (λ (d : Database). d.trees) it.is in
      record {
        schema_is = ap (λ (d : Database). d.schema) it.is;
        rows = ap (λ (all : Trees). all t.tree) trees ∙ (step.rows ∙ ap (put_all (db t.tree)) news);
        fresh = not_taken _ (subst (λ all. are_fresh (db t.tree) all ≡ true) news step.fresh);
        others = subst (λ (all : Trees). AllByRecursion (λ (other : Table). other.tree ≢ t.tree → all other.tree ≡ db other.tree) schema.tables) (sym trees) step.tables;
      }

  pub puts_row : (source row : Row) (it : Puts schema t from params old.now new.now)
      → ((rows : List Row) → IsSource (record { schema = schema; trees = old.now.trees }) (params ++ []) from rows → rows ≡ source ∷ [])
      → with_rowid Chosen (old.now.trees t.tree) (cast_row (plain t) (drop 0 source)) ≡ row
      → ((keys : Keys) (olds news : List Row) → works schema keys 0 t.tree olds news ≡ [])
      → PutsRow schema t.tree row old.now new.now
  puts_row source row it one stored none = puts_one source row it (one it.rows it.source) stored none
