-- Whatever the schema is, each text that puts rows leaves it, and so does what a query shows.
use Rattle.std.proofs.Common.{◌≡◌, ◌==◌, ◌⊎◌, inl, inr, ℕ, List, [], length, slice_get, false, Option, Some, None, Ok, Err, IsTrue, refl, sym, ap, subst, ◌∙◌}
use Rattle.std.proofs.lemmas.Bool.{cases_Bool}
use Rattle.sqlite.specs.Schema.{Schema}
use Rattle.sqlite.specs.Command.{Command}
use Rattle.sqlite.specs.Command.TheVariants.{Select, Insert, InsertOr, Update, Delete, CreateTable, CreateIndex, CreateView, DropTable, DropIndex, DropView, Rows as Values, Begin, Commit, Rollback, Savepoint, Release, RollbackTo, Nothing}
use Rattle.sqlite.specs.Source.{Source}
use Rattle.sqlite.specs.Compile.{first, command, insert, insert_or, insert_or_abort, new_rows, target}
use Rattle.sqlite.specs.Listing.{understood, listing_schema}
use Rattle.sqlite_tied.specs.Compute.{everything}
use Rattle.sqlite_resolve.specs.Body.{table_at}
use Rattle.sqlite_resolve.specs.Given.{upserts}
use Rattle.sqlite_resolve.specs.Lowering.{Checked, and_then}
use Rattle.sqlite_syntax.specs.declared.statement.Parsed.{Parsed}
use Rattle.sqlite_ast.specs.declared.Statement.TheVariants as written
use Rattle.sqlite_ast.specs.declared.Conflict.TheVariants as conflict
use Rattle.sqlite_ast.specs.declared.Rows.{Rows}
use Rattle.sqlite_ast.specs.declared.Upsert as ast
use Rattle.sqlite_schema.specs.declared.command.Conflict.{Conflict}
use Rattle.sqlite_schema.specs.declared.command.Conflict.TheVariants.{Abort}
use Rattle.sqlite_schema.specs.declared.command.Upsert.{Upsert}
use Rattle.sqlite_schema.specs.declared.command.Returning.{Returning}
use Rattle.sqlite.specs.declared.run.Mode.{Mode}
use Rattle.sqlite.specs.Order.{Row}
use Rattle.sqlite.specs.Table.{Table}
use Rattle.sqlite.specs.Tree.{Trees}
use Rattle.sqlite.specs.Effect.{Database}
use Rattle.sqlite.specs.Rows.{Task}
use Rattle.sqlite.specs.Does.{Tally, Does, OnRows, AtPlace}
use Rattle.sqlite.specs.Clock.{timed}
use Rattle.sqlite.specs.State.{State, mode_of, text_of, shows_rows, Runs, ExecutesIn, Executes, Shown, ShowsRows}
use Rattle.stored_tables.specs.Texts.{answer_text, raise_text, allot_text, part_text, opening_text, cuts_text}
use Rattle.stored_tables.proofs.PutLemmas.{went, same_value}
use Rattle.stored_tables.proofs.CompileLemmas.{then_inv, IsText, understood_as}

-- rows are put into a table
abbrev pub IsWrite : Command → Type 0
IsWrite c = ((at : ℕ) × (s : Source) × (c ≡ Insert at s)) ⊎ ((at : ℕ) × (way : Conflict) × (s : Source) × (found : List Upsert) × (c ≡ InsertOr at way s found))

inserts : (schema : Schema) (base : ℕ) (name : List ℕ) (columns : List (List ℕ)) (rows : Rows) (c : Command) → insert schema base name columns rows ≡ Ok c → IsWrite c
unfolding insert
inserts schema base name columns rows c h =
    let put : ℕ → Source → Checked Command = λ at s. Ok (Insert at s) in
    let one = then_inv (target schema name) (λ at. and_then (table_at schema at) (λ table. and_then (new_rows schema table base columns rows) (put at))) c h in
    let two = then_inv (table_at schema one.0) (λ table. and_then (new_rows schema table base columns rows) (put one.0)) c one.2 in
    let three = then_inv (new_rows schema two.0 base columns rows) (put one.0) c two.2 in
    inl (one.0, three.0, sym (same_value three.2))

inserts_or : (schema : Schema) (base : ℕ) (name : List ℕ) (columns : List (List ℕ)) (rows : Rows) (clauses : List ast.Upsert) (c : Command) → insert_or schema base Abort name columns rows clauses ≡ Ok c → IsWrite c
unfolding insert_or
inserts_or schema base name columns rows clauses c h =
    let put : ℕ → Source → List Upsert → Checked Command = λ at s found. Ok (InsertOr at Abort s found) in
    let one = then_inv (target schema name) (λ at. and_then (table_at schema at) (λ table. and_then (new_rows schema table base columns rows) (λ s. and_then (upserts schema at table base clauses) (put at s)))) c h in
    let two = then_inv (table_at schema one.0) (λ table. and_then (new_rows schema table base columns rows) (λ s. and_then (upserts schema one.0 table base clauses) (put one.0 s))) c one.2 in
    let three = then_inv (new_rows schema two.0 base columns rows) (λ s. and_then (upserts schema one.0 two.0 base clauses) (put one.0 s)) c two.2 in
    let four = then_inv (upserts schema one.0 two.0 base clauses) (put one.0 three.0) c three.2 in
    inr (one.0, Abort, three.0, four.0, sym (same_value four.2))

writes : (schema : Schema) (base : ℕ) (name : List ℕ) (columns : List (List ℕ)) (rows : Rows) (clauses : List ast.Upsert) (c : Command) → insert_or_abort schema base name columns rows clauses ≡ Ok c → IsWrite c
unfolding insert_or_abort
writes schema base name columns rows clauses c h = elim (cases_Bool (length clauses == 0)) [
  | inl none ↦ inserts schema base name columns rows c (rw none at h)
  | inr some ↦ inserts_or schema base name columns rows clauses c (rw some at h)
]

abbrev pub plain_of : Checked Parsed → Type 0
plain_of (Ok p) = (name : List ℕ) × (columns : List (List ℕ)) × (rows : Rows) × (clauses : List ast.Upsert) × (p.statement ≡ written.Insert conflict.Abort name columns rows clauses [])
plain_of (Err e) = ⊥

resolves : (p : Parsed) → plain_of (Ok p) → (schema : Schema) (base : ℕ) (c : Command) → command schema p.formats base p.statement ≡ Ok c → IsWrite c
unfolding command
resolves p plain schema base c h = writes schema base plain.0 plain.1 plain.2 plain.3 c (sym (ap (command schema p.formats base) plain.4) ∙ h)

-- a text that puts rows into a table
abbrev pub PutsRows : List ℕ → Type 0
PutsRows = IsText plain_of

concludes : (task : Task) (mode : Mode) (returning : Option Returning) (command : Command) (db : Trees) (done : Tally × Database) → OnRows task mode returning command db (Ok done) → done.1.schema ≡ task.schema
concludes task mode returning command db done h =
    let w = went h in
    let concluded = went (went w.2).2 in
    ap (λ (p : Tally × Database). p.1.schema) (same_value concluded.2)

on_any : (limit : Option ℕ) (mode : Mode) (params : Row) (now : Database) (returning : Option Returning) (command : Command) (found : Option Table) (done : Tally × Database)
    → AtPlace (λ table. OnRows (record { limit = limit; keys = mode.keys; schema = now.schema; table = table; params = params }) mode returning command now.trees) found (Ok done) → done.1.schema ≡ now.schema
on_any limit mode params now returning command None done h = absurd (let e = h in cc)
on_any limit mode params now returning command (Some table) done h = concludes (record { limit = limit; keys = mode.keys; schema = now.schema; table = table; params = params }) mode returning command now.trees done h

-- the schema stays, and the connection was open
abbrev pub Keeps : State → State → Type 0
Keeps old new = (new.now.schema ≡ old.now.schema) × IsTrue old.is_open

runs_keep : (old new : State) (returning : Option Returning) (command : Command) (text : List ℕ) (params : Row) (count : ℕ) → IsWrite command → Runs old new returning command text params count → Keeps old new
runs_keep old new returning command text params count (inl it) h =
    let w = subst (λ (k : Command). Runs old new returning k text params count) it.2 h in
    (on_any old.step_limit (mode_of old) params old.now returning (Insert it.0 it.1) (slice_get old.now.schema.tables it.0) (w.tally, new.now) w.changed, w.shown.was_open)
runs_keep old new returning command text params count (inr it) h =
    let w = subst (λ (k : Command). Runs old new returning k text params count) it.4 h in
    (on_any old.step_limit (mode_of old) params old.now returning (InsertOr it.0 it.1 it.2 it.3) (slice_get old.now.schema.tables it.0) (w.tally, new.now) w.changed, w.shown.was_open)

pub put_keeps : (text : List ℕ) → PutsRows text → (params : Row) (old new : State) (count : ℕ) → Executes text params old new (Ok count) → Keeps old new
unfolding ExecutesIn
put_keeps text p params old new count h =
    let write = understood_as plain_of IsWrite resolves text p old.now.schema h.0 h.1.is in
    elim (cases_Bool (shows_rows false h.0)) [
      | inl shows ↦ absurd (let e = (rw shows at h.2).0 in cc)
      | inr runs ↦ runs_keep old new h.0.returning h.0.command (text_of text h.0) (timed params h.0.formats h.1.now) count write (rw runs at h.2)
    ]

pub answer_text-puts : PutsRows answer_text
unfolding understood first everything listing_schema
answer_text-puts = record { kind = (_, _, _, _, refl); unlisted = (_, refl) }

pub raise_text-puts : PutsRows raise_text
unfolding understood first everything listing_schema
raise_text-puts = record { kind = (_, _, _, _, refl); unlisted = (_, refl) }

pub allot_text-puts : PutsRows allot_text
unfolding understood first everything listing_schema
allot_text-puts = record { kind = (_, _, _, _, refl); unlisted = (_, refl) }

pub part_text-puts : PutsRows part_text
unfolding understood first everything listing_schema
part_text-puts = record { kind = (_, _, _, _, refl); unlisted = (_, refl) }

pub opening_text-puts : PutsRows opening_text
unfolding understood first everything listing_schema
opening_text-puts = record { kind = (_, _, _, _, refl); unlisted = (_, refl) }

pub cuts_text-puts : PutsRows cuts_text
unfolding understood first everything listing_schema
cuts_text-puts = record { kind = (_, _, _, _, refl); unlisted = (_, refl) }

-- ---- queries

returning_keeps : (old new : State) (what : Returning) (command : Command) (text : List ℕ) (params : Row) (tally : Tally) → Does old.step_limit (mode_of old) params old.now text (Some what) command (Ok (tally, new.now)) → new.now.schema ≡ old.now.schema
returning_keeps old new what (Insert at from) text params tally h = on_any old.step_limit (mode_of old) params old.now (Some what) (Insert at from) (slice_get old.now.schema.tables at) (tally, new.now) h
returning_keeps old new what (InsertOr at way from clauses) text params tally h = on_any old.step_limit (mode_of old) params old.now (Some what) (InsertOr at way from clauses) (slice_get old.now.schema.tables at) (tally, new.now) h
returning_keeps old new what (Update at q) text params tally h = on_any old.step_limit (mode_of old) params old.now (Some what) (Update at q) (slice_get old.now.schema.tables at) (tally, new.now) h
returning_keeps old new what (Delete at q) text params tally h = on_any old.step_limit (mode_of old) params old.now (Some what) (Delete at q) (slice_get old.now.schema.tables at) (tally, new.now) h
returning_keeps old new what (Select q names) text params tally h = absurd (let e = h in cc)
returning_keeps old new what CreateTable text params tally h = absurd (let e = h in cc)
returning_keeps old new what (CreateIndex at) text params tally h = absurd (let e = h in cc)
returning_keeps old new what CreateView text params tally h = absurd (let e = h in cc)
returning_keeps old new what (DropTable at) text params tally h = absurd (let e = h in cc)
returning_keeps old new what (DropIndex at) text params tally h = absurd (let e = h in cc)
returning_keeps old new what (DropView at) text params tally h = absurd (let e = h in cc)
returning_keeps old new what (Values values width names) text params tally h = absurd (let e = h in cc)
returning_keeps old new what Begin text params tally h = absurd (let e = h in cc)
returning_keeps old new what Commit text params tally h = absurd (let e = h in cc)
returning_keeps old new what Rollback text params tally h = absurd (let e = h in cc)
returning_keeps old new what (Savepoint name) text params tally h = absurd (let e = h in cc)
returning_keeps old new what (Release name) text params tally h = absurd (let e = h in cc)
returning_keeps old new what (RollbackTo name) text params tally h = absurd (let e = h in cc)
returning_keeps old new what Nothing text params tally h = absurd (let e = h in cc)

-- whatever the schema is, what a query shows leaves it
pub shown_keeps : (text : List ℕ) (params : Row) (old new : State) (rows : List Row) → Shown text params old new rows → Keeps old new
unfolding Shown
shown_keeps text params old new rows h = go h.0.returning h.2
  where
    go : (returning : Option Returning) → ShowsRows old new text h.0 (timed params h.0.formats h.1.now) rows returning → Keeps old new
    go None it = (ap (λ (d : Database). d.schema) it.3.0.now_is, it.3.0.was_open)
    go (Some what) it = (returning_keeps old new what h.0.command (text_of text h.0) (timed params h.0.formats h.1.now) it.1.tally it.1.changed, it.1.shown.was_open)
