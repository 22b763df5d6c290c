-- Whatever the schema is, each text that makes a table leaves the tables that were there, with their rows.
use Rattle.std.proofs.Common.{◌≡◌, ◌⊎◌, ◌==◌, ◌&&◌, not, cond, inl, inr, ℕ, List, [], ◌∷◌, ◌++◌, append-nil, append_assoc, length, Bool, true, false, Option, Some, None, Ok, Err, refl, sym, ap, subst, ◌∙◌}
use Rattle.std.proofs.lemmas.Bool.{cases_Bool}
use Rattle.std.specs.List.{AllByRecursion}
use Rattle.sqlite.specs.Schema.{Schema}
use Rattle.sqlite.specs.Table.{Table}
use Rattle.sqlite.specs.Tree.{Trees}
use Rattle.sqlite.specs.Change.{KeepsRows, next_tree}
use Rattle.sqlite.specs.Command.{Command}
use Rattle.sqlite.specs.Command.TheVariants.{CreateTable as MakeTable, Nothing}
use Rattle.sqlite.specs.Compile.{compiled, first, command}
use Rattle.sqlite.specs.Effect.{Database}
use Rattle.sqlite.specs.Rows.{Then}
use Rattle.sqlite.specs.Does.{Tally, Does, Defines, MakesTable, MakesSequence, lacks_sequence}
use Rattle.sqlite.specs.Clock.{timed}
use Rattle.sqlite.specs.Listing.{understood, if_select, listing_schema}
use Rattle.sqlite.specs.Order.{Row}
use Rattle.sqlite.specs.State.{State, mode_of, text_of, shows_rows, Runs, ExecutesIn, Executes}
use Rattle.sqlite.specs.declared.run.Mode.{Mode}
use Rattle.sqlite_resolve.specs.Compile.{create_table}
use Rattle.sqlite_resolve.specs.Define as define
use Rattle.sqlite_resolve.specs.Lowering.{Checked, and_then}
use Rattle.sqlite_resolve.specs.declared.error.CompileError.{CompileError}
use Rattle.sqlite_resolve.specs.declared.error.CompileError.TheVariants.{Unsupported}
use Rattle.sqlite_schema.specs.declared.command.Returning.{Returning}
use Rattle.sqlite_syntax.specs.declared.statement.Parsed.{Parsed}
use Rattle.sqlite_ast.specs.declared.Statement.TheVariants as written
use Rattle.sqlite_ast.specs.declared.CreateTable.{CreateTable}
use Rattle.sqlite_tied.specs.Compute.{everything}
use Rattle.stored_tables.specs.Leaves.{LeavesTables}
use Rattle.stored_tables.specs.Texts.{season_table, answer_table, allot_table, phase_table, lift_table, table_texts}
use Rattle.stored_tables.proofs.PutLemmas.{went, same_value}
use Rattle.stored_tables.proofs.CompileLemmas.{then_inv, IsText, understood_as}
use Rattle.stored_tables.proofs.CreateLemmas.{RunsEach}

-- ---- tables and rows

keeps_same : (tables : List Table) (old : Trees) → KeepsRows tables old old
keeps_same [] old = tt
keeps_same (t ∷ tables) old = (refl, keeps_same tables old)

keeps_then : (tables : List Table) (a b c : Trees) → KeepsRows tables a b → KeepsRows tables b c → KeepsRows tables a c
keeps_then [] a b c one two = tt
keeps_then (t ∷ tables) a b c one two = (two.0 ∙ one.0, keeps_then tables a b c one.1 two.1)

keeps_front : (front more : List Table) (a b : Trees) → KeepsRows (front ++ more) a b → KeepsRows front a b
keeps_front [] more a b h = tt
keeps_front (t ∷ front) more a b h = (h.0, keeps_front front more a b h.1)

pub leaves_same : (old new : Database) → new ≡ old → LeavesTables old new
leaves_same old new is = record {
  more = [];
  tables = ap (λ (d : Database). d.schema.tables) is ∙ sym (append-nil old.schema.tables);
  rows = subst (λ (d : Database). KeepsRows old.schema.tables old.trees d.trees) (sym is) (keeps_same old.schema.tables old.trees);
}

pub leaves_then : (a b c : Database) → LeavesTables a b → LeavesTables b c → LeavesTables a c
leaves_then a b c one two = record {
  more = one.more ++ two.more;
  tables = two.tables ∙ (ap (λ l. l ++ two.more) one.tables ∙ append_assoc a.schema.tables one.more two.more);
  rows = keeps_then a.schema.tables a.trees b.trees c.trees one.rows
      (keeps_front a.schema.tables one.more b.trees c.trees (subst (λ l. KeepsRows l b.trees c.trees) one.tables two.rows));
}

creates_leave : (text : List ℕ) (old new : Database) → MakesTable text old (Ok new) → LeavesTables old new
creates_leave text old new c = record { more = record c.table { tree = next_tree old.schema } ∷ []; tables = ap (λ (s : Schema). s.tables) c.is; rows = c.others }

sequence_leaves : (b : Bool) (old new : Database) → lacks_sequence old.schema ≡ b → MakesSequence old (Ok new) → LeavesTables old new
sequence_leaves true old new is h = creates_leave _ old new (rw is at h)
sequence_leaves false old new is h = leaves_same old new (same_value (rw is at h))

table_leaves : (mode : Mode) (text : List ℕ) (old : Database) (done : Tally × Database) → Defines mode (Then (MakesTable text old) MakesSequence) (Ok done) → LeavesTables old done.1
table_leaves mode text old done h =
    let made = went h in
    let one = went made.1 in
    let now : done.1 ≡ made.0 = ap (λ (p : Tally × Database). p.1) (same_value made.2) in
    subst (λ (d : Database). LeavesTables old d) (sym now)
    (leaves_then old one.0 made.0 (creates_leave text old one.0 one.1) (sequence_leaves (lacks_sequence one.0.schema) one.0 made.0 refl one.2))

does_leave : (limit : Option ℕ) (mode : Mode) (params : Row) (text : List ℕ) (returning : Option Returning) (old : Database) (done : Tally × Database) → Does limit mode params old text returning MakeTable (Ok done) → LeavesTables old done.1
does_leave limit mode params text None old done h = table_leaves mode text old done h
does_leave limit mode params text (Some what) old done h = absurd (let e = h in cc)

-- ---- what the texts are

-- a table is made, or there is one
abbrev Makes : Command → Type 0
Makes c = (c ≡ MakeTable) ⊎ (c ≡ Nothing)

chosen : (b : Bool) (c : Command) → ◌≡◌ {A = Checked Command} (cond b (Ok MakeTable) (Err Unsupported)) (Ok c) → Makes c
chosen true c h = inl (sym (same_value h))
chosen false c h = absurd (let e = h in cc)

abbrev made_if : List (List ℕ) → CreateTable → Bool → Checked Command
made_if formats def is_new =
    cond is_new (and_then (define.table formats def) (λ t. cond ((length t.computed == length t.stamps.places) && not def.resolves) (Ok MakeTable) (Err Unsupported))) (Ok Nothing)

new_or_not : (formats : List (List ℕ)) (def : CreateTable) (is_new : Bool) (c : Command) → made_if formats def is_new ≡ Ok c → Makes c
new_or_not formats def true c h =
    let one = then_inv (define.table formats def) (λ t. cond ((length t.computed == length t.stamps.places) && not def.resolves) (Ok MakeTable) (Err Unsupported)) c h in
    chosen ((length one.0.computed == length one.0.stamps.places) && not def.resolves) c one.2
new_or_not formats def false c h = inr (sym (same_value h))

attached_or_not : (b : Bool) (found : Checked Bool) (formats : List (List ℕ)) (def : CreateTable) (c : Command) → cond b (Err Unsupported) (and_then found (made_if formats def)) ≡ Ok c → Makes c
attached_or_not true found formats def c h = absurd (let e = h in cc)
attached_or_not false found formats def c h = let one = then_inv found (made_if formats def) c h in new_or_not formats def one.0 c one.2

makes : (schema : Schema) (formats : List (List ℕ)) (def : CreateTable) (c : Command) → create_table schema formats def ≡ Ok c → Makes c
unfolding create_table
makes schema formats def c h = attached_or_not _ _ formats def c h

abbrev is_create : Checked Parsed → Type 0
is_create (Ok p) = (def : CreateTable) × (p.statement ≡ written.CreateTable def)
is_create (Err e) = ⊥

resolves : (p : Parsed) → is_create (Ok p) → (schema : Schema) (base : ℕ) (c : Command) → command schema p.formats base p.statement ≡ Ok c → Makes c
unfolding command
resolves p create schema base c h = makes schema p.formats create.0 c (sym (ap (command schema p.formats base) create.1) ∙ h)

runs_leave : (old new : State) (returning : Option Returning) (command : Command) (text : List ℕ) (params : Row) (count : ℕ) → Makes command → Runs old new returning command text params count → LeavesTables old.now new.now
runs_leave old new returning command text params count (inl is) h =
    let w = subst (λ (k : Command). Runs old new returning k text params count) is h in does_leave old.step_limit (mode_of old) params text returning old.now (w.tally, new.now) w.changed
runs_leave old new returning command text params count (inr is) h =
    let same = subst (λ (k : Command). Runs old new returning k text params count) is h in leaves_same old.now new.now same.0.0.now_is

text_leaves : (text : List ℕ) → IsText is_create text → (old new : State) (count : ℕ) → Executes text [] old new (Ok count) → LeavesTables old.now new.now
unfolding ExecutesIn
text_leaves text p old new count h =
    let make = understood_as is_create Makes resolves text p old.now.schema h.0 h.1.is in
    elim (cases_Bool (shows_rows false h.0)) [
      | inl shows ↦ absurd (let e = (rw shows at h.2).0 in cc)
      | inr runs ↦ runs_leave old new h.0.returning h.0.command (text_of text h.0) (timed [] h.0.formats h.1.now) count make (rw runs at h.2)
    ]

table_texts-create : AllByRecursion (IsText is_create) table_texts
unfolding understood first everything listing_schema
table_texts-create =
    let it : (text : List ℕ) → is_create (first text) → (e : CompileError) × (if_select (compiled listing_schema text) ≡ Err e) → IsText is_create text = λ text kind unlisted. record { kind = kind; unlisted = unlisted } in
    (it season_table (_, refl) (_, refl), (it answer_table (_, refl) (_, refl), (it allot_table (_, refl) (_, refl), (it phase_table (_, refl) (_, refl), (it lift_table (_, refl) (_, refl), tt)))))

each_leaves : (texts : List (List ℕ)) → AllByRecursion (IsText is_create) texts → (old new : State) → RunsEach texts old new → LeavesTables old.now new.now
each_leaves [] all old new ran = leaves_same old.now new.now (ap (λ (s : State). s.now) (sym ran))
each_leaves (text ∷ texts) all old new ran = leaves_then old.now ran.0.now new.now (text_leaves text all.0 old ran.0 ran.1 ran.2) (each_leaves texts all.1 ran.0 new ran.3)

-- the five one after another
pub all_leave : (old new : State) → RunsEach table_texts old new → LeavesTables old.now new.now
all_leave = each_leaves table_texts table_texts-create
