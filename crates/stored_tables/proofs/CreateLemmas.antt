-- What the five texts that make tables do: over no table, over the first four, and over all.
use Rattle.std.proofs.Common.{◌≡◌, ℕ, List, [], ◌∷◌, ◌++◌, take, Bool, true, false, None, Ok, Result, refl, sym, ap, subst, ◌∙◌}
use Rattle.std.specs.List.{AllByRecursion}
use Rattle.sqlite.specs.Table.{Table}
use Rattle.sqlite.specs.Schema.{Schema}
use Rattle.sqlite.specs.Command.TheVariants.{CreateTable, Nothing}
use Rattle.sqlite.specs.Change.{created, next_tree, KeepsRows}
use Rattle.sqlite_tied.specs.Compute.{everything}
use Rattle.sqlite.specs.Effect.{Database}
use Rattle.sqlite.specs.Rows.{Then}
use Rattle.sqlite.specs.Does.{Tally, Does, Defines, MakesTable, MakesSequence, lacks_sequence}
use Rattle.sqlite.specs.State.{State, mode_of, Executes}
use Rattle.sqlite.proofs.Callers.{runs_as}
use Rattle.kept_rows.specs.Tables.{NoSeason}
use Rattle.stored_tables.specs.Layout.{season, answer, allot, phase, lift, stored, first_four, no_schema}
use Rattle.stored_tables.specs.Texts.{season_table, answer_table, allot_table, phase_table, lift_table, table_texts}
use Rattle.stored_tables.specs.Told.{tables_in}
use Rattle.stored_tables.proofs.TextLemmas.{IsThere, IsMade, all-there, four-there, front_1, front_2, front_3, season-made, answer-made, allot-made, phase-made, lift-made}
use Rattle.stored_tables.proofs.PutLemmas.{went, same_value}
use Rattle.stored_tables.proofs.TellLemmas.{none_told}

-- a table of this text is made, and nothing else changes
pub record MakesOne (schema : Schema) (table : Table) (old new : Database) : Type 0 where
  pub schema_is : new.schema ≡ created schema table
  pub empty : new.trees (next_tree schema) ≡ []
  pub others : KeepsRows schema.tables old.trees new.trees

same_table : {a b : Table} → {E : Type 0} → ◌≡◌ {A = Result Table E} (Ok a) (Ok b) → a ≡ b
same_table e = cc

sequenced : (schema : Schema) (after : Database) (b : Bool) → b ≡ false → (done : Database) → MakesSequence after (Ok done) → lacks_sequence after.schema ≡ b → done ≡ after
sequenced schema after true never done h is = absurd (let e = never in cc)
sequenced schema after false never done h is = same_value (rw is at h)

pub makes_one : (schema : Schema) (table : Table) (text : List ℕ) (old new : State) (count : ℕ) → IsMade schema table text → old.now.schema ≡ schema → Executes text [] old new (Ok count) → MakesOne schema table old.now new.now
makes_one schema table text old new count is has h =
    let w = runs_as text [] old new schema has CreateTable is.creates is.plain count h in
    let made : Defines (mode_of old) (Then (MakesTable text old.now) MakesSequence) (Ok (w.tally, new.now)) = subst (λ t. Does old.step_limit (mode_of old) [] old.now t None CreateTable (Ok (w.tally, new.now))) is.whole w.changed in
    let done = went made in
    let first = went done.1 in
    let c = first.1 in
    let same : c.table ≡ table = same_table (sym c.defined ∙ is.defined) in
    let after_is : first.0.schema ≡ created schema table = c.is ∙ (λ i. created (has i) (same i)) in
    let settled : done.0 ≡ first.0 = sequenced schema first.0 (lacks_sequence first.0.schema) (ap lacks_sequence after_is ∙ is.alone) done.0 first.2 refl in
    let now : new.now ≡ first.0 = ap (λ (p : Tally × Database). p.1) (same_value done.2) ∙ settled in
    record {
      schema_is = ap (λ (d : Database). d.schema) now ∙ after_is;
      empty = ap (λ (d : Database). d.trees (next_tree schema)) now ∙ subst (λ (s : Schema). first.0.trees (next_tree s) ≡ []) has c.empty;
      others = subst (λ (d : Database). KeepsRows schema.tables old.now.trees d.trees) (sym now) (subst (λ (s : Schema). KeepsRows s.tables old.now.trees first.0.trees) has c.others);
    }

-- the text finds its table, and nothing changes
pub makes_none : (schema : Schema) (text : List ℕ) (old new : State) (count : ℕ) → IsThere schema text → old.now.schema ≡ schema → Executes text [] old new (Ok count) → new.now ≡ old.now
makes_none schema text old new count is has h = (runs_as text [] old new schema has Nothing is.0 is.1 count h).0.0.now_is

answer-front : created front_1 (record (answer true) { tree = 0 }) ≡ front_2
unfolding everything
answer-front = refl

allot-front : created front_2 (record (allot true) { tree = 0 }) ≡ front_3
unfolding everything
allot-front = refl

-- ---- the five one after another

-- these texts were run, one after another
abbrev pub RunsEach : List (List ℕ) → State → State → Type 1
RunsEach [] old new = old ≡ new
RunsEach (text ∷ texts) old new = (mid : State) × (count : ℕ) × Executes text [] old mid (Ok count) × RunsEach texts mid new

-- texts that find their tables change nothing
pub each_stands : (schema : Schema) (texts rest : List (List ℕ)) (old new : State) → AllByRecursion (IsThere schema) texts → old.now.schema ≡ schema → RunsEach (texts ++ rest) old new → (mid : State) × (mid.now ≡ old.now) × RunsEach rest mid new
each_stands schema [] rest old new all has ran = (old, refl, ran)
each_stands schema (text ∷ texts) rest old new all has ran =
    let same = makes_none schema text old ran.0 ran.1 all.0 has ran.2 in
    let more = each_stands schema texts rest ran.0 new all.1 (ap (λ (d : Database). d.schema) same ∙ has) ran.3 in
    (more.0, more.1 ∙ same, more.2)

-- over all five, nothing changes
pub all_stand : (strict : Bool) (old new : State) → old.now.schema ≡ stored strict → RunsEach table_texts old new → new.now ≡ old.now
all_stand strict old new has ran =
    let it = each_stands (stored strict) table_texts [] old new (all-there strict) has ran in
    ap (λ (s : State). s.now) (sym it.2) ∙ it.1

-- over the first four, the table of raises is made
pub fifth_made : (strict : Bool) (old new : State) → old.now.schema ≡ first_four strict → RunsEach table_texts old new → (new.now.schema ≡ stored strict) × MakesOne (first_four strict) (record lift { tree = 0 }) old.now new.now
fifth_made strict old new has ran =
    let it = each_stands (first_four strict) (take 4 table_texts) (lift_table ∷ []) old new (four-there strict) has ran in
    let one = makes_one (first_four strict) (record lift { tree = 0 }) lift_table it.0 it.2.0 it.2.1 (lift-made strict) (ap (λ (d : Database). d.schema) it.1 ∙ has) it.2.2 in
    let made = subst (λ (s : State). MakesOne (first_four strict) (record lift { tree = 0 }) it.0.now s.now) it.2.3 one in
    (made.schema_is, subst (λ (d : Database). MakesOne (first_four strict) (record lift { tree = 0 }) d new.now) it.1 made)

-- over no table, all are made, and there is no row
pub all_made : (old new : State) → old.now.schema ≡ no_schema → RunsEach table_texts old new → (new.now.schema ≡ stored true) × (tables_in new.now.trees ≡ NoSeason)
all_made old new has m =
    let a = makes_one no_schema (record (season true) { tree = 0 }) season_table old m.0 m.1 season-made has m.2 in
    let n = m.3 in
    let b = makes_one front_1 (record (answer true) { tree = 0 }) answer_table m.0 n.0 n.1 answer-made a.schema_is n.2 in
    let o = n.3 in
    let c = makes_one front_2 (record (allot true) { tree = 0 }) allot_table n.0 o.0 o.1 allot-made (b.schema_is ∙ answer-front) o.2 in
    let p = o.3 in
    let d = makes_one front_3 (record (phase true) { tree = 0 }) phase_table o.0 p.0 p.1 phase-made (c.schema_is ∙ allot-front) p.2 in
    let q = p.3 in
    let e = makes_one (first_four true) (record lift { tree = 0 }) lift_table p.0 q.0 q.1 (lift-made true) d.schema_is q.2 in
    let none = none_told q.0.now.trees (e.others.0 ∙ (d.others.0 ∙ (c.others.0 ∙ (b.others.0 ∙ a.empty)))) (e.others.1.0 ∙ (d.others.1.0 ∙ (c.others.1.0 ∙ b.empty))) (e.others.1.1.0 ∙ (d.others.1.1.0 ∙ c.empty)) (e.others.1.1.1.0 ∙ d.empty) e.empty in
    subst (λ (s : State). (s.now.schema ≡ stored true) × (tables_in s.now.trees ≡ NoSeason)) q.3 (e.schema_is, none)
