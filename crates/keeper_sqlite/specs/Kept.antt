-- What a put keeps: which statement is run with which values, and that what it makes is committed.
use Rattle.std.specs.Prelude.{◌≡◌, ◌+◌, ◌≤◌, ◌<◌, ◌^◌, IsTrue, ℕ, Bool, true, is_some, List, [], ◌∷◌, ◌++◌, length, map, Option, Some, None, Ok}
use Rattle.std.specs.List.{AllByRecursion, AllZip, concat}
use Rattle.sqlite.specs.Store.{Ghosts}
use Rattle.sqlite.specs.Tree.{Trees}
use Rattle.sqlite.specs.Order.{Row}
use Rattle.sqlite.specs.State.{Executes, IsUnchanged, Shown, IsRolledBack}
use Rattle.sqlite.specs.Held.{Held, state}
use Rattle.sqlite.specs.Values.{bound}
use Rattle.sqlite.specs.Listing.{understood}
use Rattle.sqlite.specs.Outline.{Outline}
use Rattle.sqlite.specs.Steps.{Outlines}
use Rattle.kept_rows.specs.declared.rows.AllotRow.{AllotRow}
use Rattle.kept_rows.specs.declared.rows.Kept.{Kept}
use Rattle.keeper_mem.specs.declared.batch.Put.{Put}
use Rattle.keeper_mem.specs.declared.batch.Put.TheVariants.{Answer as OneAnswer, Raise as OneRaise}
pub use Rattle.stored_tables.specs.Texts.{answer_text, answer_values, raise_text, raise_values, allot_text, allot_values, cuts_text, cuts_values, phase_query, opening_text, opening_values, part_text, part_values, text_query, answers_query, raises_query, allots_query, key_query, any_part, any_answer, any_raise, any_allot, season_table, phase_table, answer_table, lift_table, allot_table, table_texts}
use Rattle.stored_tables.specs.Fits.{AnswerFits, RaiseFits, AllotFits}
use Rattle.keeper_sqlite.specs.Columns.{IsPhaseRow, IsPartRow, IsAnswerRow, IsRaiseRow, IsAllotRow, TellsPhase, TellsKey}
use Rattle.keeper_sqlite.specs.Rising.{rise_after_key}
use Rattle.keeper_sqlite.specs.declared.calls.Act.{Act}
use Rattle.keeper_sqlite.specs.declared.calls.Act.TheVariants.{Run, Place, ExpectNone}
use Rattle.keeper_sqlite.specs.declared.rising.Key.{Key}
use Rattle.keeper_sqlite.specs.declared.transactions.Change.{Change}
use Rattle.keeper_sqlite.specs.declared.transactions.Change.TheVariants.{Answer, Raise, Rows, Tables, Season, Cut}

-- whether a row exists, in each of the four tables other than the phase
abbrev pub any_row_queries : List (List ℕ)
any_row_queries = any_part ∷ any_answer ∷ any_raise ∷ any_allot ∷ []

-- A call on the database inside a transaction: a statement of this text is run with these values;
-- the same, and it changes one row;
-- a query of this text, without values, is asked and returns these rows; a statement of this text is made ready.
pub data Call : Type 0 where
  Runs : List ℕ → Row → Call
  Places : List ℕ → Row → Call
  Asks : List ℕ → List Row → Call
  Readies : List ℕ → Call

-- the call of an act
abbrev pub call_of : Act → Call
call_of (Run text values) = Runs text.now (bound values.now)
call_of (Place text values) = Places text.now (bound values.now)
call_of (ExpectNone text) = Asks text.now []

-- each text is run as it is, with no values
abbrev pub plain_calls : List (List ℕ) → List Call
plain_calls = map (λ text. Runs text [])

-- each text is asked, and returns no row
abbrev pub unanswered_calls : List (List ℕ) → List Call
unanswered_calls = map (λ text. Asks text [])

-- the statement of this text is run once for each part, which are numbered in their order from this number on
abbrev pub part_calls : List ℕ → ℕ → List (List ℕ) → List Call
part_calls text n [] = []
part_calls text n (part ∷ parts) = Runs text (part_values n part) ∷ part_calls text (n + 1) parts

-- the parts are put by one statement that is made ready once
abbrev pub text_calls : List (List ℕ) → List Call
text_calls parts = Readies part_text ∷ part_calls part_text 0 parts

-- No table other than the phase has a row, the parts are put, numbered from 0,
-- and then the row of a season without cuts.
-- That row is placed only if the phase has no row.
abbrev pub season_calls : List (List ℕ) → List Call
season_calls parts = unanswered_calls any_row_queries ++ text_calls parts ++ Places opening_text opening_values ∷ []

-- the statement of this text is run once for each seat, in their order
abbrev pub allot_calls : List ℕ → List AllotRow → List Call
allot_calls text = map (λ row. Runs text (allot_values row))

-- the statement that puts an answer or a raise
abbrev pub put_call : Put → Call
put_call (OneAnswer row) = Runs answer_text (answer_values row)
put_call (OneRaise row) = Runs raise_text (raise_values row)

-- a statement is run for each of these rows, in their order
abbrev pub put_calls : List Put → List Call
put_calls = map put_call

-- the numbers of an answer or a raise fit their columns
abbrev pub PutFits : Put → Type 0
PutFits (OneAnswer row) = AnswerFits row
PutFits (OneRaise row) = RaiseFits row

-- each seat is put by one statement that is made ready once, and one cut more is written
abbrev pub seat_calls : ℕ → List AllotRow → List Call
seat_calls made rows = Readies allot_text ∷ allot_calls allot_text rows ++ Runs cuts_text (cuts_values (made + 1)) ∷ []

module _ {S : Type 0} (g : Ghosts S) where
  -- the statement of this text was run with these values
  pub record Ran (text : List ℕ) (values : Row) (old new : Held S) : Type 0 where
    pub count : ℕ
    pub ran : Executes text values (state g old) (state g new) (Ok count)

  -- the database understood this text as a statement, and shows what it showed
  pub record IsReady (text : List ℕ) (old new : Held S) : Type 0 where
    pub outline : Outline
    pub is : Outlines (understood (state g old).now.schema text) outline
    pub same : IsUnchanged (state g old) (state g new)

  -- this call was made
  abbrev pub Did : Call → Held S → Held S → Type 0
  Did (Runs text values) old new = Ran text values old new
  Did (Places text values) old new = Executes text values (state g old) (state g new) (Ok 1)
  Did (Asks text rows) old new = Shown text [] (state g old) (state g new) rows
  Did (Readies text) old new = IsReady text old new

  -- these calls were made, one after the other and no others
  abbrev pub DidAll : List Call → Held S → Held S → Type 0
  DidAll [] old new = old ≡ new
  DidAll (call ∷ calls) old new = (mid : Held S) × Did call old mid × DidAll calls mid new

  -- The text is cut into parts of at most 65,536 bytes, and the calls for them were made.
  pub record PutsText (calls : List (List ℕ) → List Call) (text : List ℕ) (old new : Held S) : Type 0 where
    pub parts : List (List ℕ)
    pub joined : concat parts ≡ text
    pub short : AllByRecursion (λ part. length part ≤ 65536) parts
    pub done : DidAll (calls parts) old new

  -- the phase showed this season, or none
  pub record TellsPhaseOf (found : Option ℕ) (old new : Held S) : Type 0 where
    pub rows : List Row
    pub tells : TellsPhase rows found
    pub asked : DidAll (Asks phase_query rows ∷ []) old new

  -- a season is kept if and only if the phase showed one
  pub record TellsSeason (found : Bool) (old new : Held S) : Type 0 where
    pub cuts : Option ℕ
    pub is : found ≡ is_some cuts
    pub told : TellsPhaseOf cuts old new

  -- the phase showed one row, with the number of the cuts
  pub record ToldPhase (made : ℕ) (old new : Held S) : Type 0 where
    pub row : Row
    pub is : IsPhaseRow row made
    pub asked : DidAll (Asks phase_query (row ∷ []) ∷ []) old new

  -- these rows rise, and above the last key that was returned, if there was one
  pub record AreAbove (rows : List AllotRow) (old new : Held S) : Type 0 where
    pub told : List Row
    pub last : Option Key
    pub is : TellsKey told last
    pub rising : rise_after_key last rows ≡ true
    pub asked : DidAll (Asks key_query told ∷ []) old new

  -- The phase showed this many cuts, and the rows are above the last key; then each of them was put, and one cut more.
  pub record MakesCut (rows : List AllotRow) (old new : Held S) : Type 0 where
    pub made : ℕ
    pub asked : Held S
    pub tested : Held S
    pub phase : ToldPhase made old asked
    pub above : AreAbove rows asked tested
    pub put : DidAll (seat_calls made rows) tested new
    pub fit : AllByRecursion AllotFits rows
    pub room : made + 1 < 2 ^ 16

  -- each of these rows was put, in their order
  pub record MakesRows (rows : List Put) (old new : Held S) : Type 0 where
    pub done : DidAll (put_calls rows) old new
    pub fit : AllByRecursion PutFits rows

  -- what a change runs
  abbrev pub Makes : Change → Held S → Held S → Type 0
  Makes (Answer row) old new = Ran answer_text (answer_values row) old new
  Makes (Raise row) old new = Ran raise_text (raise_values row) old new
  Makes (Rows rows) old new = MakesRows rows.now old new
  Makes Tables old new = DidAll (plain_calls table_texts) old new
  Makes (Cut rows) old new = MakesCut rows.now old new
  Makes (Season text) old new = PutsText season_calls text.now old new

  -- a transaction began, the change was made in it, and these trees are what was made
  pub record MadeBy (change : Change) (old : Held S) (db : Trees) : Type 0 where
    pub last : Held S
    pub done : Makes change (record old { in_transaction = true }) last
    pub is : db ≡ (state g last).now.trees

  -- A transaction began, this was done in it, and what was done is what the database shows
  -- and what the last commit left.
  pub record Keeps (Done : Held S → Held S → Type 0) (old new : Held S) : Type 0 where
    pub last : Held S
    pub done : Done (record old { in_transaction = true }) last
    pub shown : (state g new).now ≡ (state g last).now
    pub committed : (state g new).committed ≡ (state g last).now
    pub last_open : IsTrue (state g last).is_open
    pub is_open : IsTrue (state g new).is_open

  -- the query returned a row for each record, in their order, and each row holds its record
  pub record TellsRecords {R : Type 0} (stands_in : Row → R → Type 0) (text : List ℕ) (records : List R) (old new : Held S) : Type 0 where
    pub rows : List Row
    pub stand : AllZip stands_in rows records
    pub asked : DidAll (Asks text rows ∷ []) old new

  -- the query returned a row for each part, and the parts joined are the text
  pub record TellsText (text : List ℕ) (old new : Held S) : Type 0 where
    pub parts : List (List ℕ)
    pub joined : concat parts ≡ text
    pub told : TellsRecords IsPartRow text_query parts old new

  -- the text, the answers, the raises and the published seats were asked in this order, and returned these records
  pub record TellsTables (kept : Kept) (old new : Held S) : Type 0 where
    pub one : Held S
    pub two : Held S
    pub three : Held S
    pub season : TellsText kept.season old one
    pub answers : TellsRecords IsAnswerRow answers_query kept.answers one two
    pub raises : TellsRecords IsRaiseRow raises_query kept.raises two three
    pub allots : TellsRecords IsAllotRow allots_query kept.allots three new

  -- the phase showed no season, or the number of cuts of these records, and then the other tables showed the rest
  abbrev pub TellsKept : Option Kept → Held S → Held S → Type 0
  TellsKept None old new = TellsPhaseOf None old new
  TellsKept (Some kept) old new = (mid : Held S) × TellsPhaseOf (Some kept.cuts) old mid × TellsTables kept mid new

  -- A transaction began, this was done in it, and it was rolled back.
  pub record Looks (Done : Held S → Held S → Type 0) (old new : Held S) : Type 0 where
    pub last : Held S
    pub done : Done (record old { in_transaction = true }) last
    pub undone : IsRolledBack (state g last) (state g new)
