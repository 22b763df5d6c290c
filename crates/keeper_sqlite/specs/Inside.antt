-- What calls inside a transaction leave, and what a connection shows.
use Rattle.std.specs.Prelude.{◌≡◌, ◌⊎◌, ℕ, List, Option, Some, Result, Ok, Err, IfOk, IfErr}
use Rattle.std.specs.Borrow.{MutBor}
use Rattle.sqlite.specs.Store.{Ghosts}
use Rattle.sqlite.specs.Effect.{Database}
use Rattle.sqlite.specs.State.{HasCleanDisk, IsRolledBack, Survives}
use Rattle.sqlite.specs.Steps.{FailsToCommit}
use Rattle.sqlite.specs.Held.{Held, state}
use Rattle.sqlite.specs.Tree.{Trees}
use Rattle.kept_rows.specs.declared.rows.AnswerRow.{AnswerRow}
use Rattle.kept_rows.specs.declared.rows.AllotRow.{AllotRow}
use Rattle.kept_rows.specs.declared.rows.RaiseRow.{RaiseRow}
use Rattle.kept_rows.specs.declared.rows.Kept.{Kept}
use Rattle.kept_rows.specs.Tables.{Tables}
use Rattle.stored_tables.specs.Rows.{cuts_of, text_in, answers_in, raises_in, allots_in}
use Rattle.stored_tables.specs.Told.{told, tables_in, without_raises}
use Rattle.keeper_sqlite.specs.Commits.{CommitsNothing}
use Rattle.keeper_sqlite.specs.Kept.{Call, DidAll}
use Rattle.keeper_sqlite.specs.Stops.{IsRefusal, StopsIn}
use Rattle.keeper_sqlite.specs.declared.halt.Halt.{Halt}

-- where a table in these trees represents its own records, they are the ones that were loaded
pub record AreRecords (db : Trees) (kept : Kept) : Type 0 where
  pub season : (all : List ℕ) → text_in db ≡ Some all → all ≡ kept.season
  pub answers : (all : List AnswerRow) → answers_in db ≡ Some all → all ≡ kept.answers
  pub raises : (all : List RaiseRow) → raises_in db ≡ Some all → all ≡ kept.raises
  pub allots : (all : List AllotRow) → allots_in db ≡ Some all → all ≡ kept.allots

module _ {S : Type 0} (g : Ghosts S) where
  -- so far the disk under a connection returned what was written
  abbrev pub IsClean : Held S → Type 0
  IsClean connection = HasCleanDisk (state g connection)

  -- the database as a connection sees it
  abbrev pub content : Held S → Database
  content connection = (state g connection).now

  -- the number of cuts that it shows, or that there is no season; nothing, if its table says neither
  abbrev pub phase_shown : Held S → Option (Option ℕ)
  phase_shown connection = cuts_of ((content connection).trees 5)

  -- the tables that a connection shows
  abbrev pub shown : Held S → Tables
  shown connection = told (state g connection)

  -- the transaction is over the same connection, and nothing more is committed
  abbrev pub StaysInside : MutBor (Held S) → MutBor (Held S) → Type 0
  StaysInside old new = (new.ghost_name ≡ old.ghost_name) × CommitsNothing (state g old.now) (state g new.now)

  -- If the disk returned what was written, this was done; or it broke off, and this is why.
  pub record Acts {X : Type 0} (Done : X → Held S → Held S → Type 0) (Breaks : Halt → Held S → Held S → Type 0) (old new : MutBor (Held S)) (result : Result X Halt) : Type 0 where
    pub done : IsClean new.now → IfOk result (λ value. Done value old.now new.now)
    pub lost : IsClean new.now → IfErr result (λ halt. Breaks halt old.now new.now)

  -- these calls were made, or one of them did not complete
  abbrev pub Performs : List Call → MutBor (Held S) → MutBor (Held S) → Result (Unit {0}) Halt → Type 0
  Performs calls = Acts (λ _. DidAll g calls) (StopsIn g calls)

  -- the tables in its trees, without any raise
  abbrev pub tables_without_raises : Held S → Tables
  tables_without_raises connection = tables_in (without_raises (content connection).trees)

  -- a crash leaves what it could leave before, or these tables
  abbrev pub CrashLeaves : Tables → Held S → Held S → Type 0
  CrashLeaves tables old new = Survives (state g old) (state g new) (λ db. tables_in db ≡ tables)

  -- the transaction was rolled back because this cause broke off what was done in it; or that was done, and the commit was refused
  abbrev pub FailsToSettle : Result (Unit {0}) Halt → Held S → Held S → Halt → Type 0
  FailsToSettle done old new halt = ((done ≡ Err halt) × IsRolledBack (state g old) (state g new))
      ⊎ ((done ≡ Ok tt) × IsRefusal (λ error. FailsToCommit (state g old) (state g new) error) halt)
