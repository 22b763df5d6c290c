-- A call leaves no connection open that was shut.
use Rattle.std.proofs.Common.{◌≡◌, ◌⊎◌, inl, inr, ℕ, false, IsTrue, List, [], Option, Some, None, Result, Ok, Err, IfOk, IfErr, subst}
use Rattle.std.proofs.lemmas.Bool.{cases_Bool}
use Rattle.sqlite.specs.Store.{Ghosts}
use Rattle.sqlite.specs.Order.{Row}
use Rattle.sqlite.specs.Held.{Held, state}
use Rattle.sqlite.specs.State.{State, HasCleanDisk, Survives, ExecutesInside, IsUnchanged, IsNotRun, FailsToQuery, FailsToShow, IsTooLate, Shown}
use Rattle.sqlite.specs.Clock.{timed}
use Rattle.sqlite.specs.declared.error.Error.{Error}
use Rattle.sqlite.specs.declared.error.Error.TheVariants.{SqliteFailure}
use Rattle.sqlite.specs.declared.error.ErrorCode.TheVariants.{TransactionState}
use Rattle.sqlite_schema.specs.declared.command.Returning.{Returning}
use Rattle.stored_tables.proofs.SchemaLemmas.{shown_keeps}
use Rattle.keeper_sqlite.specs.Commits.{CommitsNothing}

ran_open : (text : List ℕ) (values : Row) (old new : State) (done : Result ℕ Error) → ExecutesInside 0 text values old new done → IsTrue new.is_open → IsTrue old.is_open
ran_open text values old new (Ok count) h is_so = h.1.was_open
ran_open text values old new (Err e) (inl ran) is_so = elim ran.1 [
  | inl same ↦ same.0.was_open
  | inr undone ↦ undone.was_open is_so
]
ran_open text values old new (Err e) (inr late) is_so = late.2.0.was_open

-- a statement
pub run_nothing : {S : Type 0} (g : Ghosts S) (text : List ℕ) (values : Row) (old new : Held S) (done : Result ℕ Error)
    → ((state g old).in_transaction ≡ false → (done ≡ Err (SqliteFailure TransactionState)) × (new ≡ old))
    → (HasCleanDisk (state g new) → IsTrue (state g old).in_transaction → ExecutesInside 0 text values (state g old) (state g new) done)
    → Survives (state g old) (state g new) (λ _. ⊥) → CommitsNothing (state g old) (state g new)
run_nothing {S} g text values old new done ended runs survives = record {
  survives = survives;
  was_open = λ clean is_so. elim (cases_Bool (state g old).in_transaction) [
    | inl holds ↦ ran_open text values (state g old) (state g new) done (runs clean holds) is_so
    | inr fails ↦ subst (λ (h : Held S). IsTrue (state g h).is_open) (ended fails).1 is_so
  ];
}

not_run_open : (text : List ℕ) (params : Row) (old new : State) (e : Error) → IsNotRun old new text params e → IsTrue new.is_open → IsTrue old.is_open
unfolding IsNotRun
not_run_open text params old new e (inl none) is_so = none.1.0.was_open
not_run_open text params old new e (inr fails) is_so = fails.3.was_open is_so

failed_open : (text : List ℕ) (params : Row) (old new : State) (e : Error) → FailsToQuery text params old new e → IsTrue new.is_open → IsTrue old.is_open
unfolding FailsToQuery
failed_open text params old new e (inl none) is_so = not_run_open text params old new e none is_so
failed_open text params old new e (inr it) is_so = go it.0.returning it.2
  where
    go : (returning : Option Returning) → FailsToShow old new text it.0 (timed params it.0.formats it.1.now) e returning → IsTrue old.is_open
    go None h = h.3.0.was_open
    go (Some what) (inl h) = h.1.0.was_open
    go (Some what) (inr h) = h.3.was_open is_so

-- a query
pub ask_nothing : {S X : Type 0} (g : Ghosts S) (text : List ℕ) (params : Row) (items : X → List Row) (old new : Held S) (done : Result X Error)
    → (HasCleanDisk (state g new) → IfOk done (λ rows. Shown text params (state g old) (state g new) (items rows)))
    → (HasCleanDisk (state g new) → IfErr done (λ e. FailsToQuery text params (state g old) (state g new) e ⊎ IsTooLate text params (state g old) (state g new) e))
    → Survives (state g old) (state g new) (λ _. ⊥) → CommitsNothing (state g old) (state g new)
ask_nothing {X = X} g text params items old new done ok err survives = record { survives = survives; was_open = λ clean is_so. go done (ok clean) (err clean) is_so }
  where
    go : (r : Result X Error) → IfOk r (λ rows. Shown text params (state g old) (state g new) (items rows)) → IfErr r (λ e. FailsToQuery text params (state g old) (state g new) e ⊎ IsTooLate text params (state g old) (state g new) e)
        → IsTrue (state g new).is_open → IsTrue (state g old).is_open
    go (Ok rows) shown failed is_so = (shown_keeps text params (state g old) (state g new) (items rows) shown).1
    go (Err e) shown (inl failed) is_so = failed_open text params (state g old) (state g new) e failed is_so
    go (Err e) shown (inr late) is_so = late.5.0.was_open

-- a statement that is made ready
pub ready_nothing : {S X : Type 0} (g : Ghosts S) (text : List ℕ) (P : X → Type 0) (old new : Held S) (done : Result X Error)
    → (HasCleanDisk (state g new) → IfOk done (λ s. P s × IsUnchanged (state g old) (state g new))) → (HasCleanDisk (state g new) → IfErr done (λ e. (params : Row) → IsNotRun (state g old) (state g new) text params e))
    → Survives (state g old) (state g new) (λ _. ⊥) → CommitsNothing (state g old) (state g new)
ready_nothing {X = X} g text P old new done ok err survives = record { survives = survives; was_open = λ clean is_so. go done (ok clean) (err clean) is_so }
  where
    go : (r : Result X Error) → IfOk r (λ s. P s × IsUnchanged (state g old) (state g new)) → IfErr r (λ e. (params : Row) → IsNotRun (state g old) (state g new) text params e) → IsTrue (state g new).is_open → IsTrue (state g old).is_open
    go (Ok statement) same failed is_so = same.1.0.was_open
    go (Err e) same failed is_so = not_run_open text [] (state g old) (state g new) e (failed []) is_so
