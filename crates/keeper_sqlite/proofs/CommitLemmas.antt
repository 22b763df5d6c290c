-- What calls that follow one another commit.
use Rattle.std.proofs.Common.{◌≡◌, true, Result, Ok, Err, IsTrue, IfOk, IfErr, IsErrAnd, IsErrOf, OnOk, OnErr, sym, subst, refl, inl, arith}
use Rattle.sqlite.specs.Store.{Ghosts}
use Rattle.sqlite.specs.State.{State, HasCleanDisk, IsRolledBack, Survives}
use Rattle.sqlite.specs.Held.{Held, state}
use Rattle.sqlite.proofs.StateLemmas.{survives_then, survives_weaker}
use Rattle.sqlite.proofs.Callers.{survives_begin}
use Rattle.keeper_sqlite.specs.Commits.{CommitsNothing, CommitsShown, CommitsOnce}
use Rattle.keeper_sqlite.specs.Kept.{Keeps, Looks, Makes, MadeBy}
use Rattle.keeper_mem.specs.declared.keeper.KeepFault.{KeepFault}
use Rattle.keeper_mem.specs.declared.keeper.KeepFault.TheVariants.{Failed, OutOfMemory}
use Rattle.office_base.specs.Memory.{counted}
use Rattle.keeper_sqlite.specs.Halts.{keep_fault}
use Rattle.keeper_sqlite.specs.Stored.{Stored}
use Rattle.keeper_sqlite.specs.declared.halt.Halt.{Halt}
use Rattle.keeper_sqlite.specs.declared.transactions.Change.{Change}

-- a disk that is clean now was clean before
pub was_clean : {old new : State} → CommitsNothing old new → HasCleanDisk new → HasCleanDisk old
was_clean nothing clean = omega (arith, nothing.survives.clean)

pub nothing_then : (a b c : State) → CommitsNothing a b → CommitsNothing b c → CommitsNothing a c
nothing_then a b c one two = record {
  survives = survives_then a b c _ _ _ (λ _ db none. none) (λ _ db none. none) one.survives two.survives;
  was_open = λ clean is_so. one.was_open (omega (arith, clean, two.survives.clean)) (two.was_open clean is_so);
}

pub once_same : (s : State) → CommitsOnce s s
unfolding CommitsOnce
once_same s = (s.now.trees, record { clean = omega arith; shield = λ h. h; counts = omega arith; limit = refl; closes = λ clean h. inl h; crash = λ clean db h. inl h })

-- a transaction begins, does this, and is committed or not
pub once_made : {S : Type 0} (g : Ghosts S) (old begun mid last : Held S) → begun ≡ record old { in_transaction = true }
    → CommitsNothing (state g begun) (state g mid) → CommitsShown (state g mid) (state g last) → CommitsOnce (state g old) (state g last)
unfolding CommitsOnce
once_made g old begun mid last is done settled =
    (_, survives_then (state g old) (state g mid) (state g last) _ _ _ (λ _ db none. absurd none) (λ _ db same. same) (survives_begin g old (state g mid) _ (rw is at done.survives)) settled)

-- Where the transaction was done well, a crash may leave what it shows.
abbrev pub Settles : {S : Type 0} → Ghosts S → Result (Unit {0}) Halt → Held S → Held S → Type 0
Settles g done mid last = Survives (state g mid) (state g last) (λ db. (done ≡ Ok tt) × (db ≡ (state g mid).now.trees))

pub shown_by : {S : Type 0} (g : Ghosts S) (done : Result (Unit {0}) Halt) (mid last : Held S) → Settles g done mid last → CommitsShown (state g mid) (state g last)
shown_by g done mid last settled = survives_weaker (state g mid) (state g last) _ _ (λ clean db it. it.1) settled

-- What a transaction did is kept, if it ended well.
pub kept_made : {S : Type 0} (g : Ghosts S) (change : Change) (old begun mid last : Held S) (done ended : Result (Unit {0}) Halt) → begun ≡ record old { in_transaction = true }
    → (HasCleanDisk (state g mid) → IsTrue begun.in_transaction → OnOk done (Makes g change begun mid)) → Settles g done mid last → OnOk ended (done ≡ Ok tt)
    → (HasCleanDisk (state g last) → OnOk ended ((state g last).now ≡ (state g mid).now)) → (HasCleanDisk (state g last) → OnOk ended ((state g last).committed ≡ (state g mid).now))
    → (HasCleanDisk (state g last) → OnOk ended (IsTrue (state g mid).is_open × IsTrue (state g last).is_open)) → HasCleanDisk (state g last) → OnOk ended (Keeps g (Makes g change) old last)
kept_made g change old begun mid last done (Err halt) is made settled ok now committed both clean = tt
kept_made g change old begun mid last done (Ok none) is made settled ok now committed both clean =
    let before : HasCleanDisk (state g mid) = omega (arith, settled.clean) in
    record { last = mid; done = rw is at (rw ok at (made before (rw is))); shown = now clean; committed = committed clean; last_open = (both clean).0; is_open = (both clean).1 }

-- What was seen in a transaction that was rolled back.
pub looked : {S T : Type 0} (g : Ghosts S) (P : T → Held S → Held S → Type 0) (old begun mid last : Held S) (found : Result T Halt) → begun ≡ record old { in_transaction = true }
    → Survives (state g mid) (state g last) (λ _. ⊥) → (HasCleanDisk (state g mid) → IfOk found (λ value. P value begun mid)) → (HasCleanDisk (state g last) → IsRolledBack (state g mid) (state g last))
    → HasCleanDisk (state g last) → IfOk found (λ value. Looks g (P value) old last)
looked g P old begun mid last (Err halt) is nothing told undone clean = tt
looked {S} g P old begun mid last (Ok value) is nothing told undone clean =
    let was : HasCleanDisk (state g mid) = omega (arith, nothing.clean) in
    record { last = mid; done = subst (λ (h : Held S). P value h mid) is (told was); undone = undone clean }

-- What the keeper returns of a transaction is what the transaction returned.
pub value_told : {S T : Type 0} (g : Ghosts S) (P : T → Held S → Type 0) (done : Result T Halt) (told : Result T KeepFault) (mid last : Stored S)
    → IfOk told (λ value. done ≡ Ok value) → (¬ IsErrOf told Failed → last ≡ mid) → (HasCleanDisk (state g mid.connection) → IfOk done (λ value. P value mid.connection))
    → HasCleanDisk (state g last.connection) → IfOk told (λ value. P value last.connection)
value_told g P done (Err fault) mid last ok same kept clean = tt
value_told {S} g P done (Ok value) mid last ok same kept clean =
    let is : last ≡ mid = same (λ failed. let e = failed in cc) in
    subst (λ (k : Stored S). P value k.connection) (sym is) (rw ok at (kept (subst (λ (k : Stored S). HasCleanDisk (state g k.connection)) is clean)))

-- Whatever a crash leaves that it could not leave before is what the whole change made.
pub made_once : {S : Type 0} (g : Ghosts S) (change : Change) (old begun mid last : Held S) (done : Result (Unit {0}) Halt) → begun ≡ record old { in_transaction = true }
    → CommitsNothing (state g begun) (state g mid) → (HasCleanDisk (state g mid) → IsTrue begun.in_transaction → OnOk done (Makes g change begun mid))
    → Settles g done mid last → Survives (state g old) (state g last) (MadeBy g change old)
made_once {S} g change old begun mid last done is nothing made settled =
    survives_then (state g old) (state g mid) (state g last) _ _ (MadeBy g change old) (λ _ db none. absurd none)
    (λ clean db it. record {
      last = mid;
      done = subst (λ (d : Result (Unit {0}) Halt). OnOk d (Makes g change (record old { in_transaction = true }) mid)) it.0
          (subst (λ (h : Held S). OnOk done (Makes g change h mid)) is (made (omega (arith, clean, settled.clean)) (rw is)));
      is = it.1;
    }) (survives_begin g old (state g mid) _ (rw is at nothing.survives)) settled

pub made_same : {S : Type 0} (g : Ghosts S) (change : Change) (old : Held S) → Survives (state g old) (state g old) (MadeBy g change old)
made_same g change old = record { clean = omega arith; shield = λ h. h; counts = omega arith; limit = refl; closes = λ clean h. inl h; crash = λ clean db h. inl h }

-- What holds of the connection after a call holds of the keeper after it, however the call ended:
-- only the count of faults may have risen.
pub same_after : {S T : Type 0} (g : Ghosts S) (P : Held S → Type 0) (told : Result T KeepFault) (mid last : Stored S) → (¬ IsErrOf told Failed → last ≡ mid) → (IsErrOf told Failed → last ≡ record mid { faults = counted mid.faults })
    → P mid.connection → P last.connection
same_after {S} g P (Ok value) mid last same rose h = subst (λ (k : Stored S). P k.connection) (sym (same (λ failed. let e = failed in cc))) h
same_after {S} g P (Err Failed) mid last same rose h = subst (λ (k : Stored S). P k.connection) (sym (rose refl)) h
same_after {S} g P (Err OutOfMemory) mid last same rose h = subst (λ (k : Stored S). P k.connection) (sym (same (λ failed. let e = failed in cc))) h

-- and if it failed, so did the call
pub err_after : {T : Type 0} (P : Type 0) (done : Result T Halt) (told : Result T KeepFault) → IfErr told (λ fault. IsErrAnd done (λ halt. fault ≡ keep_fault halt)) → OnErr done P → OnErr told P
err_after P done (Ok value) err h = tt
err_after P (Ok value) (Err fault) err h = absurd err
err_after P (Err halt) (Err fault) err h = h

pub on_err : {T E : Type 0} (P : Type 0) (r : Result T E) → P → OnErr r P
on_err P (Ok value) h = tt
on_err P (Err why) h = h
