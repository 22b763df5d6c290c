-- Why a change was not kept, and why nothing was loaded.
use Rattle.std.proofs.Common.{◌≡◌, ◌⊎◌, inl, inr, ℕ, true, false, List, [], ◌∷◌, Option, Some, None, Result, Ok, Err, IsTrue, IfErr, IsErrAnd, IsErrOf, OnOk, sym, subst, refl, arith, ◌+◌, ◌<◌, ◌^◌}
use Rattle.std.specs.List.{AllByRecursion}
use Rattle.sqlite.specs.Store.{Ghosts}
use Rattle.sqlite.specs.Order.{Row}
use Rattle.sqlite.specs.State.{HasCleanDisk, Survives, IsRolledBack}
use Rattle.sqlite.specs.Held.{Held, state}
use Rattle.office_base.specs.Memory.{counted}
use Rattle.kept_rows.specs.declared.rows.AnswerRow.{AnswerRow}
use Rattle.kept_rows.specs.declared.rows.AllotRow.{AllotRow}
use Rattle.kept_rows.specs.declared.rows.RaiseRow.{RaiseRow}
use Rattle.keeper_mem.specs.declared.keeper.KeepFault.{KeepFault}
use Rattle.keeper_mem.specs.declared.keeper.KeepFault.TheVariants.{Failed, OutOfMemory}
use Rattle.keeper_sqlite.specs.Columns.{IsAnswerRow, IsRaiseRow, IsAllotRow, TellsKey}
use Rattle.keeper_sqlite.specs.Commits.{CommitsNothing}
use Rattle.keeper_sqlite.specs.Halts.{keep_fault}
use Rattle.keeper_sqlite.specs.Rising.{rise_after_key}
use Rattle.keeper_sqlite.specs.Stored.{Stored}
use Rattle.keeper_sqlite.specs.Kept.{DidAll, Looks, Makes, TellsText, TellsRecords, TellsPhaseOf, ToldPhase, AreAbove, seat_calls, key_query, answers_query, raises_query, allots_query, MakesCut}
use Rattle.keeper_sqlite.specs.Kept.Call.{Asks}
use Rattle.keeper_sqlite.specs.Stops.{IsRefusal, FailsBy, LosesMade, LosesOrder, LosesSeats, LosesCut, Breaks, IsBusy, Loses, LosesRecords, LosesTables, LosesKept}
use Rattle.keeper_sqlite.specs.declared.halt.Halt.{Halt}
use Rattle.keeper_sqlite.specs.declared.halt.Halt.TheVariants.{Unfit}
use Rattle.keeper_sqlite.specs.declared.rising.Key.{Key}
use Rattle.keeper_sqlite.specs.declared.transactions.Change.{Change}
use Rattle.std.specs.Borrow.{MutBor}
use Rattle.stored_tables.specs.Fits.{AllotFits}
use Rattle.keeper_sqlite.specs.Inside.{Acts, FailsToSettle, Performs}
use Rattle.keeper_sqlite.proofs.CallLemmas.{told_one}
use Rattle.keeper_sqlite.proofs.CommitLemmas.{was_clean}

module _ {S : Type 0} (g : Ghosts S) where
  -- ---- a cut

  -- the phase showed no season
  pub made_none : (found : Option ℕ) (halt : Halt) (old new : Held S) → found ≡ None → halt ≡ Unfit → TellsPhaseOf g found old new → LosesMade g halt old new
  made_none found halt old new none unfit told = inr (unfit, subst (λ (f : Option ℕ). TellsPhaseOf g f old new) none told)

  -- the rows rise above the last key, or they do not
  keys_above : (rows : List AllotRow) (last : Option Key) (old new : Held S) → rise_after_key last rows ≡ true → (told : List Row) × TellsKey told last × DidAll g (Asks key_query told ∷ []) old new → AreAbove g rows old new
  keys_above rows last old new rising it = record { told = it.0; last = last; is = it.1; rising = rising; asked = it.2 }

  pub order_below : (rows : List AllotRow) (last : Option Key) (old new : Held S) → rise_after_key last rows ≡ false → (told : List Row) × TellsKey told last × DidAll g (Asks key_query told ∷ []) old new → LosesOrder g rows Unfit old new
  order_below rows last old new falls it = inr (refl, record { told = it.0; last = last; is = it.1; falls = falls; asked = it.2 })

  pub cut_unordered : (rows : List AllotRow) (made : ℕ) (found : Option ℕ) (halt : Halt) (old one new : Held S) → found ≡ Some made → CommitsNothing (state g one) (state g new) → (HasCleanDisk (state g one) → TellsPhaseOf g found old one)
      → HasCleanDisk (state g new) → LosesOrder g rows halt one new → LosesCut g rows halt old new
  cut_unordered rows made found halt old one new is nothing phase clean lost = inr (made, one, told_one g old one found made is (phase (was_clean nothing clean)), inl lost)

  pub cut_unseated : (rows : List AllotRow) (made : ℕ) (found : Option ℕ) (last : Option Key) (halt : Halt) (old one two new : Held S) → found ≡ Some made → rise_after_key last rows ≡ true → CommitsNothing (state g one) (state g two)
      → (HasCleanDisk (state g one) → TellsPhaseOf g found old one) → (HasCleanDisk (state g two) → (told : List Row) × TellsKey told last × DidAll g (Asks key_query told ∷ []) one two) → HasCleanDisk (state g two)
      → LosesSeats g made rows halt two new → LosesCut g rows halt old new
  cut_unseated rows made found last halt old one two new is rising nothing phase keys clean lost =
      inr (made, one, told_one g old one found made is (phase (was_clean nothing clean)), inr (two, keys_above rows last one two rising (keys clean), lost))

  pub cut_acts : (rows : List AllotRow) (made : ℕ) (found : Option ℕ) (last : Option Key) (old one two new : MutBor (Held S)) (r : Result (Unit {0}) Halt) → found ≡ Some made → rise_after_key last rows ≡ true
      → CommitsNothing (state g one.now) (state g two.now) → CommitsNothing (state g two.now) (state g new.now) → (HasCleanDisk (state g one.now) → TellsPhaseOf g found old.now one.now)
      → (HasCleanDisk (state g two.now) → (told : List Row) × TellsKey told last × DidAll g (Asks key_query told ∷ []) one.now two.now) → AllByRecursion AllotFits rows → made + 1 < 2 ^ 16 → Performs g (seat_calls made rows) two new r
      → Acts g (λ _. MakesCut g rows) (LosesCut g rows) old new r
  cut_acts rows made found last old one two new (Ok none) is rising first next phase keys fit room acts = record {
    done = λ clean.
        let was = was_clean next clean in
        record {
          made = made;
          asked = one.now;
          tested = two.now;
          phase = told_one g old.now one.now found made is (phase (was_clean first was));
          above = keys_above rows last one.now two.now rising (keys was);
          put = acts.done clean;
          fit = fit;
          room = room;
        };
    lost = λ _. tt;
  }
  cut_acts rows made found last old one two new (Err halt) is rising first next phase keys fit room acts =
      record { done = λ _. tt; lost = λ clean. cut_unseated rows made found last halt old.now one.now two.now new.now is rising first phase keys (was_clean next clean) (inr (acts.lost clean)) }

  -- ---- one transaction

  pub change_lost : (change : Change) (old begun mid last : Held S) (done ended : Result (Unit {0}) Halt) → begun ≡ record old { in_transaction = true } → Survives (state g mid) (state g last) (λ db. (done ≡ Ok tt) × (db ≡ (state g mid).now.trees))
      → (HasCleanDisk (state g mid) → IsTrue begun.in_transaction → OnOk done (Makes g change begun mid)) → (HasCleanDisk (state g mid) → IfErr done (λ halt. Breaks g change halt begun mid))
      → (HasCleanDisk (state g last) → IfErr ended (FailsToSettle g done mid last)) → HasCleanDisk (state g last) → IfErr ended (λ halt. Loses g (Breaks g change) (Makes g change) halt old last)
  change_lost change old begun mid last done (Ok none) is settled made breaks why clean = tt
  change_lost change old begun mid last done (Err halt) is settled made breaks why clean =
      let was : HasCleanDisk (state g mid) = omega (arith, settled.clean) in
      elim (why clean) [
        | inl fails ↦ inr (inl (record {
          last = mid;
          done = subst (λ (h : Held S). Breaks g change halt h mid) is (subst (λ (r : Result (Unit {0}) Halt). IfErr r (λ halt. Breaks g change halt begun mid)) fails.0 (breaks was));
          undone = fails.1;
        }))
        | inr refused ↦ inr (inr (
          refused.1.0,
          refused.1.1,
          (mid, subst (λ (h : Held S). Makes g change h mid) is (subst (λ (r : Result (Unit {0}) Halt). OnOk r (Makes g change begun mid)) refused.0 (made was (rw is))), refused.1.2),
        ))
      ]

  -- a look that did not complete
  pub look_lost : {T : Type 0} (P : Halt → Held S → Held S → Type 0) (old begun mid last : Held S) (found : Result T Halt) → begun ≡ record old { in_transaction = true } → Survives (state g mid) (state g last) (λ _. ⊥)
      → (HasCleanDisk (state g mid) → IfErr found (λ halt. P halt begun mid)) → (HasCleanDisk (state g last) → IsRolledBack (state g mid) (state g last))
      → HasCleanDisk (state g last) → IfErr found (λ halt. IsBusy halt old ⊎ Looks g (P halt) old last)
  look_lost P old begun mid last (Ok value) is nothing lost undone clean = tt
  look_lost P old begun mid last (Err halt) is nothing lost undone clean =
      let was : HasCleanDisk (state g mid) = omega (arith, nothing.clean) in
      inr (record { last = mid; done = subst (λ (h : Held S). P halt h mid) is (lost was); undone = undone clean })

  -- the same as the keeper reports it
  pub fails_by : {T : Type 0} (P : Halt → Held S → Type 0) (done : Result T Halt) (told : Result T KeepFault) (mid last : Stored S) → IfErr told (λ fault. IsErrAnd done (λ halt. fault ≡ keep_fault halt))
      → (¬ IsErrOf told Failed → last ≡ mid) → (IsErrOf told Failed → last ≡ record mid { faults = counted mid.faults }) → (HasCleanDisk (state g mid.connection) → IfErr done (λ halt. P halt mid.connection))
      → HasCleanDisk (state g last.connection) → IfErr told (FailsBy (λ halt. P halt last.connection))
  fails_by P done (Ok value) mid last err same rose lost clean = tt
  fails_by P (Ok value) (Err fault) mid last err same rose lost clean = absurd err
  fails_by P (Err halt) (Err Failed) mid last err same rose lost clean =
      let is : last ≡ record mid { faults = counted mid.faults } = rose refl in
      (halt, err, subst (λ (k : Stored S). P halt k.connection) (sym is) (lost (subst (λ (k : Stored S). HasCleanDisk (state g k.connection)) is clean)))
  fails_by P (Err halt) (Err OutOfMemory) mid last err same rose lost clean =
      let is : last ≡ mid = same (λ failed. let e = failed in cc) in
      (halt, err, subst (λ (k : Stored S). P halt k.connection) (sym is) (lost (subst (λ (k : Stored S). HasCleanDisk (state g k.connection)) is clean)))

  -- ---- the tables that are read one after another

  pub answers_lost : (text : List ℕ) (halt : Halt) (old one new : Held S) → CommitsNothing (state g one) (state g new) → (HasCleanDisk (state g one) → TellsText g text old one) → HasCleanDisk (state g new)
      → LosesRecords g IsAnswerRow answers_query halt one new → LosesTables g halt old new
  answers_lost text halt old one new nothing season clean lost = let was = was_clean nothing clean in inr (text, one, season was, inl lost)

  pub raises_lost : (text : List ℕ) (answers : List AnswerRow) (halt : Halt) (old one two new : Held S) → CommitsNothing (state g one) (state g two) → CommitsNothing (state g two) (state g new)
      → (HasCleanDisk (state g one) → TellsText g text old one) → (HasCleanDisk (state g two) → TellsRecords g IsAnswerRow answers_query answers one two) → HasCleanDisk (state g new)
      → LosesRecords g IsRaiseRow raises_query halt two new → LosesTables g halt old new
  raises_lost text answers halt old one two new first next season told clean lost =
      let was = was_clean next clean in
      let before = was_clean first was in
      inr (text, one, season before, inr (answers, two, told was, inl lost))

  pub allots_lost : (text : List ℕ) (answers : List AnswerRow) (raises : List RaiseRow) (halt : Halt) (old one two three new : Held S) → CommitsNothing (state g one) (state g two) → CommitsNothing (state g two) (state g three)
      → CommitsNothing (state g three) (state g new) → (HasCleanDisk (state g one) → TellsText g text old one) → (HasCleanDisk (state g two) → TellsRecords g IsAnswerRow answers_query answers one two)
      → (HasCleanDisk (state g three) → TellsRecords g IsRaiseRow raises_query raises two three) → HasCleanDisk (state g new) → LosesRecords g IsAllotRow allots_query halt three new → LosesTables g halt old new
  allots_lost text answers raises halt old one two three new first second third season told more clean lost =
      let later = was_clean third clean in
      let middle = was_clean second later in
      let before = was_clean first middle in
      inr (text, one, season before, inr (answers, two, told middle, inr (raises, three, more later, lost)))

  pub tables_lost : (cuts : ℕ) (found : Option ℕ) (halt : Halt) (old mid new : Held S) → found ≡ Some cuts → CommitsNothing (state g mid) (state g new) → (HasCleanDisk (state g mid) → TellsPhaseOf g found old mid)
      → HasCleanDisk (state g new) → LosesTables g halt mid new → LosesKept g halt old new
  tables_lost cuts found halt old mid new is nothing phase clean lost =
      let was = was_clean nothing clean in inr (cuts, mid, subst (λ (f : Option ℕ). TellsPhaseOf g f old mid) is (phase was), lost)
