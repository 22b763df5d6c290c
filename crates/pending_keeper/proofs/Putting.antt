-- A row that waits is put.
use Rattle.std.proofs.Common.{◌≡◌, ◌≤◌, ℕ, List, [], ◌∷◌, ◌++◌, Result, Ok, Err, OnOk, OnErr, IsErrOf, refl, sym, ap, subst, ◌∙◌, arith}
use Rattle.kept_rows.specs.Tables.{Tables, AreTold}
use Rattle.kept_rows.proofs.Unchanged.{told_same}
use Rattle.keeper_mem.specs.Batch.{with_put, with_all}
use Rattle.keeper_mem.specs.Keeper.{KeeperView, IsCall, IsLook, IsPut}
use Rattle.keeper_mem.specs.declared.batch.Put.{Put}
use Rattle.keeper_mem.specs.declared.keeper.KeepFault.{KeepFault}
use Rattle.keeper_mem.specs.declared.keeper.KeepFault.TheVariants.{Failed}
use Rattle.pending_keeper.specs.Pending.{PendingView, pending_seen}
use Rattle.pending_keeper.proofs.Waiting.{all_more, told_all}

module _ {K : Type 0} (seen : K → KeeperView) where
  same_call : {X : Type 0} (old new : PendingView K) (r : Result X KeepFault) → new.keeper ≡ old.keeper → ¬ IsErrOf r Failed → IsCall (pending_seen seen old) (pending_seen seen new) r
  same_call old new r same none = record {
    blamed = record { cause = λ it. absurd (none it); count = subst (λ (k : K). (seen old.keeper).faults ≤ (seen k).faults) (sym same) (omega arith); steady = λ _. ap (λ (k : K). (seen k).faults) same; room = refl };
    goes = λ _. subst (λ (k : K). AreTold (seen old.keeper).kept (seen k).kept) (sym same) (told_same (seen old.keeper).kept);
    spare_err = no_spare r;
  }
    where
      no_spare : {X : Type 0} (r : Result X KeepFault) → OnErr r (0 ≤ 0)
      no_spare (Ok value) = tt
      no_spare (Err fault) = omega arith

  -- a row waits after the others, or memory ran out
  pub put_waits : (put : Put) (used : ℕ) (old new : PendingView K) (r : Result (Unit {0}) KeepFault) → new.keeper ≡ old.keeper → OnOk r (new.rows ≡ old.rows ++ put ∷ []) → OnErr r (new.rows ≡ old.rows) → ¬ IsErrOf r Failed
      → IsPut (with_put put) used (pending_seen seen old) (pending_seen seen new) r
  put_waits put used old new (Ok none) same more kept not = record {
    call = same_call old new (Ok none) same not;
    ok = subst (λ (t : Tables). AreTold (with_put put (with_all old.rows (seen old.keeper).tables)) t)
        (sym (ap (λ (k : K). with_all new.rows (seen k).tables) same ∙ (ap (λ (rows : List Put). with_all rows (seen old.keeper).tables) more ∙ all_more old.rows put (seen old.keeper).tables)))
        (told_same (with_put put (with_all old.rows (seen old.keeper).tables)));
    err = tt;
    spare = omega arith;
  }
  put_waits put used old new (Err fault) same more kept not = record {
    call = same_call old new (Err fault) same not;
    ok = tt;
    err = subst (λ (t : Tables). AreTold (with_all old.rows (seen old.keeper).tables) t)
        (sym (ap (λ (k : K). with_all new.rows (seen k).tables) same ∙ ap (λ (rows : List Put). with_all rows (seen old.keeper).tables) kept))
        (told_same (with_all old.rows (seen old.keeper).tables));
    spare = tt;
  }

-- The keeper below failed to put the rows, so they still wait.
pub still_wait : {K : Type 0} (seen : K → KeeperView) (rows : List Put) (f : Tables → Tables) (used : ℕ) (before after : K) (put back : Result (Unit {0}) KeepFault) → (fault : KeepFault) → put ≡ Err fault → back ≡ Err fault → IsPut f used (seen before) (seen after) put
    → (seen before).kept ≡ (seen before).tables → (seen after).kept ≡ (seen after).tables → IsLook (pending_seen seen (record { keeper = before; rows = rows })) (pending_seen seen (record { keeper = after; rows = rows })) back
still_wait seen rows f used before after put back fault is was it first second =
    let failed = subst (λ (r : Result (Unit {0}) KeepFault). IsPut f used (seen before) (seen after) r) is it in
    subst (λ (r : Result (Unit {0}) KeepFault). IsLook (pending_seen seen (record { keeper = before; rows = rows })) (pending_seen seen (record { keeper = after; rows = rows })) r) (sym was)
    (record {
      call = record {
        blamed = record { cause = failed.call.blamed.cause; count = failed.call.blamed.count; steady = failed.call.blamed.steady; room = refl };
        goes = λ _. subst (λ (t : Tables). AreTold t (seen after).kept) (sym first) (subst (λ (t : Tables). AreTold (seen before).tables t) (sym second) failed.err);
        spare_err = omega arith;
      };
      told = told_all rows (seen before).tables (seen after).tables failed.err;
      spare = tt;
    })
