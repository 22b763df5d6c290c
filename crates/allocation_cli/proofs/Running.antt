-- A run over a keeper of two files.
use Rattle.std.proofs.Common.{◌≡◌, ℕ, List, [], Option, Some, None, Result, Ok, Err, IfOk, IfErr, subst, sym}
use Rattle.sqlite_disk.specs.declared.Disk as disk
use Rattle.sqlite_store.specs.declared.store.FileStore.{FileStore}
use Rattle.sqlite_wal.specs.Recovery.{Image}
use Rattle.office_links.specs.declared.outside.Door.{Ghosts as DoorGhosts}
use Rattle.office_links.specs.declared.outside.Link.{Ghosts as LinkGhosts}
use Rattle.kept_rows.specs.Tables.{IsTold}
use Rattle.keeper_mem.specs.declared.keeper.Keeper.{Ghosts as KeeperGhosts}
use Rattle.keeper_sqlite.specs.Stored.{Stored}
use Rattle.command_answers.specs.declared.status.Status.{Status}
use Rattle.command_words.specs.declared.words.Service.{Service}
use Rattle.system_edge.specs.Held.{AreHeld}
use Rattle.system_edge.specs.Tables.{HoldsFiles}
use Rattle.pending_keeper.specs.Pending.{PendingView}
use Rattle.allocation_cli.specs.Running.{RunsAt, RunsOver, RunsOverFiles, StreamsUsed, waiting_over}

module _ {P D L X : Type 0} (p : KeeperGhosts P) (d : DoorGhosts D L) (l : LinkGhosts L) (words : List (List ℕ)) (service : Option Service) (streams : StreamsUsed) (keeper : P) where
  -- where no service is named, each row is kept at once
  pub runs_at_once : (keeper' : P) → service ≡ None → (result : Result Status X) → IfOk result (RunsAt p d l words service streams keeper keeper')
      → IfOk result (RunsOver p d l service words streams keeper keeper')
  runs_at_once keeper' none (Ok status) runs =
      subst (λ s. RunsOver p d l s words streams keeper keeper' status) (sym none) (subst (λ s. RunsAt p d l words s streams keeper keeper' status) none runs)
  runs_at_once keeper' none (Err what) runs = tt

  -- where one is named, rows wait
  pub runs_waiting : (first last : PendingView P) (keeper' : P) (named : Service) → first ≡ record { keeper = keeper; rows = [] } → service ≡ Some named → keeper' ≡ last.keeper → (result : Result Status X)
      → IfOk result (RunsAt (waiting_over p) d l words service streams first last) → IfOk result (RunsOver p d l service words streams keeper keeper')
  runs_waiting first last keeper' named none some same (Ok status) runs =
      let over : RunsAt (waiting_over p) d l words (Some named) streams (record { keeper = keeper; rows = [] }) last status =
      subst (λ (f : PendingView P). RunsAt (waiting_over p) d l words (Some named) streams f last status) none (subst (λ s. RunsAt (waiting_over p) d l words s streams first last status) some runs) in
      subst (λ k. RunsOver p d l service words streams keeper k status) (sym same)
      (subst (λ s. RunsOver p d l s words streams keeper last.keeper status) (sym some) (record { left = last.rows; runs = over }))
  runs_waiting first last keeper' named none some same (Err what) runs = tt

-- what runs over a keeper of two files runs over the files
pub over_files : {F D L X : Type 0} {g : disk.Ghosts F} → (p : KeeperGhosts (Stored (FileStore F g))) (d : DoorGhosts D L) (l : LinkGhosts L) (image : Image) (words : List (List ℕ)) (service : Option Service)
    (streams : StreamsUsed) (keeper keeper' : Stored (FileStore F g)) → HoldsFiles image keeper → (IsTold (p.seen keeper).tables → AreHeld image (p.seen keeper).tables) → (result : Result Status X)
    → IfOk result (RunsOver p d l service words streams keeper keeper') → IfOk result (RunsOverFiles p d l image words service streams)
over_files p d l image words service streams keeper keeper' holds records (Ok status) runs =
    record { keeper = keeper; keeper' = keeper'; holds = holds; records = records; runs = runs }
over_files p d l image words service streams keeper keeper' holds records (Err what) runs = tt

-- an error for a reason is an error for a wider one
pub err_wider : {X Y : Type 0} {P Q : Y → Type 0} → (result : Result X Y) → ((what : Y) → P what → Q what) → IfErr result P → IfErr result Q
err_wider (Ok value) wider reason = tt
err_wider (Err what) wider reason = wider what reason
