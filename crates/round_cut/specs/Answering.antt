-- What a reply of the office does to the office and to its keeper.
use Rattle.std.specs.Prelude.{◌≡◌, ℕ, Some, Result, IfOk, OnOk, OnErr, IsErrOf}
use Rattle.kept_rows.specs.Tables.{AreTold, IsTold}
use Rattle.office_moves.specs.History.{grown}
use Rattle.office_moves.specs.Moves.{Does}
use Rattle.office_moves.specs.declared.decide.Decision.{Decision}
use Rattle.office_moves.specs.declared.moves.Act.{Act}
use Rattle.office_moves.specs.declared.moves.Reply.{Reply}
use Rattle.keeper_mem.specs.Keeper.{Blames, KeeperView, KeptGoes}
use Rattle.round_cut.specs.Office.{OfficeView}
use Rattle.round_cut.specs.declared.fault.OfficeFault.{OfficeFault}
use Rattle.round_cut.specs.declared.fault.OfficeFault.TheVariants.{KeeperFault}

-- The decision is carried out, and the act follows the entries under this number.
pub record Accepts {K : Type 0} (number : ℕ) (decision : Decision) (act : Act) (old new : OfficeView K) (result : Result Reply OfficeFault) : Type 0 where
  pub moves : IfOk result (λ reply. Does old.season old.state decision reply new.state)
  pub entries : OnOk result (new.entries ≡ grown old.entries number (Some act))

-- The season is unchanged. After a fault the entries, the state and the tables are unchanged too.
-- A fault of the keeper is reported if and only if the keeper failed.
-- If the keeper then lets rows wait, it keeps the same tables as before.
pub record KeepsOn {K X : Type 0} (seen : K → KeeperView) (old new : OfficeView K) (result : Result X OfficeFault) : Type 0 where
  pub season : new.season ≡ old.season
  pub err : OnErr result ((new.entries ≡ old.entries) × (new.state ≡ old.state))
  pub told : OnErr result (AreTold (seen old.keeper).tables (seen new.keeper).tables)
  pub told_before : IsTold (seen new.keeper).tables → IsTold (seen old.keeper).tables
  pub blamed : Blames (IsErrOf result KeeperFault) (seen old.keeper) (seen new.keeper)
  pub goes : KeptGoes (seen old.keeper) (seen new.keeper)
