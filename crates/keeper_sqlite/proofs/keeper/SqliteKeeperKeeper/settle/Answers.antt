use Rattle.std.proofs.Common.{rules}
use Rattle.sqlite.specs.Held.{state}
use Rattle.stored_tables.specs.Told.{told}
use Rattle.kept_rows.proofs.Unchanged.{told_same}
use Rattle.keeper_sqlite.proofs.keeper.SqliteKeeperKeeper.settle.Goals as goal

pub returns-clause-look : goal.returns-clause-look
returns-clause-look g c = record {
  call = search rules;
  told = told_same (told (state g.S.Store c.args.self.now.connection));
  spare = search rules;
}
