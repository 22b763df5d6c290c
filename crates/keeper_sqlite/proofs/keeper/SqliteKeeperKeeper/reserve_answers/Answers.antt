use Rattle.std.proofs.Common.{rules}
use Rattle.sqlite.specs.Held.{state}
use Rattle.stored_tables.specs.Told.{told}
use Rattle.kept_rows.proofs.Unchanged.{told_same}
use Rattle.keeper_sqlite.proofs.keeper.SqliteKeeperKeeper.reserve_answers.Goals as goal

pub returns : goal.returns
returns g c = record {
  call = search rules;
  ok = search rules;
  told = told_same (told (state g.S.Store c.args.self.now.connection));
  kept = told_same (told (state g.S.Store c.args.self.now.connection));
  waits = search rules;
  spare = search rules;
}
