use Rattle.std.proofs.Common.{true, rules}
use Rattle.sqlite.specs.Held.{state}
use Rattle.kept_rows.specs.Tables.{IsFound}
use Rattle.keeper_mem.specs.Batch.{with_all}
use Rattle.stored_tables.specs.Told.{told}
use Rattle.keeper_sqlite.specs.declared.transactions.Change.TheVariants as change
use Rattle.keeper_sqlite.proofs.KeeperLemmas.{put_shows}
use Rattle.keeper_sqlite.proofs.PutLemmas.{rows_put}
use Rattle.keeper_sqlite.proofs.keeper.SqliteKeeperBatch.put_all.Goals as goal

pub returns : goal.returns
returns g c =
    let old = c.args.self.now.connection in
    let new = c.commit.new.self.connection in
    let it = put_shows g.S.Store (change.Rows c.args.rows) (with_all c.args.rows.now) old new c.commit.result (g.met.S.Store.shut_if_dirty new.store) (g.met.S.Store.settled new.store)
    c.commit.ensures.stays_err c.commit.ensures.made c.commit.ensures.kept in
    let puts = λ (found : IsFound true (told (state g.S.Store old))). rows_put g.S.Store c.args.rows old found in
    record {
      ok = λ found. it.ok (puts found);
      err = it.err;
      stays = λ found. it.stays (puts found);
      crash = λ found. it.crash (puts found);
      alone = it.alone;
      blamed = search rules;
      change = search rules;
    }
