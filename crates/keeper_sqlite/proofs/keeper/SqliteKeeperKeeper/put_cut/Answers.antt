use Rattle.std.proofs.Common.{rules}
use Rattle.kept_rows.specs.Tables.{with_cut}
use Rattle.keeper_sqlite.specs.declared.transactions.Change.TheVariants as change
use Rattle.keeper_sqlite.proofs.KeeperLemmas.{put_shows, cut_puts}
use Rattle.keeper_sqlite.proofs.MeaningLemmas.{cut_rises}
use Rattle.keeper_sqlite.proofs.keeper.SqliteKeeperKeeper.put_cut.Goals as goal

pub returns : goal.returns
returns g c =
    let old = c.args.self.now.connection in
    let new = c.commit.new.self.connection in
    let it = put_shows g.S.Store (change.Cut c.args.rows) (with_cut c.args.rows.now) old new c.commit.result (g.met.S.Store.shut_if_dirty new.store) (g.met.S.Store.settled new.store)
    c.commit.ensures.stays_err c.commit.ensures.made c.commit.ensures.kept in
    let puts = cut_puts g.S.Store c.args.rows old in
    record {
      ok = it.ok puts;
      err = it.err;
      stays = it.stays puts;
      crash = it.crash puts;
      alone = it.alone;
      blamed = search rules;
      change = search rules;
      rises = cut_rises g.S.Store c.args.rows.now old new c.commit.result (it.stays puts);
    }
