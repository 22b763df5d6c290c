use Rattle.std.proofs.Common.{rules}
use Rattle.kept_rows.specs.Tables.{with_season}
use Rattle.keeper_sqlite.specs.declared.transactions.Change.TheVariants as change
use Rattle.keeper_sqlite.proofs.KeeperLemmas.{put_shows, season_puts, season_empty}
use Rattle.keeper_sqlite.proofs.keeper.SqliteKeeperKeeper.put_season.Goals as goal

pub returns : goal.returns
returns g c =
    let old = c.args.self.now.connection in
    let new = c.commit.new.self.connection in
    let it = put_shows g.S.Store (change.Season c.args.text) (with_season c.args.text.now) old new c.commit.result (g.met.S.Store.shut_if_dirty new.store) (g.met.S.Store.settled new.store)
    c.commit.ensures.stays_err c.commit.ensures.made c.commit.ensures.kept in
    let puts = season_puts g.S.Store c.args.text old in
    record {
      ok = it.ok puts;
      err = it.err;
      stays = it.stays puts;
      crash = it.crash puts;
      alone = it.alone;
      blamed = search rules;
      change = search rules;
      empty = λ strict. season_empty g.S.Store strict c.args.text.now old new c.commit.result c.commit.ensures.kept;
    }
